-- A line and its turn.
use Rattle.cadf_script.proofs.Common.{◌≡◌, ◌≢◌, ℕ, List, false, cond, length, refl, sym, ◌∙◌, subst, eqb, decimal, Turn, Learns, Asks, Answers, Sends, Delivers, Learn, Ask, Answer, Send, Deliver, Command, word_of, command_of, AreWords, IsSiteAndText, IsDocumentOf, IsTurn, IsNoTurn, IsCut, has_blank, SpellsNoDocument}
use Rattle.cadf_script.proofs.Cuts.{cut_unique, decimal_unblank}

word_unblank : (c : Command) → has_blank (word_of c) ≡ false
word_unblank Learn = refl
word_unblank Ask = refl
word_unblank Answer = refl
word_unblank Send = refl
word_unblank Deliver = refl

-- no two words are of one length
abbrev by_length : ℕ → Command
by_length n = cond (eqb n 3) Ask (cond (eqb n 4) Send (cond (eqb n 5) Learn (cond (eqb n 6) Answer Deliver)))

back : (c : Command) → by_length (length (word_of c)) ≡ c
back Learn = refl
back Ask = refl
back Answer = refl
back Send = refl
back Deliver = refl

parts : (line word rest : List ℕ) (t : Turn) → IsCut line word rest → (h : IsTurn line t) → (word ≡ word_of (command_of t)) × (rest ≡ h.0)
parts line word rest t cut h =
    cut_unique word rest (word_of (command_of t)) h.0 cut.first (word_unblank (command_of t)) (sym cut.is ∙ h.1)

pub no_turn_word : (line word rest : List ℕ) → IsCut line word rest → ((c : Command) → word ≢ word_of c) → IsNoTurn line
no_turn_word line word rest cut none t h = none (command_of t) (parts line word rest t cut h).0

-- ---- the document that a site learns

pub no_learn_text : (words text : List ℕ) (site : ℕ) → IsSiteAndText words site text → SpellsNoDocument text
    → (t : Turn) → command_of t ≡ Learn → ¬ AreWords words t
no_learn_text words text site at none (Learns s doc) e (other, place, document) =
    none doc (subst (λ x. IsDocumentOf x doc) (same_text other s place) document)
  where
    same_text : (other : List ℕ) (s : ℕ) → IsSiteAndText words s other → other ≡ text
    same_text other s place =
        (cut_unique (decimal s) other (decimal site) text (decimal_unblank s place.0) (decimal_unblank site at.0) (sym place.1 ∙ at.1)).1
no_learn_text words text site at none (Asks s) e h = other_command (Asks s) e
  where
    other_command : (t : Turn) → Ask ≡ Learn → ⊥
    other_command t e = cc
no_learn_text words text site at none (Answers s m) e h = other_command e
  where
    other_command : Answer ≡ Learn → ⊥
    other_command e = cc
no_learn_text words text site at none (Sends s) e h = other_command e
  where
    other_command : Send ≡ Learn → ⊥
    other_command e = cc
no_learn_text words text site at none (Delivers m s) e h = other_command e
  where
    other_command : Deliver ≡ Learn → ⊥
    other_command e = cc
