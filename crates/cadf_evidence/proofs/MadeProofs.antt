-- The proofs that are made are accepted.
use Rattle.cadf_evidence.proofs.Common.{◌≡◌, ◌∙◌, ℕ, ◌+◌, List, [], ◌∷◌, map, Bool, true, false, not, Option, Some, None, refl, sym, ap, subst, inl, inr, true≢false, arith, common_steps, false_from_ne_true, bytes_eq-Decides, option_or, Text, Contents, Listed, rising, text_same, text_total, texts_same, texts_total, listed-rising, rising-listed, map_listed, atom_digest, Digests, digests_of, GrowthIsComplete, made_parts, member, shown, state, PresenceIsComplete, asked_kinds, first_digest, is_between, kind_if, presence_parts, tree_of, Both, Added, Went, Part, Node, Hash, Leaf, error_of, first_unlisted, gone_fault, log_fault, placed, told_growth, unless_log, AllGoneAreListed, FactsProofIsTold, GrowthProofIsTold, facts_growth, keys_growth_parts, seal_of, fact_digests, key_digests, told, Asked, Fact, Key, state_fault, first_fault, verdict_on, KeysProofIsTold, IsSet, root, Texts, text_cmp, text_unless, tree_refusal, SealedSet, Facts, Keys, is_text, if◌then◌else◌, InventoryModel, keys_of, inventory_of, growth_parts, ListedModel, facts_of, listed_keys, list_over, list_fault, IsOfLog, ListedGrowthIsGrowth, OtherLog, Ok}
use Rattle.cadf_join.specs.Sets as set
use Rattle.cadf_evidence.proofs.AskedDigests.{AreWithin, any_same, digests_around, digests_within, keys_around, keys_within}
use Rattle.cadf_evidence.proofs.SetsOfDigests.{facts_are_set, keys_are_set}
use Rattle.cadf_evidence.proofs.ToldFacts.{listed_member, member_listed}

-- ---- lists with the same members ask for the same parts

module _ (fs gs : List Text) (to : AreWithin fs gs) (from : AreWithin gs fs) where
  same_kinds : (before : Option Text) (ds : List Text) → asked_kinds before ds fs ≡ asked_kinds before ds gs
  same_kinds before [] = refl
  same_kinds before (d ∷ ds) = λ i. kind_if (any_same (is_between before (first_digest ds)) fs gs to from i) ∷ same_kinds (Some d) ds i

  pub same_parts : (ds : List Text) → presence_parts ds fs ≡ presence_parts ds gs
  same_parts ds = ap (made_parts (tree_of ds)) (same_kinds None ds)

-- ---- facts that are as asked

right_state : (a : Asked) (absent : Bool) (k : ℕ) → state_fault a absent k (Some (not absent)) ≡ None
right_state a true k = refl
right_state a false k = refl

all_right : (a : Asked) (absent : Bool) (ps : List Part) (k : ℕ) (fs : List Text) → ((f : Text) → Listed f fs → state ps f ≡ Some (not absent))
    → first_fault a absent ps k fs ≡ None
all_right a absent ps k [] right = refl
all_right a absent ps k (f ∷ fs) right = λ i.
    option_or ((ap (state_fault a absent k) (right f (inl refl)) ∙ right_state a absent k) i)
    (all_right a absent ps (k + 1) fs (λ g l. right g (inr l)) i)

has_member : (s : Digests) (f : Text) (b : Bool) → set.contains s f ≡ b → member f (rising s) ≡ b
has_member s f true e = listed_member f (rising s) (rising-listed text_total text_same s f e)
has_member s f false e =
    false_from_ne_true (member f (rising s)) (λ m. true≢false (sym (listed-rising text_total text_same s f (member_listed f (rising s) m)) ∙ e))

-- ws are the digests of qs, in any order
module _ (complete : PresenceIsComplete) (a : Asked) (held : Digests) (is : IsSet (rising held)) (ws : List Text) (qs : List Texts) (absent : Bool)
    (to : AreWithin ws (map atom_digest qs)) (from : AreWithin (map atom_digest qs) ws) where
  made_told : ((q : Texts) → Listed q qs → set.contains held (atom_digest q) ≡ not absent)
      → verdict_on a (root (rising held)) (presence_parts (rising held) ws) true qs absent ≡ Ok (told absent qs)
  made_told asked =
      let ds = rising held in
      let fs = map atom_digest qs in
      let parts = same_parts ws fs to from ds in
      let c = complete ds fs is in
      let states = λ (f : Text) (l : Listed f fs).
      let t = map_listed atom_digest qs f l in
      let there = subst (λ y. set.contains held y ≡ not absent) (sym t.2) (asked t.0 t.1) in
      c.states f (listed_member f fs l) ∙ ap Some (has_member held f (not absent) there) in
      let tree : tree_refusal (shown (root ds) (presence_parts ds ws) fs) ≡ None =
      ap (λ ps. tree_refusal (shown (root ds) ps fs)) parts ∙ ap tree_refusal c.accepted in
      let each : first_fault a absent (presence_parts ds ws) 1 fs ≡ None =
      ap (λ ps. first_fault a absent ps 1 fs) parts ∙ all_right a absent (presence_parts ds fs) 1 fs states in
      λ i. text_unless (option_or (tree i) (option_or None (each i))) (told absent qs)

pub facts_proof_is_told : PresenceIsComplete → FactsProofIsTold
facts_proof_is_told complete held given absent asked =
    made_told complete Fact (digests_of atom_digest held.atoms) (facts_are_set held.atoms) (fact_digests given.atoms) (rising given.atoms) absent
    (digests_around given.atoms) (digests_within given.atoms) (λ q l. asked q (listed-rising texts_total texts_same given.atoms q l))

pub keys_proof_is_told : PresenceIsComplete → KeysProofIsTold
keys_proof_is_told complete held list absent asked =
    let ds = map atom_digest list.keys in
    made_told complete Key (keys_of held.atoms) (keys_are_set held.atoms) (rising {R = text_cmp} (set.from_list ds)) list.keys absent
    (keys_around ds) (keys_within ds) asked

-- ---- growth

of_log : (log : Text) (list : Option ListedModel) → IsOfLog log list → list_fault log list ≡ None
of_log log None is = refl
of_log log (Some l) is = ap (λ x. if is_text x log then None else Some (OtherLog 4)) is ∙ ap (λ b. if b then None else Some (OtherLog 4)) ((bytes_eq-Decides log log).1 refl)

no_log : (a b : Text) (list : Option ListedModel) → a ≡ b → IsOfLog b list → log_fault a b b list ≡ None
no_log a b list e is =
    let same = (bytes_eq-Decides b b).1 refl in
    ap (λ x. log_fault x b b list) e ∙ (λ i. if same i then (if same i then list_fault b list else Some (OtherLog 3)) else Some (OtherLog 2)) ∙ of_log b list is

nothing_went : (t : SealedSet) (list : Option ListedModel) (ps : List Part) → AllGoneAreListed t list ps → first_unlisted t list ps ≡ None
nothing_went t list [] each = refl
nothing_went t list (Node ∷ ps) each = nothing_went t list ps each
nothing_went t list (Hash h ∷ ps) each = nothing_went t list ps each
nothing_went t list (Leaf Both d ∷ ps) each = nothing_went t list ps each
nothing_went t list (Leaf Added d ∷ ps) each = nothing_went t list ps each
nothing_went t list (Leaf Went d ∷ ps) each = λ i. option_or (if each.0 i then None else Some d) (nothing_went t list ps each.1 i)

no_gone : (t : SealedSet) (list : Option ListedModel) (ps : List Part) → AllGoneAreListed t list ps → gone_fault t list ps ≡ None
no_gone t list ps each = grind (arith, common_steps, nothing_went)

pub growth_proof_is_told : GrowthIsComplete → GrowthProofIsTold
growth_proof_is_told complete old new list same of_list facts_listed keys_listed =
    let facts = complete (fact_digests old.atoms) (fact_digests new.atoms) (facts_are_set old.atoms) (facts_are_set new.atoms) in
    let keys = complete (key_digests old.atoms) (key_digests new.atoms) (keys_are_set old.atoms) (keys_are_set new.atoms) in
    let logs = no_log old.log new.log list same of_list in
    let one = no_gone Facts list (facts_growth old new) facts_listed in
    let two = no_gone Keys list (keys_growth_parts old new) keys_listed in
    λ i. unless_log (logs i)
    (told_growth (option_or (error_of (placed Keys (keys.accepted i))) (option_or (one i) (two i))) list (placed Facts (facts.accepted i)))

pub listed_growth : ((facts keys : InventoryModel) → facts_of (list_over facts keys) ≡ rising facts.digests)
    → ((facts keys : InventoryModel) → listed_keys (list_over facts keys) ≡ rising keys.digests) → ListedGrowthIsGrowth
listed_growth facts keys old new =
    let n = inventory_of old in
    let k : InventoryModel = record { log = old.log; digests = keys_of old.atoms } in
    λ i. record {
      log = new.log;
      facts = growth_parts (facts n k i) (fact_digests new.atoms);
      keys = Some (growth_parts (keys n k i) (key_digests new.atoms));
    }
