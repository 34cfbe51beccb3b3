-- Sites that learn documents and exchange messages, as a machine over any schedule. A list of turns has the newest first.
--     Message, World      what was sent, and the state of all sites
--     after turns         the world after the turns, or the first fault
--     plain turns j       what site j has if each answer and each send carried the sender's whole set
--     learnt_atoms turns  the atoms of all documents
--     Means turns m x     what the message of that number means, if no two atoms share a digest
use Rattle.std.specs.Prelude.{◌≡◌, ◌⊎◌, ℕ, suc, ◌+◌, Bool, true, cond, ◌&&◌, List, [], ◌∷◌, length, Option, Some, None, Result, Ok, Err, nat_eq, nat_lt, nat_le}
use Rattle.cadf_join.specs.Sets as set
use Rattle.cadf_join.specs.Contents.{Text, Texts, Contents, Has, IsWithin}
use Rattle.cadf_line.specs.Atoms.{is_text}
use Rattle.cadf_atom.specs.Contributions.{document_atoms}
use Rattle.cadf_line.specs.Missing.{Digests, digests_of, missing_by}
use Rattle.cadf_rehearsal.specs.declared.turn.Turn.{Turn}
use Rattle.cadf_rehearsal.specs.declared.turn.Turn.TheVariants.{Learn, Ask, Answer, Send, Deliver}
use Rattle.cadf_rehearsal.specs.declared.fault.RehearseFault.{RehearseFault}
use Rattle.cadf_rehearsal.specs.declared.fault.RehearseFault.TheVariants.{NoSite, NoMessage, NotInventory, WrongAddressee, OtherLog}

pub data Message : Type 0 where
  Inventory : (asker : ℕ) → Digests → Message
  PartFor : (asker : ℕ) → Contents → Message
  Whole : Contents → Message

-- each site's set, the number of messages made, and the messages, numbered from 1
pub record World : Type 0 where
  pub sites : ℕ → Contents
  pub made : ℕ
  pub messages : ℕ → Message

abbrev pub start : World
start = record { sites = λ j. set.empty; made = 0; messages = λ m. Whole set.empty }

-- f with the value v at k
abbrev pub with_at : {A : Type 0} → (ℕ → A) → ℕ → A → ℕ → A
with_at f k v j = cond (nat_eq k j) v (f j)

abbrev pub adds : World → ℕ → Contents → World
adds w j s = record { sites = with_at w.sites j (set.union (w.sites j) s); made = w.made; messages = w.messages }

abbrev pub makes : World → Message → World
makes w m = record { sites = w.sites; made = suc w.made; messages = with_at w.messages (suc w.made) m }

abbrev pub is_message : World → ℕ → Bool
is_message w m = nat_lt 0 m && nat_le m w.made

-- the document names this log or none
abbrev pub is_of_log : Text → Option Text → Bool
is_of_log log None = true
is_of_log log (Some named) = is_text named log

-- A turn that fails is refused with its number. The reasons: no site has the number that it names; no message has it yet;
-- the message to answer is no inventory; an answer goes to another site than the one that asked; the document names another log.
abbrev pub delivered : ℕ → World → ℕ → Message → Result World RehearseFault
delivered turn w j (Inventory a d) = Ok w
delivered turn w j (PartFor a p) = cond (nat_eq a j) (Ok (adds w j p)) (Err (WrongAddressee turn))
delivered turn w j (Whole s) = Ok (adds w j s)

module _ (digest : Texts → Text) (log : Text) (sites : ℕ) where
  abbrev pub answered : ℕ → World → ℕ → Message → Result World RehearseFault
  answered turn w j (Inventory a d) = Ok (makes w (PartFor a (missing_by digest (w.sites j) d)))
  answered turn w j (PartFor a p) = Err (NotInventory turn)
  answered turn w j (Whole s) = Err (NotInventory turn)

  -- r, if the site is one of them
  abbrev pub at_site : ℕ → ℕ → Result World RehearseFault → Result World RehearseFault
  at_site turn j r = cond (nat_lt j sites) r (Err (NoSite turn))

  -- r, if the message was made
  abbrev pub at_message : ℕ → World → ℕ → Result World RehearseFault → Result World RehearseFault
  at_message turn w m r = cond (is_message w m) r (Err (NoMessage turn))

  -- the turn of that number
  abbrev pub world_after_turn : ℕ → World → Turn → Result World RehearseFault
  world_after_turn turn w (Learn j d) = at_site turn j (cond (is_of_log log d.log) (Ok (adds w j (document_atoms d))) (Err (OtherLog turn)))
  world_after_turn turn w (Ask j) = at_site turn j (Ok (makes w (Inventory j (digests_of digest (w.sites j)))))
  world_after_turn turn w (Answer j m) = at_site turn j (at_message turn w m (answered turn w j (w.messages m)))
  world_after_turn turn w (Send j) = at_site turn j (Ok (makes w (Whole (w.sites j))))
  world_after_turn turn w (Deliver m j) = at_site turn j (at_message turn w m (delivered turn w j (w.messages m)))

  abbrev pub next : ℕ → Turn → Result World RehearseFault → Result World RehearseFault
  next turn t (Ok w) = world_after_turn turn w t
  next turn t (Err f) = Err f

  abbrev pub after : List Turn → Result World RehearseFault
  after [] = Ok start
  after (t ∷ earlier) = next (length earlier + 1) t (after earlier)

-- the number of messages that the turns make
abbrev pub made_by : List Turn → ℕ
made_by [] = 0
made_by (Learn j d ∷ earlier) = made_by earlier
made_by (Ask j ∷ earlier) = suc (made_by earlier)
made_by (Answer j m ∷ earlier) = suc (made_by earlier)
made_by (Send j ∷ earlier) = suc (made_by earlier)
made_by (Deliver m j ∷ earlier) = made_by earlier

abbrev mutual
  pub plain : List Turn → ℕ → Contents
  plain [] j = set.empty
  plain (Learn k d ∷ earlier) j = cond (nat_eq k j) (set.union (plain earlier j) (document_atoms d)) (plain earlier j)
  plain (Ask k ∷ earlier) j = plain earlier j
  plain (Answer k m ∷ earlier) j = plain earlier j
  plain (Send k ∷ earlier) j = plain earlier j
  plain (Deliver m k ∷ earlier) j = cond (nat_eq k j) (set.union (plain earlier j) (carried earlier m)) (plain earlier j)

  -- what the maker of message m had when it made it, for an answer or a send; nothing for an inventory
  pub carried : List Turn → ℕ → Contents
  carried [] m = set.empty
  carried (Learn k d ∷ earlier) m = carried earlier m
  carried (Ask k ∷ earlier) m = cond (nat_eq m (suc (made_by earlier))) set.empty (carried earlier m)
  carried (Answer k i ∷ earlier) m = cond (nat_eq m (suc (made_by earlier))) (plain earlier k) (carried earlier m)
  carried (Send k ∷ earlier) m = cond (nat_eq m (suc (made_by earlier))) (plain earlier k) (carried earlier m)
  carried (Deliver i k ∷ earlier) m = carried earlier m

abbrev pub learnt_atoms : List Turn → Contents
learnt_atoms [] = set.empty
learnt_atoms (Learn k d ∷ earlier) = set.union (document_atoms d) (learnt_atoms earlier)
learnt_atoms (Ask k ∷ earlier) = learnt_atoms earlier
learnt_atoms (Answer k m ∷ earlier) = learnt_atoms earlier
learnt_atoms (Send k ∷ earlier) = learnt_atoms earlier
learnt_atoms (Deliver m k ∷ earlier) = learnt_atoms earlier

-- An inventory lists a set that its asker has from then on. A delta has no atom that its sender didn't have, and all its sender's atoms that
-- its asker doesn't have from then on. A whole copy is the sender's set.
abbrev pub Means : (Texts → Text) → List Turn → ℕ → Message → Type 0
Means digest turns m (Inventory a d) = (carried turns m ≡ set.empty) × ((b : Contents) × (d ≡ digests_of digest b) × IsWithin b (plain turns a))
Means digest turns m (PartFor a p) = IsWithin p (carried turns m) × ((q : Texts) → Has (carried turns m) q → Has (plain turns a) q ⊎ Has p q)
Means digest turns m (Whole s) = s ≡ carried turns m
