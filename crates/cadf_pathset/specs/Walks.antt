-- Cursors that visit lists in order.
--     Place                  the list at which a cursor is, and the lists after it
--     Advances found a b     a cursor moved to the next list, which has `found` texts in common with the one before, or there is none
--     Steps more a b n m     the same; m is the minimum of n and the number of texts in common, or n if there is no next list
--     lists_ahead more a     the list at which a cursor is, if it is at one, and those after it
--     IsLinePrefix           the invariant of a merge, below
use Rattle.std.specs.Prelude.{◌≡◌, ℕ, Bool, true, false, List, [], ◌∷◌, length, take, min, Option, Some, None}
use Rattle.cadf_join.specs.Contents.{Texts}
use Rattle.cadf_pathset.specs.Nodes.{Agree, IsLine, place, shared}

abbrev pub Place : Type 0
Place = Texts × List Texts

abbrev pub Advances : Option ℕ → Place → Place → Type 0
Advances (Some n) old new = (old.1 ≡ new.0 ∷ new.1) × (n ≡ shared new.0 old.0)
Advances None old new = (old.1 ≡ []) × (new ≡ old)

abbrev pub Steps : Bool → Place → Place → ℕ → ℕ → Type 0
Steps true old new n m = (old.1 ≡ new.0 ∷ new.1) × (m ≡ min n (shared new.0 old.0))
Steps false old new n m = (old.1 ≡ []) × (new ≡ old) × (m ≡ n)

abbrev pub lists_ahead : Bool → Place → List Texts
lists_ahead true a = a.0 ∷ a.1
lists_ahead false a = []

-- ns is the line of our list compared last, which has n texts in common with theirs; ms is the output's line of a prefix of theirs
pub record IsLinePrefix (ls : List Texts) (ns ms : List ℕ) (n : ℕ) (theirs : Texts) : Type 0 where
  pub line : IsLine ls ns (place ls ns)
  pub agrees : Agree n (place ls ns) theirs
  pub out : IsLine ls ms (take (length ms) theirs)
