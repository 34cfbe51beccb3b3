-- The key of an atom is that of its carrier.
use Rattle.cadf_split.proofs.Common.{common_steps, arith, ◌≡◌, Bool, cond, List, ◌∷◌, take, Text, Unit, IsOfCarrier, key}

key_of : (unit : Unit) (b : Bool) (x : Text) (xs : List Text) → key unit (cond b (x ∷ take 2 xs) (x ∷ xs)) ≡ key unit (x ∷ xs)
key_of unit b x xs = grind (arith, common_steps)

pub key_of_carrier : (unit : Unit) → IsOfCarrier (key unit)
key_of_carrier unit given = grind (arith, common_steps)
