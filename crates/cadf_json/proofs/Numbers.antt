-- A number that is read and is no float is whole.
use Rattle.cadf_json.proofs.Common.{◌≡◌, List, ℕ, false, Some, subst, Num, is_float, number_of, IsWholeNumber}
use Rattle.cadf_json.proofs.Formed.{IsFormedNumber, formed_number}
use Rattle.cadf_json.proofs.Given.{Given}
use Rattle.cadf_json.proofs.Spelled.{whole_number}

pub whole_number_of : (s : List ℕ) (n : Num) → number_of s ≡ Some n → is_float n ≡ false → IsWholeNumber n
whole_number_of s n e f = whole_number n (subst (Given IsFormedNumber) e (formed_number s)) f
