-- Lists of a set that is kept as a set of chains.
use Rattle.cadf_pathset.proofs.Common.{◌≡◌, List, [], ◌∷◌, ap, refl, filter_map, Texts, Contents, IsLeastWith, texts_total, texts_same, strip}
use Rattle.cadf_join.specs.laws.Sets as sets

-- each list follows the empty one
pub all_stripped : (ls : List Texts) → filter_map (strip []) ls ≡ ls
all_stripped [] = refl
all_stripped (l ∷ ls) = ap (λ z. l ∷ z) (all_stripped ls)

-- the least of all sets that have what is wanted has nothing else
pub least_is : (wanted least : Contents) → IsLeastWith (λ s. Unit {0}) wanted least → least ≡ wanted
least_is wanted least h = sets.same_from_within texts_total texts_same least wanted (h.is_least wanted tt (λ q w. w)) h.covers
