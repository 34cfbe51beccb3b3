-- The hash of a tree from its leaves, rising, in one pass.
--     parting a b              the first bit at which a and b differ; 256: at none
--     IsBefore a b, Rises ds   at this bit a has 0 and b has 1; each of ds is before all later ones
--     extended n a h ds k      the hash of a part that begins with a and has the hash h so far, with those leaves after it that share the
--                              first k bits of a; and the leaves that are left. There are at most n
--     AreApart n i ds          no two of ds have the same n bits from bit i on
use Rattle.std.specs.Prelude.{◌≡◌, ◌<◌, ◌≤◌, length, ℕ, zero, suc, nat_lt, Bool, true, false, not, if◌then◌else◌, List, [], ◌∷◌}
use Rattle.std.specs.List.{AllByRecursion}
use Rattle.cadf_tree.specs.Tree.{Text, leaf_hash, node_hash}
use Rattle.cadf_tree.specs.Tree.{bit, zeros, ones}

abbrev pub alike : Bool → Bool → Bool
alike true b = b
alike false b = not b

unfoldable pub parting_from : ℕ → ℕ → Text → Text → ℕ
parting_from zero i a b = i
parting_from (suc n) i a b = if alike (bit i a) (bit i b) then parting_from n (suc i) a b else i

unfoldable pub parting : Text → Text → ℕ
parting a b = parting_from 256 0 a b

abbrev pub extended : ℕ → Text → Text → List Text → ℕ → Text × List Text
extended zero a h ds k = (h, ds)
extended (suc n) a h [] k = (h, [])
extended (suc n) a h (d ∷ ds) k =
    if nat_lt (parting a d) k then (h, d ∷ ds)
    else let right = extended n d (leaf_hash d) ds (suc (parting a d)) in extended n a (node_hash h right.0) right.1 k

pub record IsBefore (a b : Text) : Type 0 where
  pub some : parting a b < 256
  pub low : bit (parting a b) a ≡ false
  pub high : bit (parting a b) b ≡ true

abbrev pub Rises : List Text → Type 0
Rises [] = Unit {0}
Rises (d ∷ ds) = AllByRecursion (IsBefore d) ds × Rises ds

unfoldable pub AreApart : ℕ → ℕ → List Text → Type 0
AreApart zero i ds = length ds ≤ 1
AreApart (suc n) i ds = AreApart n (suc i) (zeros i ds) × AreApart n (suc i) (ones i ds)
