-- What is made of a tree, by its halves.
--     IsHalved ds m   digests that rise have the first m of them, which rise too, in the left half of their tree; and what is made of it is
--                     made of both halves
use Rattle.std.specs.Prelude.{◌≡◌, ◌<◌, ℕ, true, List, ◌∷◌, ◌++◌, length, take, drop}
use Rattle.cadf_tree.specs.Tree.{Text, tree_of}
use Rattle.cadf_tree.specs.OnePass.{Rises}
use Rattle.cadf_tree.specs.Made.{Kinds, any_shown, made_parts}
use Rattle.cadf_tree.specs.declared.parts.Part.TheVariants.{Node}

pub record IsHalved (ds : List Text) (m : ℕ) : Type 0 where
  pub some : 0 < m
  pub less : m < length ds
  pub low : Rises (take m ds)
  pub high : Rises (drop m ds)
  pub parts : (ks : Kinds) → any_shown ks ≡ true
      → made_parts (tree_of ds) ks ≡ Node ∷ made_parts (tree_of (take m ds)) (take m ks) ++ made_parts (tree_of (drop m ds)) (drop m ks)
