-- The merge of two ascending lists, and the difference of two.
--     sorted_merge cmp true xs ys    the members of both, each once, ascending
--     sorted_without cmp xs ys       the members of the first that the second lacks, ascending
--     IsMerging ls m                 a merge's lines are those of our list compared last and of a prefix of theirs
use Rattle.std.specs.Prelude.{List, [], ◌∷◌}
use Rattle.std.specs.declared.cmp.Ordering.{Ordering}
use Rattle.std.specs.Ordering.{match_ordering}
use Rattle.cadf_join.specs.Contents.{Texts}
use Rattle.cadf_pathset.specs.Walks.{IsLinePrefix}
use Rattle.cadf_pathset.specs.declared.union.Merger.{Merger}
pub use Rattle.std.specs.Set.{sorted_merge, merge_step}

module _ {K : Type 0} (cmp : K → K → Ordering) where
  abbrev pub without_step : K → List K → (List K → List K) → List K → List K
  without_step x xs on [] = x ∷ xs
  without_step x xs on (y ∷ ys) = match_ordering (cmp x y) (x ∷ on (y ∷ ys)) (on ys) (without_step x xs on ys)

  abbrev pub sorted_without : List K → List K → List K
  sorted_without [] ys = []
  sorted_without (x ∷ xs) ys = without_step x xs (sorted_without xs) ys

abbrev pub IsMerging : List Texts → Merger → Type 0
IsMerging ls m = IsLinePrefix ls m.line.items m.out.items m.agreed m.cursor.0
