-- The lines of a sketch's file that have been read so far, and the values decoded from them.
--     told_lines told          the lines after the log line that have these values
--     AreTold told             the invariant of the values so far
use Rattle.std.specs.Prelude.{◌≡◌, ◌≤◌, ◌<◌, ◌*◌, ℕ, List, [], ◌∷◌, ◌++◌, length, map, Some}
use Rattle.std.specs.List.{AllByRecursion}
use Rattle.cadf_sketch.specs.SketchFile.{head_line, counts_line, cell_line, IsHead, IsTally, IsCell}
use Rattle.cadf_sketch.specs.SketchVerdict.{cell_in}
use Rattle.cadf_sketch.specs.declared.layout.Head.{Head}
use Rattle.cadf_sketch.specs.declared.tally.Tally.{Tally}
use Rattle.cadf_sketch.specs.declared.cell.Cell.{Cell}
use Rattle.cadf_sketch.specs.declared.sketch_lines.Told.{Told}
use Rattle.cadf_sketch.specs.declared.sketch_lines.Told.TheVariants.{Nothing, Beginning, Cells}

abbrev pub told_lines : Told → List (List ℕ)
told_lines Nothing = []
told_lines (Beginning head) = head_line head ∷ []
told_lines (Cells head tally cells) = head_line head ∷ counts_line tally ∷ map cell_line cells.items

-- the parts satisfy their invariants, and there are at most as many cells as the layout has
pub record AreCellsOf (h : Head) (t : Tally) (cs : List Cell) : Type 0 where
  pub head : IsHead h
  pub tally : IsTally t
  pub cells : AllByRecursion IsCell cs
  pub within : length cs ≤ 3 * h.layout.size

abbrev pub AreTold : Told → Type 0
AreTold Nothing = Unit {0}
AreTold (Beginning head) = IsHead head
AreTold (Cells head tally cells) = AreCellsOf head tally cells.items

-- a further cell was still to come, and the cell of the line is appended
pub record IsCellPut (head : Head) (old new : List Cell) (line : List ℕ) : Type 0 where
  pub more : length old < 3 * head.layout.size
  pub cell : Cell
  pub read : cell_in line ≡ Some cell
  pub put : new ≡ old ++ cell ∷ []
