-- When a sketch has enough cells for a set of digests that two inventories don't share.
--     IsEnough layout s      each non-empty subset has a lone cell, lone cells have digests of the subset, and there are more cells than digests
use Rattle.std.specs.Prelude.{◌≡◌, ◌<◌, ◌*◌, ◌≢◌, ℕ, true, length}
use Rattle.cadf_join.specs.Sets as set
use Rattle.cadf_join.specs.Sets.{rising}
use Rattle.cadf_join.specs.Contents.{IsWithin}
use Rattle.cadf_line.specs.Missing.{Digests}
use Rattle.cadf_sketch.specs.Layouts.{LayoutModel}
use Rattle.cadf_sketch.specs.Cells.{cell_at, is_lone}
use Rattle.cadf_sketch.specs.Sketches.{cells_of}

pub record IsEnough (layout : LayoutModel) (s : Digests) : Type 0 where
  pub one_is_lone : (part : Digests) → IsWithin part s → part ≢ set.empty
      → (place : ℕ) × (place < 3 * layout.size) × (is_lone (cell_at (cells_of part layout) place) place layout ≡ true)
  pub lone_is_one : (part : Digests) (place : ℕ) → IsWithin part s → place < 3 * layout.size
      → is_lone (cell_at (cells_of part layout) place) place layout ≡ true → set.contains part (cell_at (cells_of part layout) place).digest ≡ true
  pub fits : length (rising s) < 3 * layout.size
