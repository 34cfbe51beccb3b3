-- Why no inventory is decoded from a sketch.
--     differing own sketch     the sketch's cells with the own digests XORed in: those of both sides cancel
--     IsPeeled own sketch theirs   digests were removed until no cell had a lone one, or until they were as many as there are
--                                  cells, and never more; theirs is the own inventory with these flipped
--     HasTooFewCells own sketch    peeling led to an inventory whose digest is not the sketch's
--     IsReadFault own sketch f     f is why no inventory is decoded
use Rattle.std.specs.Prelude.{◌≡◌, ◌≤◌, ◌*◌, ◌≢◌, ◌⊎◌, List, length}
use Rattle.cadf_join.specs.Sets.{rising}
use Rattle.cadf_join.specs.Contents.{Text}
use Rattle.cadf_set.specs.Inventory.{InventoryModel}
use Rattle.cadf_inventory.specs.InventoryFile.{inventory_digest}
use Rattle.cadf_sketch.specs.Cells.{toggled_all}
use Rattle.cadf_sketch.specs.Flips.{flipped}
use Rattle.cadf_sketch.specs.Peeling.{Peels, HasNoLone}
use Rattle.cadf_sketch.specs.Sketches.{SketchModel}
use Rattle.cadf_sketch.specs.Tallies.{tally_of, cells_to_ask}
use Rattle.cadf_sketch.specs.declared.cell.Cell.{Cell}
use Rattle.cadf_sketch.specs.declared.reading.ReadFault.{ReadFault}
use Rattle.cadf_sketch.specs.declared.reading.ReadFault.TheVariants.{OtherLog, TooFewCells, Memory}

abbrev pub differing : InventoryModel → SketchModel → List Cell
differing own sketch = toggled_all sketch.cells (rising own.digests) sketch.layout

pub record IsPeeled (own : InventoryModel) (sketch : SketchModel) (theirs : InventoryModel) : Type 0 where
  pub taken : List Text
  pub rest : List Cell
  pub chain : Peels sketch.layout (differing own sketch) taken rest
  pub most : length taken ≤ 3 * sketch.layout.size
  pub stops : HasNoLone sketch.layout rest ⊎ (length taken ≡ 3 * sketch.layout.size)
  pub flips : theirs ≡ flipped own taken

pub record HasTooFewCells (own : InventoryModel) (sketch : SketchModel) : Type 0 where
  pub log : own.log ≡ sketch.log
  pub theirs : InventoryModel
  pub peeled : IsPeeled own sketch theirs
  pub other : inventory_digest theirs ≢ sketch.digest

-- `Memory` says nothing: an allocation may fail at any time
abbrev pub IsReadFault : InventoryModel → SketchModel → ReadFault → Type 0
IsReadFault own sketch OtherLog = own.log ≢ sketch.log
IsReadFault own sketch (TooFewCells cells) = HasTooFewCells own sketch × (cells ≡ cells_to_ask (tally_of (rising own.digests)) sketch.tally)
IsReadFault own sketch Memory = Unit {0}
