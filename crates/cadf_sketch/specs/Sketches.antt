-- The model of a sketch.
--     cells_of s layout      the cells of a set of digests
--     sketch_of n layout     the sketch of an inventory
--     own_salt n             the salt made of the inventory's digest
--     asked n cells salt     the sketch with that many cells, and with that salt or, if none is given, the inventory's own
use Rattle.std.specs.Prelude.{◌+◌, ◌*◌, ◌/◌, ℕ, List, replicate, Option, unwrap_or, refl}
use Rattle.std.specs.Coded.{Coded, coded_ℕ, coded_list, coded×, code_by}
use Rattle.cadf_join.specs.Sets.{rising}
use Rattle.cadf_join.specs.Contents.{Text}
use Rattle.cadf_set.specs.Inventory.{InventoryModel}
use Rattle.cadf_line.specs.Missing.{Digests}
use Rattle.cadf_inventory.specs.InventoryFile.{inventory_digest}
use Rattle.cadf_sketch.specs.Layouts.{LayoutModel, coded_layout, layout_with}
use Rattle.cadf_sketch.specs.Cells.{nothing, toggled_all, word}
use Rattle.cadf_sketch.specs.Tallies.{tally_of}
use Rattle.cadf_sketch.specs.declared.cell.Cell.{Cell}
use Rattle.cadf_sketch.specs.declared.tally.Tally.{Tally}

pub record SketchModel : Type 0 where
  pub log : Text
  pub layout : LayoutModel
  pub digest : Text
  pub tally : Tally
  pub cells : List Cell

abbrev pub coded_cell : Coded Cell
coded_cell =
    code_by (List ℕ × ℕ) (coded× (coded_list coded_ℕ) coded_ℕ) (λ c. (c.digest, c.check)) (λ p. record { digest = p.0; check = p.1 }) (λ _. refl)

abbrev pub coded_tally : Coded Tally
coded_tally =
    code_by (ℕ × List ℕ) (coded× coded_ℕ (coded_list coded_ℕ)) (λ t. (t.digests, t.ones)) (λ p. record { digests = p.0; ones = p.1 }) (λ _. refl)

abbrev pub coded_sketch : Coded SketchModel
coded_sketch =
    code_by (Text × (LayoutModel × (Text × (Tally × List Cell))))
    (coded× (coded_list coded_ℕ) (coded× coded_layout (coded× (coded_list coded_ℕ) (coded× coded_tally (coded_list coded_cell)))))
    (λ s. (s.log, (s.layout, (s.digest, (s.tally, s.cells)))))
    (λ p. record { log = p.0; layout = p.1.0; digest = p.1.1.0; tally = p.1.1.1.0; cells = p.1.1.1.1 }) (λ _. refl)

-- three tables of empty cells, with each of the digests XORed in
unfoldable pub cells_of : Digests → LayoutModel → List Cell
cells_of s layout = toggled_all (replicate (3 * layout.size) nothing) (rising s) layout

unfoldable pub sketch_of : InventoryModel → LayoutModel → SketchModel
sketch_of n layout = record {
  log = n.log;
  layout = layout;
  digest = inventory_digest n;
  tally = tally_of (rising n.digests);
  cells = cells_of n.digests layout;
}

-- the first eight bytes of the digest, with the lowest bit set
abbrev pub own_salt : InventoryModel → ℕ
own_salt n = word (inventory_digest n) 0 / 2 * 2 + 1

abbrev pub asked : InventoryModel → ℕ → Option ℕ → SketchModel
asked n cells salt = sketch_of n (layout_with cells (unwrap_or salt (own_salt n)))
