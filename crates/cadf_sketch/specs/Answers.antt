-- What the sender of a sketch lacks.
--     IsAnswer held sketch part    some inventory of the log has the sketch's digest, and part is the delta of held against it
use Rattle.std.specs.Prelude.{◌≡◌}
use Rattle.cadf_line.specs.Digest.{atom_digest}
use Rattle.cadf_set.specs.Inventory.{InventoryModel}
use Rattle.cadf_line.specs.Missing.{missing_by}
use Rattle.cadf_set.specs.Replica.{ReplicaModel}
use Rattle.cadf_inventory.specs.InventoryFile.{IsInventory, inventory_digest}
use Rattle.cadf_sketch.specs.Sketches.{SketchModel}

pub record IsAnswer (held : ReplicaModel) (sketch : SketchModel) (part : ReplicaModel) : Type 0 where
  pub log : held.log ≡ sketch.log
  pub theirs : InventoryModel
  pub same_log : theirs.log ≡ sketch.log
  pub inventory : IsInventory theirs
  pub digest : inventory_digest theirs ≡ sketch.digest
  pub missing : part ≡ record { log = held.log; atoms = missing_by atom_digest held.atoms theirs.digests }
