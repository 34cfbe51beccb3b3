-- An inventory that differs from another in given digests.
--     apart s t            the symmetric difference of the two sets
--     flipped n taken      n without those of the digests that it has, and with those that it lacks
use Rattle.std.specs.Prelude.{List}
use Rattle.cadf_join.specs.Sets as set
use Rattle.cadf_join.specs.Contents.{Text}
use Rattle.cadf_set.specs.Inventory.{InventoryModel}
use Rattle.cadf_line.specs.Missing.{Digests}

-- the symmetric difference of the two sets
abbrev pub apart : Digests → Digests → Digests
apart s t = set.union (set.difference s t) (set.difference t s)

unfoldable pub flipped : InventoryModel → List Text → InventoryModel
flipped n taken = record { log = n.log; digests = apart n.digests (set.from_list taken) }
