-- The inventory of an input, and the delta of an input against an inventory.
--     inventory_model_of loaded   the log of an input, and the digests of its atoms; or why there are none
--     missing_by_of from noted    the delta: the atoms of FROM whose digest the inventory lacks, under their log, or why there is none
--     part_by both                the same of a pair, FROM first
--     part_by_union both          the same of a list of inputs, which is joined, and an inventory
--     IsMissingBy number noted h r   the delta of a replica: r is what `missing_by_at` is of it
--     IsPartAgainst allows both   the delta of a list of inputs, which is joined, against what allows these of a replica
--     IsFileInput file Is limit b m   the bytes are the file of this value, within the limit
use Rattle.std.specs.Prelude.{◌≡◌, ◌≤◌, ◌+◌, ℕ, List, length, Option, Some, None, Result, Ok, Err}
use Rattle.cadf_join.specs.Contents.{Text}
use Rattle.cadf_line.specs.Digest.{atom_digest}
use Rattle.cadf_set.specs.Inventory.{InventoryModel}
use Rattle.cadf_line.specs.Missing.{Digests, digests_of, missing_by}
use Rattle.cadf_set.specs.Replica.{ReplicaModel}
use Rattle.cadf_tool.specs.declared.input.Loaded.{Loaded}
use Rattle.cadf_tool.specs.declared.input.Loaded.TheVariants.{Replica}
use Rattle.cadf_tool.specs.declared.fault.ToolFault.{ToolFault}
use Rattle.cadf_tool.specs.declared.fault.ToolFault.TheVariants.{NoLog}
use Rattle.cadf_tool.specs.Told.{log_named, atoms_loaded}
use Rattle.cadf_tool.specs.Join.{join_of, on_ok, IsOnOk}
use Rattle.cadf_tool.specs.Missing.{under_one_log_at}

-- the digests under the log, if one is named
abbrev pub inventory_model_under : Option Text → Digests → Result InventoryModel ToolFault
inventory_model_under None digests = Err NoLog
inventory_model_under (Some log) digests = Ok (record { log = log; digests = digests })

-- THE INVENTORY of an input
abbrev pub inventory_model_of : Loaded → Result InventoryModel ToolFault
inventory_model_of loaded = inventory_model_under (log_named loaded) (digests_of atom_digest (atoms_loaded loaded))

-- THE DELTA AGAINST AN INVENTORY: the least grounded set that contains the atoms of FROM whose digest the inventory lacks
abbrev pub missing_by_at : ℕ → Loaded → InventoryModel → Result ReplicaModel ToolFault
missing_by_at number from noted = under_one_log_at number (log_named from) (Some noted.log) (missing_by atom_digest (atoms_loaded from) noted.digests)

abbrev pub missing_by_of : Loaded → InventoryModel → Result ReplicaModel ToolFault
missing_by_of from noted = missing_by_at 2 from noted

abbrev pub part_by : Loaded × InventoryModel → Result ReplicaModel ToolFault
part_by both = missing_by_of both.0 both.1

-- the inventory is numbered after the inputs
abbrev pub part_by_union : List Loaded × InventoryModel → Result ReplicaModel ToolFault
part_by_union both = on_ok (join_of None both.0) (λ h. missing_by_at (length both.0 + 1) (Replica h) both.1)

abbrev pub IsMissingBy : ℕ → InventoryModel → ReplicaModel → Result ReplicaModel ToolFault → Type 0
IsMissingBy number noted h answer = missing_by_at number (Replica h) noted ≡ answer

-- what the delta is against is numbered after the inputs
abbrev pub IsPartAgainst : {T : Type 0} → (ℕ → T → ReplicaModel → Result ReplicaModel ToolFault → Type 0) → List Loaded × T → Result ReplicaModel ToolFault → Type 0
IsPartAgainst allows both answer = IsOnOk (join_of None both.0) (allows (length both.0 + 1) both.1) answer

-- the bytes are the file of this value, within the limit
pub record IsFileInput {M : Type 0} (file : M → List ℕ) (Is : M → Type 0) (limit : ℕ) (bytes : List ℕ) (value : M) : Type 0 where
  pub is : bytes ≡ file value
  pub within : length bytes ≤ limit
  pub holds : Is value
