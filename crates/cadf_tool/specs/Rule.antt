-- The result of `rule` for an input: its set, with a further ruling.
--     value_at vs place                    the value at that place in a list; places are counted from 1
--     ruling_on letter key value           the ruling that names this value of the key
--     ruling_at s letter key place         the ruling that names the value at that place among a key's values, or that there is none
--     ruled_of letter key place loaded     the log of an input, and its atoms with that ruling, or why there is no result
use Rattle.std.specs.Prelude.{ℕ, zero, suc, List, Option, Some, None, Result, Ok, Err, slice_get}
use Rattle.cadf_join.specs.Contents.{Text, Contents}
use Rattle.cadf_atom.specs.Contributions.{ARuling, taken}
use Rattle.cadf_set.specs.Replica.{ReplicaModel}
use Rattle.cadf_line.specs.RulingTexts.{RulingParts, value_digest}
use Rattle.cadf_atom.specs.Shown.{values}
use Rattle.cadf_tool.specs.declared.input.Loaded.{Loaded}
use Rattle.cadf_tool.specs.declared.fault.ToolFault.{ToolFault}
use Rattle.cadf_tool.specs.declared.fault.ToolFault.TheVariants.{NoValue}
use Rattle.cadf_tool.specs.Told.{replica_model_of}

abbrev pub value_at : List Text → ℕ → Option Text
value_at vs zero = None
value_at vs (suc n) = slice_get vs n

-- the ruling to show this value of the key, by the digest of its text
abbrev pub ruling_on : (letter key value : Text) → RulingParts
ruling_on letter key value = record { letter = letter; key = key; digest = value_digest value }

abbrev pub ruling_for : (letter key : Text) → Option Text → Result RulingParts ToolFault
ruling_for letter key None = Err NoValue
ruling_for letter key (Some value) = Ok (ruling_on letter key value)

-- places count all values of the key in ascending order, also those that are ruled
abbrev pub ruling_at : Contents → (letter key : Text) → ℕ → Result RulingParts ToolFault
ruling_at s letter key place = ruling_for letter key (value_at (values s letter key) place)

abbrev pub with_ruling : ReplicaModel → Result RulingParts ToolFault → Result ReplicaModel ToolFault
with_ruling h (Ok ruling) = Ok (record { log = h.log; atoms = taken h.atoms (ARuling ruling) })
with_ruling h (Err fault) = Err fault

abbrev pub ruled_in : (letter key : Text) → ℕ → Result ReplicaModel ToolFault → Result ReplicaModel ToolFault
ruled_in letter key place (Ok h) = with_ruling h (ruling_at h.atoms letter key place)
ruled_in letter key place (Err fault) = Err fault

-- THE RULED SET of an input
abbrev pub ruled_of : (letter key : Text) → ℕ → Loaded → Result ReplicaModel ToolFault
ruled_of letter key place loaded = ruled_in letter key place (replica_model_of loaded)
