-- The log and the atoms of an input, from which the result of an engine with one input is computed.
--     log_named loaded, atoms_loaded loaded  the log that an input names, and the atoms that it contributes
--     IsHeld bytes h                         the bytes encode an input that names a log; h is this log with the input's atoms
use Rattle.std.specs.Prelude.{◌≡◌, List, ℕ, Option, Some, None, Result, Ok, Err}
use Rattle.cadf_join.specs.Contents.{Text, Contents}
use Rattle.cadf_atom.specs.Contributions.{document_atoms}
use Rattle.cadf_set.specs.Replica.{ReplicaModel}
use Rattle.cadf_tool.specs.declared.input.Loaded.{Loaded}
use Rattle.cadf_tool.specs.declared.input.Loaded.TheVariants.{Replica, Document}
use Rattle.cadf_tool.specs.declared.fault.ToolFault.{ToolFault}
use Rattle.cadf_tool.specs.declared.fault.ToolFault.TheVariants.{NoLog}
use Rattle.cadf_tool.specs.Input.{IsInput}

-- an event outside a document names no log
abbrev pub log_named : Loaded → Option Text
log_named (Replica h) = Some h.log
log_named (Document doc) = doc.log

abbrev pub atoms_loaded : Loaded → Contents
atoms_loaded (Replica h) = h.atoms
atoms_loaded (Document doc) = document_atoms doc

-- the log that an input names and its atoms, if it names one
abbrev pub under_log : Option Text → Contents → Result ReplicaModel ToolFault
under_log None atoms = Err NoLog
under_log (Some log) atoms = Ok (record { log = log; atoms = atoms })

-- THE REPLICA that an input encodes
abbrev pub replica_model_of : Loaded → Result ReplicaModel ToolFault
replica_model_of loaded = under_log (log_named loaded) (atoms_loaded loaded)

pub record IsHeld (bytes : List ℕ) (h : ReplicaModel) : Type 0 where
  pub loaded : Loaded
  pub input : IsInput bytes loaded
  pub named : log_named loaded ≡ Some h.log
  pub atoms : h.atoms ≡ atoms_loaded loaded
