-- The seal of an input.
--     seal_model_of loaded   the seal of an input's replica, or why there is none
use Rattle.std.specs.Prelude.{Result, Ok}
use Rattle.cadf_evidence.specs.SealFile.{SealModel, seal_of}
use Rattle.cadf_tool.specs.declared.input.Loaded.{Loaded}
use Rattle.cadf_tool.specs.declared.fault.ToolFault.{ToolFault}
use Rattle.cadf_tool.specs.Join.{on_ok}
use Rattle.cadf_tool.specs.Told.{replica_model_of}

-- THE SEAL of an input
abbrev pub seal_model_of : Loaded → Result SealModel ToolFault
seal_model_of loaded = on_ok (replica_model_of loaded) (λ h. Ok (seal_of h))
