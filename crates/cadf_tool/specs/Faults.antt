-- How other faults become faults of the engines, and the exit status of each.
use Rattle.std.specs.Prelude.{ℕ, Bool, true, false, Result, Ok, Err}
use Rattle.cadf_json.specs.declared.transfer.OutFault.{OutFault}
use Rattle.cadf_json.specs.declared.transfer.OutFault.TheVariants.{WriteFault as OutWriteFault, Memory as OutMemory}
use Rattle.cadf_evidence.specs.declared.growth.GrowthFault.{GrowthFault}
use Rattle.cadf_evidence.specs.declared.growth.GrowthFault.TheVariants as growth
use Rattle.cadf_evidence.specs.declared.verify.VerifyFault.{VerifyFault}
use Rattle.cadf_evidence.specs.declared.verify.VerifyFault.TheVariants as verify
use Rattle.cadf_tool.specs.declared.input.LoadFault.{LoadFault}
use Rattle.cadf_tool.specs.declared.input.LoadFault.TheVariants.{File, TooLarge, ReadFault, Json, Document, Memory}
use Rattle.cadf_tool.specs.declared.fault.ToolFault.{ToolFault}
use Rattle.cadf_tool.specs.declared.fault.ToolFault.TheVariants.{Input, NoLog, OtherLog, NoFacts, NoKeys, TooFewCells, Script, Rehearse, NoValue, Unverified, Ungrown}
use Rattle.cadf_tool.specs.declared.fault.ToolFault.TheVariants.{ReadFault as ReadFailed, WriteFault, Memory as OutOfMemory}

-- `ReadFault` and `Memory` are the engine's own
abbrev pub of_load : ℕ → LoadFault → ToolFault
of_load n (File f) = Input n (File f)
of_load n TooLarge = Input n TooLarge
of_load n ReadFault = ReadFailed n
of_load n (Json f) = Input n (Json f)
of_load n (Document f) = Input n (Document f)
of_load n Memory = OutOfMemory

-- why facts or keys are not verified; `Memory` is the engine's own
abbrev pub of_verify : VerifyFault → ToolFault
of_verify verify.Memory = OutOfMemory
of_verify fault = Unverified fault

-- why a set isn't shown to come of another; `Memory` is the engine's own
abbrev pub of_growth : GrowthFault → ToolFault
of_growth growth.Memory = OutOfMemory
of_growth fault = Ungrown fault

-- the result of writing a text
abbrev pub of_out : {T : Type 0} → Result T OutFault → Result T ToolFault
of_out (Ok v) = Ok v
of_out (Err OutWriteFault) = Err WriteFault
of_out (Err OutMemory) = Err OutOfMemory

-- 1 if the input or the request is refused, 3 if a read or a write failed, 4 if out of memory
abbrev pub status_of : ToolFault → ℕ
status_of (Input n f) = 1
status_of NoLog = 1
status_of (OtherLog n) = 1
status_of (NoFacts n) = 1
status_of (NoKeys n) = 1
status_of (TooFewCells n cells) = 1
status_of (Script line) = 1
status_of (Rehearse f) = 1
status_of NoValue = 1
status_of (Unverified f) = 1
status_of (Ungrown f) = 1
status_of (ReadFailed n) = 3
status_of WriteFault = 3
status_of OutOfMemory = 4

-- the stage at which an engine fails: a source is refused, the work fails, a write fails, or it is out of memory
pub data FaultStage : Type 0 where
  Reading : ℕ → LoadFault → FaultStage
  Working : FaultStage
  Writing : FaultStage
  OutOfMemoryStage : FaultStage

-- every other fault is one of the work
abbrev pub fault_stage : ToolFault → FaultStage
fault_stage (Input n f) = Reading n f
fault_stage (ReadFailed n) = Reading n ReadFault
fault_stage WriteFault = Writing
fault_stage OutOfMemory = OutOfMemoryStage
fault_stage _ = Working

abbrev pub is_writing : FaultStage → Bool
is_writing (Reading n f) = false
is_writing Working = false
is_writing Writing = true
is_writing OutOfMemoryStage = false

-- the text was not written in full, since a write failed
abbrev pub is_write_stage : {T : Type 0} → Result T ToolFault → Bool
is_write_stage (Ok v) = false
is_write_stage (Err fault) = is_writing (fault_stage fault)
