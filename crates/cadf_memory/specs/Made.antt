-- What a run of a request on bytes in memory hands out, and why it gives up. No source was read before.
--     IsMadeFor q inputs text     the text is what the request asks of these bytes
--     IsFirstFor q inputs fault   the fault comes first, of sources of which no read failed
--     fault_in_memory_of fault    no read of memory fails, and a failed write to it counts as no memory
--     is_of_memory fault          it is neither a failed read nor a failed write
use Rattle.std.specs.Prelude.{◌≡◌, ℕ, Bool, true, false, List, map, Ok}
use Rattle.cadf_join.specs.Contents.{Text}
use Rattle.cadf_tool.specs.declared.fault.ToolFault.{ToolFault}
use Rattle.cadf_tool.specs.declared.fault.ToolFault.TheVariants.{Input, NoLog, OtherLog, NoFacts, NoKeys, TooFewCells, Script, Rehearse, NoValue, Unverified, Ungrown}
use Rattle.cadf_tool.specs.declared.fault.ToolFault.TheVariants.{ReadFault, WriteFault, Memory}
use Rattle.cadf_tool.specs.declared.request.Request.{Request}
use Rattle.cadf_tool.specs.Faults.{fault_stage}
use Rattle.cadf_tool.specs.Inputs.{SourceState, NoneFailed}
use Rattle.cadf_tool.specs.Request.{task}
use Rattle.cadf_tool.specs.Run.{IsFirstFaultBy}
use Rattle.cadf_memory.specs.Memory.{unread}

pub record IsMadeFor (q : Request) (inputs : List (List ℕ)) (text : Text) : Type 0 where
  -- the sources after the run
  pub after : List SourceState
  -- what they were read as
  pub value : (task q).Read
  pub are : ((task q).sources (map unread inputs) after).are value
  pub made : (task q).Made
  pub worked : (task q).work value (Ok made)
  pub told : text ≡ (task q).tell made

pub record IsFirstFor (q : Request) (inputs : List (List ℕ)) (fault : ToolFault) : Type 0 where
  pub after : List SourceState
  pub unfailed : NoneFailed (map unread inputs) after
  pub first : IsFirstFaultBy ((task q).sources (map unread inputs) after) (task q).work fault (fault_stage fault)

abbrev pub fault_in_memory_of : ToolFault → ToolFault
fault_in_memory_of (Input n f) = Input n f
fault_in_memory_of NoLog = NoLog
fault_in_memory_of (OtherLog n) = OtherLog n
fault_in_memory_of (NoFacts n) = NoFacts n
fault_in_memory_of (NoKeys n) = NoKeys n
fault_in_memory_of (TooFewCells n cells) = TooFewCells n cells
fault_in_memory_of (Script line) = Script line
fault_in_memory_of (Rehearse f) = Rehearse f
fault_in_memory_of NoValue = NoValue
fault_in_memory_of (Unverified f) = Unverified f
fault_in_memory_of (Ungrown f) = Ungrown f
fault_in_memory_of (ReadFault n) = Memory
fault_in_memory_of WriteFault = Memory
fault_in_memory_of Memory = Memory

abbrev pub is_of_memory : ToolFault → Bool
is_of_memory (ReadFault n) = false
is_of_memory WriteFault = false
is_of_memory _ = true
