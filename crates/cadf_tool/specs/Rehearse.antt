-- A script that is read in full, and the replicas at the end of its schedule.
--     script_spec                   how a source is read as a script: its turns, or the first line that is no turn
--     replicas_after log sites turns  the replicas after these turns, or the first turn that fails
--     final_sites log sites script  the same for a script, or its first line that is no turn
use Rattle.std.specs.Prelude.{◌≡◌, ◌≤◌, ◌+◌, ℕ, List, length, reverse, true, false, Result, Ok, Err}
use Rattle.cadf_json.specs.Streams.{counted, ConsumesAtMost, ConsumesExactly}
use Rattle.cadf_join.specs.Contents.{Text}
use Rattle.cadf_line.specs.Digest.{atom_digest}
use Rattle.cadf_set.specs.Replica.{ReplicaModel}
use Rattle.cadf_rehearsal.specs.declared.turn.Turn.{Turn}
use Rattle.cadf_rehearsal.specs.declared.fault.RehearseFault.{RehearseFault}
use Rattle.cadf_rehearsal.specs.declared.fault.RehearseFault.TheVariants.{NoSite, NoMessage, NotInventory, WrongAddressee, OtherLog, Memory}
use Rattle.cadf_rehearsal.specs.Schedule.{World, after}
use Rattle.cadf_rehearsal.specs.Federation.{left_by}
use Rattle.cadf_script.specs.Script.{IsScript, IsFirstBad, lines_of}
use Rattle.cadf_linefile.specs.declared.file_feed.TheConstants.{FILE_LIMIT}
use Rattle.cadf_tool.specs.declared.input.LoadFault.{LoadFault}
use Rattle.cadf_tool.specs.declared.input.LoadFault.TheVariants.{TooLarge, ReadFault}
use Rattle.cadf_tool.specs.declared.fault.ToolFault.{ToolFault}
use Rattle.cadf_tool.specs.declared.fault.ToolFault.TheVariants.{Script, Rehearse, Memory as OutOfMemory}
use Rattle.cadf_tool.specs.Inputs.{SourceState}
use Rattle.cadf_tool.specs.Run.{InputSpec}

-- the bytes encode these turns, or the line of that number is the first that is no turn
abbrev pub IsScriptJudged : List ℕ → Result (List Turn) ℕ → Type 0
IsScriptJudged bytes (Ok turns) = IsScript bytes turns
IsScriptJudged bytes (Err line) = IsFirstBad (lines_of bytes) line

abbrev pub IsScriptInput : List ℕ → Result (List Turn) ℕ → Type 0
IsScriptInput bytes judged = (length bytes ≤ FILE_LIMIT) × IsScriptJudged bytes judged

-- one byte more than the limit was read, and no read failed; or a read failed within the limit
abbrev pub RefusesScript : SourceState → SourceState → LoadFault → Type 0
RefusesScript old new TooLarge = ConsumesExactly old.left new.left (FILE_LIMIT + 1) × (new.failures ≡ counted false old.failures)
RefusesScript old new ReadFault = ConsumesAtMost old.left new.left FILE_LIMIT × (new.failures ≡ counted true old.failures)
RefusesScript old new _ = ⊥

abbrev pub script_spec : InputSpec (Result (List Turn) ℕ)
script_spec = record { limit = FILE_LIMIT; is = IsScriptInput; refuses = RefusesScript }

-- the bytes themselves
abbrev pub bytes_spec : InputSpec (List ℕ)
bytes_spec = record { limit = FILE_LIMIT; is = λ bytes v. (bytes ≡ v) × (length bytes ≤ FILE_LIMIT); refuses = RefusesScript }

-- all turns of a script, or the fault of its first line that is no turn
abbrev pub turns_of : Result (List Turn) ℕ → Result (List Turn) ToolFault
turns_of (Ok turns) = Ok turns
turns_of (Err line) = Err (Script line)

abbrev pub left_in : Text → ℕ → Result World RehearseFault → Result (List ReplicaModel) ToolFault
left_in log sites (Ok world) = Ok (left_by log sites world)
left_in log sites (Err fault) = Err (Rehearse fault)

-- the engine has the faults of a schedule, and `Memory`
abbrev pub of_rehearsal : RehearseFault → ToolFault
of_rehearsal (NoSite turn) = Rehearse (NoSite turn)
of_rehearsal (NoMessage turn) = Rehearse (NoMessage turn)
of_rehearsal (NotInventory turn) = Rehearse (NotInventory turn)
of_rehearsal (WrongAddressee turn) = Rehearse (WrongAddressee turn)
of_rehearsal (OtherLog turn) = Rehearse (OtherLog turn)
of_rehearsal Memory = OutOfMemory

-- THE REPLICAS AFTER THE TURNS, with that many sites of the log
abbrev pub replicas_after : Text → ℕ → List Turn → Result (List ReplicaModel) ToolFault
replicas_after log sites turns = left_in log sites (after atom_digest log sites (reverse turns))

abbrev pub played_in : Text → ℕ → Result (List Turn) ToolFault → Result (List ReplicaModel) ToolFault
played_in log sites (Ok turns) = replicas_after log sites turns
played_in log sites (Err fault) = Err fault

-- THE REPLICAS AFTER A SCRIPT
abbrev pub final_sites : Text → ℕ → Result (List Turn) ℕ → Result (List ReplicaModel) ToolFault
final_sites log sites judged = played_in log sites (turns_of judged)
