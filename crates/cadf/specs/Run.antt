-- THE COMMAND, once its words are parsed: what is opened and written, and what it answers.
--     stop_status stop                                       the exit status
--     IsRunOn q o after source sink before written result    the request q is run, and answered by that result
--     IsUnwrittenIfStarved q before written result           nothing is written if memory runs out, where the task is whole
-- An argument that is refused comes first, then a file that can't be opened; all files are opened before one is read.
use Rattle.std.specs.Prelude.{◌≡◌, ◌⊎◌, ℕ, true, List, map, Result, Ok, Err, IfOk}
use Rattle.std.specs.Result.{result_map_both}
use Rattle.cadf_arguments.specs.Arguments.{argument_status_of}
use Rattle.cadf_arguments.specs.declared.fault.ArgumentFault.{ArgumentFault}
use Rattle.cadf_json.specs.declared.stream.Source.{Ghosts as Source}
use Rattle.cadf_json.specs.declared.stream.Sink.{Ghosts as Sink}
use Rattle.cadf_tool.specs.Faults.{status_of}
use Rattle.cadf_tool.specs.Inputs.{source_state}
use Rattle.cadf_tool.specs.Request.{task, IsRequestRun}
use Rattle.cadf_tool.specs.declared.fault.ToolFault.{ToolFault}
use Rattle.cadf_tool.specs.declared.fault.ToolFault.TheVariants.{Memory}
use Rattle.cadf_tool.specs.declared.request.Request.{Request as Asked}
use Rattle.cadf_words.specs.declared.request.Request.{Request}
use Rattle.cadf.specs.declared.stop.Stop.{Stop}
use Rattle.cadf.specs.declared.stop.Stop.TheVariants.{Tool, Argument}
use Rattle.cadf.specs.Asked.{Word, asked_by, names_of, IsRead}
use Rattle.cadf.specs.Opened.{OpenerState, AreOpened, IsUnopened}

abbrev pub stop_status : Stop → ℕ
stop_status (Tool fault) = status_of fault
stop_status (Argument fault) = argument_status_of fault

-- what is asked is run on the files of these names, or a file can't be opened and nothing is written
abbrev pub IsAskedRun : {F W T : Type 0} → Asked → List Word → OpenerState → OpenerState → Source F → Sink W → W → W → Result T ToolFault → Type 0
IsAskedRun {F} asked names o after source sink before written result =
    ((fault : ToolFault) × (result ≡ Err fault) × IsUnopened o after names fault × (written ≡ before))
    ⊎ ((opened closed : List F) × AreOpened o after names (map (source_state source) opened)
    × IsRequestRun asked source opened closed sink before written result)

abbrev pub IsRunOn : {F W T : Type 0} → Request → OpenerState → OpenerState → Source F → Sink W → W → W → Result T Stop → Type 0
IsRunOn {T = T} q o after source sink before written result =
    ((fault : ArgumentFault) × (result ≡ Err (Argument fault)) × IsRead (asked_by q) (Err fault) × (after ≡ o) × (written ≡ before))
    ⊎ ((asked : Asked) × (r : Result T ToolFault) × (asked_by q ≡ Ok asked) × (result ≡ result_map_both (λ v. v) Tool r)
    × IsAskedRun asked (names_of q) o after source sink before written r)

-- for some requests all memory is allocated before a byte is written
abbrev pub IsUnwrittenIfStarved : {W T : Type 0} → Request → W → W → Result T Stop → Type 0
IsUnwrittenIfStarved q before written result =
    IfOk (asked_by q) (λ asked. (task asked).is_whole ≡ true → result ≡ Err (Tool Memory) → written ≡ before)
