-- How the command ends: what it prints beside its output, and its exit status.
--     Notice                               what can be printed
--     and_printed earlier notice whole     this notice was printed after those, and all of it was written or not
--     IsPrinted old new notice             this notice alone was printed since
--     IsRunOut q o after source .. result  the request q is run, and its output ended; result is why it failed, or a report
--     IsEnded result old new status        how the command ends after a run with that result
--     IsReplied reply old new status       the same, where the words make no request
use Rattle.std.specs.Prelude.{◌≡◌, ◌⊎◌, ℕ, Bool, true, false, List, [], ◌∷◌, ◌++◌, Option, Some, None, option_map, Result, Ok, Err}
use Rattle.std.specs.Result.{result_map_both}
use Rattle.cadf_json.specs.declared.stream.Failed.{Failed}
use Rattle.cadf_json.specs.declared.stream.Sink.{Ghosts as Sink}
use Rattle.cadf_json.specs.declared.stream.Source.{Ghosts as Source}
use Rattle.cadf_tool.specs.declared.counting_sink.OverLimit.{OverLimit}
use Rattle.cadf_tool.specs.declared.fault.ToolFault.TheVariants.{WriteFault, Memory as OutOfMemory}
use Rattle.cadf_words.specs.Synopsis.{IsTold, MakesRequest}
use Rattle.cadf_words.specs.declared.reply.Message.{Message}
use Rattle.cadf_words.specs.declared.reply.Reply.{Reply}
use Rattle.cadf_words.specs.declared.reply.Reply.TheVariants.{Memory, Help, Refused}
use Rattle.cadf_words.specs.declared.request.Request.{Request}
use Rattle.cadf.specs.declared.stop.Stop.{Stop}
use Rattle.cadf.specs.declared.stop.Stop.TheVariants.{Tool}
use Rattle.cadf.specs.Opened.{OpenerState}
use Rattle.cadf.specs.Run.{IsRunOn, stop_status}

-- ---- what is printed

pub data Notice : Type 0 where
  -- why the command failed
  Fault : Stop → Notice
  -- the output is larger than an input may be
  TooLarge : OverLimit → Notice
  -- help, the version, or why words are refused
  Text : Message → Notice
  -- a word isn't UTF-8
  NoUtf8 : Notice

abbrev pub Printed : Type 0
Printed = Option (List (Notice × Bool))

abbrev pub and_printed : Printed → Notice → Bool → Printed
and_printed earlier notice whole = option_map (λ notices. notices ++ (notice, whole) ∷ []) earlier

-- a standard error that can't be written changes nothing else
abbrev pub IsPrinted : Printed → Printed → Notice → Type 0
IsPrinted old new notice = (whole : Bool) × (new ≡ and_printed old notice whole)

-- ---- the run, with the end of its output

-- the output ends if the run didn't fail, and what it answers is answered
abbrev pub IsEndOf : {W T : Type 0} → (W → Result (Option OverLimit) Failed → Type 0) → Result T Stop → W → Result (Option OverLimit) Stop → Type 0
IsEndOf ends (Ok v) output result =
    (end : Result (Option OverLimit) Failed) × ends output end × (result ≡ result_map_both (λ report. report) (λ _. Tool WriteFault) end)
IsEndOf ends (Err stop) output result = result ≡ Err stop

abbrev pub IsRunOut : {F W : Type 0} → Request → OpenerState → OpenerState → Source F → Sink W → (W → Result (Option OverLimit) Failed → Type 0)
    → W → Result (Option OverLimit) Stop → Type 0
IsRunOut {W = W} q o after source sink ends before result =
    (written : W) × (ran : Result (Unit {0}) Stop) × IsRunOn q o after source sink before written ran × IsEndOf ends ran written result

-- ---- the end

abbrev pub IsEnded : Result (Option OverLimit) Stop → Printed → Printed → ℕ → Type 0
IsEnded (Ok None) old new status = (new ≡ old) × (status ≡ 0)
IsEnded (Ok (Some report)) old new status = IsPrinted old new (TooLarge report) × (status ≡ 0)
IsEnded (Err stop) old new status = IsPrinted old new (Fault stop) × (status ≡ stop_status stop)

-- 2 if the command line is refused
abbrev pub IsReplied : Reply → Printed → Printed → ℕ → Type 0
IsReplied Memory old new status = IsEnded (Err (Tool OutOfMemory)) old new status
IsReplied (Refused m) old new status = IsPrinted old new (Text m) × (status ≡ 2)
IsReplied (Help m) old new status = ((new ≡ and_printed old (Text m) true) × (status ≡ 0))
    ⊎ IsEnded (Err (Tool WriteFault)) (and_printed old (Text m) false) new status

-- THE COMMAND
abbrev pub IsRequested : {F W : Type 0} → Request → OpenerState → OpenerState → Source F → Sink W → (W → Result (Option OverLimit) Failed → Type 0)
    → W → Printed → Printed → ℕ → Type 0
IsRequested q o after source sink ends before old new status =
    (ran : Result (Option OverLimit) Stop) × IsRunOut q o after source sink ends before ran × IsEnded ran old new status

-- words that make no request open no file
abbrev pub IsCommand : {F W : Type 0} → List (List ℕ) → OpenerState → OpenerState → Source F → Sink W
    → (W → Result (Option OverLimit) Failed → Type 0) → W → Printed → Printed → ℕ → Type 0
IsCommand words o after source sink ends before old new status =
    ((q : Request) × MakesRequest words q × IsRequested q o after source sink ends before old new status)
    ⊎ ((reply : Reply) × IsTold words reply × IsReplied reply old new status × (after ≡ o))
