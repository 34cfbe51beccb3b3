-- THE RUN of an engine: it reads its sources one after another, computes one result from them, and writes the text of the result.
--     one, two, all, both                       the outcome of reading one source, two sources, a list of them, or two lists
--     IsExpectedBy sources work expected        the expected result: one that the work allows for the sources, or the first fault
--     IsWritten sink old new text r             all of the text was written, or a prefix of it
--     IsRunBy sources work tell sink old new r  the run has the result r
-- All sources are read before the work begins, and the work is done before anything is written. The work is a relation between what was
-- read and the results allowed. A function allows one result, its value; the names without `By` are for functions.
use Rattle.std.specs.Prelude.{◌≡◌, ◌≤◌, ◌+◌, ◌⊎◌, ℕ, List, [], ◌∷◌, map, length, take, drop, Result, Ok, Err, OnOk, OnErr, IfErr}
use Rattle.std.specs.Io.KnownBytes.{Appends}
use Rattle.cadf_json.specs.declared.stream.Source.{Ghosts as Source}
use Rattle.cadf_json.specs.declared.stream.Sink.{Ghosts as Sink}
use Rattle.cadf_json.specs.Streams.{AppendsPrefix, counted}
use Rattle.cadf_join.specs.Contents.{Text}
use Rattle.cadf_linefile.specs.declared.file_feed.TheConstants.{FILE_LIMIT}
use Rattle.cadf_tool.specs.declared.input.Loaded.{Loaded}
use Rattle.cadf_tool.specs.declared.input.LoadFault.{LoadFault}
use Rattle.cadf_tool.specs.declared.fault.ToolFault.{ToolFault}
use Rattle.cadf_tool.specs.declared.fault.ToolFault.TheVariants.{WriteFault, Memory}
use Rattle.cadf_tool.specs.Input.{GivesAll, IsInputWithin}
use Rattle.cadf_tool.specs.Faults.{of_load, is_write_stage, FaultStage, Reading, Working, Writing, OutOfMemoryStage, fault_stage}
use Rattle.cadf_tool.specs.Inputs.{SourceState, source_state, NoneFailed, IsRefusedWithin, IsRefusedAs, AreReadWithin}

-- ---- sources

-- a source before and after a run
pub record SourceTransition : Type 0 where
  pub old : SourceState
  pub new : SourceState

abbrev pub transition_of : {S : Type 0} → Source S → S → S → SourceTransition
transition_of source old new = record { old = source_state source old; new = source_state source new }

-- how a source is read as a T: the limit on its bytes, the values that bytes encode, and why a source is refused
pub record InputSpec (T : Type 0) : Type 1 where
  pub limit : ℕ
  pub is : List ℕ → T → Type 0
  pub refuses : SourceState → SourceState → LoadFault → Type 0

-- a document or a replica file
abbrev pub input_spec_within : ℕ → InputSpec Loaded
input_spec_within limit = record { limit = limit; is = IsInputWithin limit; refuses = IsRefusedWithin limit }

abbrev pub input_spec : InputSpec Loaded
input_spec = input_spec_within FILE_LIMIT

-- all bytes of the source were read, no read failed, and the bytes encode this value
abbrev pub IsReadAs : {T : Type 0} → InputSpec T → SourceTransition → T → Type 0
IsReadAs reader t value =
    GivesAll t.old.left t.new.left (λ bytes. reader.is bytes value) × (t.new.failures ≡ t.old.failures)

abbrev pub IsUnfailed : SourceTransition → Type 0
IsUnfailed t = t.new.failures ≡ t.old.failures

abbrev pub IsReadWithin : ℕ → SourceTransition → Type 0
IsReadWithin limit t = t.new.reads ≤ t.old.reads + limit + 2

-- the outcome of reading a run's sources: they encode an A, or one of them is refused. Sources are counted from 1
pub record Sources (A : Type 0) : Type 1 where
  -- all were read, and together they encode this value
  pub are : A → Type 0
  -- the source of that number is refused for that fault; those before it were read, and those after it were not
  pub refused : ℕ → LoadFault → Type 0
  -- none was read
  pub unread : Type 0
  -- no read of any source failed
  pub unfailed : Type 0
  -- the number of reads of each source is at most its limit and 2
  pub bounded : Type 0

-- one source, which has that number
abbrev pub with_number : {T : Type 0} → ℕ → InputSpec T → SourceTransition → Sources T
with_number number reader t = record {
  are = IsReadAs reader t;
  refused = λ n f. (n ≡ number) × reader.refuses t.old t.new f;
  unread = t.new ≡ t.old;
  unfailed = IsUnfailed t;
  bounded = IsReadWithin reader.limit t;
}

abbrev pub one : {T : Type 0} → InputSpec T → SourceTransition → Sources T
one reader t = with_number 1 reader t

-- those of the second are read if those of the first were accepted
abbrev pub both : {A B : Type 0} → Sources A → Sources B → Sources (A × B)
both {A} first second = record {
  are = λ pair. first.are pair.0 × second.are pair.1;
  refused = λ n f. (first.refused n f × second.unread) ⊎ (((a : A) × first.are a) × second.refused n f);
  unread = first.unread × second.unread;
  unfailed = first.unfailed × second.unfailed;
  bounded = first.bounded × second.bounded;
}

abbrev pub two : {T U : Type 0} → InputSpec T → SourceTransition → InputSpec U → SourceTransition → Sources (T × U)
two reader t other u = both (one reader t) (with_number 2 other u)

-- ---- inputs in a list

-- each source was read as the input at the same place in the list
abbrev pub AreLoaded : List SourceState → List SourceState → List Loaded → Type 0
AreLoaded [] [] [] = Unit {0}
AreLoaded [] [] (l ∷ ls) = ⊥
AreLoaded [] (n ∷ ns) ls = ⊥
AreLoaded (o ∷ os) [] ls = ⊥
AreLoaded (o ∷ os) (n ∷ ns) [] = ⊥
AreLoaded (o ∷ os) (n ∷ ns) (l ∷ ls) = IsReadAs input_spec (record { old = o; new = n }) l × AreLoaded os ns ls

-- the first source was refused, and the others were not read
abbrev pub IsRefusedFirst : List SourceState → List SourceState → LoadFault → Type 0
IsRefusedFirst [] ns f = ⊥
IsRefusedFirst (o ∷ os) [] f = ⊥
IsRefusedFirst (o ∷ os) (n ∷ ns) f = IsRefusedAs o n f × (ns ≡ os)

-- the source of that number was refused, after those before it in the list were read. The first of the list has the number `first`
pub record IsRefusedAt (first : ℕ) (old new : List SourceState) (number : ℕ) (f : LoadFault) : Type 0 where
  pub before : List Loaded
  pub counted : number ≡ first + length before
  pub loaded : AreLoaded (take (length before) old) (take (length before) new) before
  pub refused : IsRefusedFirst (drop (length before) old) (drop (length before) new) f

-- sources that are seen as these before and after a run, of which the first has that number
abbrev pub inputs_from : ℕ → List SourceState → List SourceState → Sources (List Loaded)
inputs_from first old new = record {
  are = AreLoaded old new;
  refused = IsRefusedAt first old new;
  unread = new ≡ old;
  unfailed = NoneFailed old new;
  bounded = AreReadWithin old new;
}

abbrev pub all_from : {S : Type 0} → ℕ → Source S → List S → List S → Sources (List Loaded)
all_from first source old new = inputs_from first (map (source_state source) old) (map (source_state source) new)

abbrev pub all : {S : Type 0} → Source S → List S → List S → Sources (List Loaded)
all source old new = all_from 1 source old new

-- ---- the expected result

-- a function allows one result: its value
abbrev pub IsValueOf : {A M : Type 0} → (A → Result M ToolFault) → A → Result M ToolFault → Type 0
IsValueOf work a result = work a ≡ result

-- the first fault: of a source, or of the work if all sources were read.
-- `Memory` may occur at any time, but not after a failed read
abbrev pub IsFirstFaultBy : {A M : Type 0} → Sources A → (A → Result M ToolFault → Type 0) → ToolFault → FaultStage → Type 0
IsFirstFaultBy sources work fault (Reading n f) = (fault ≡ of_load n f) × sources.refused n f
IsFirstFaultBy {A} sources work fault Working = (a : A) × sources.are a × work a (Err fault)
IsFirstFaultBy sources work fault Writing = ⊥
IsFirstFaultBy sources work fault OutOfMemoryStage = sources.unfailed

abbrev pub IsFirstFault : {A M : Type 0} → Sources A → (A → Result M ToolFault) → ToolFault → FaultStage → Type 0
IsFirstFault sources work fault stage = IsFirstFaultBy sources (IsValueOf work) fault stage

-- the work doesn't begin: a source was refused, or an allocation failed while it was read
abbrev pub IsUnread : {A : Type 0} → Sources A → ToolFault → Type 0
IsUnread sources fault = IsFirstFault sources Ok fault (fault_stage fault)

abbrev pub IsExpectedOfBy : {A M : Type 0} → Sources A → (A → Result M ToolFault → Type 0) → Result M ToolFault → Type 0
IsExpectedOfBy {A} sources work (Ok made) = (a : A) × sources.are a × work a (Ok made)
IsExpectedOfBy sources work (Err fault) = IsFirstFaultBy sources work fault (fault_stage fault)

pub record IsExpectedBy {A M : Type 0} (sources : Sources A) (work : A → Result M ToolFault → Type 0)
    (expected : Result M ToolFault) : Type 0 where
  pub is : IsExpectedOfBy sources work expected
  pub bounded : sources.bounded

abbrev pub IsExpected : {A M : Type 0} → Sources A → (A → Result M ToolFault) → Result M ToolFault → Type 0
IsExpected sources work expected = IsExpectedBy sources (IsValueOf work) expected

-- ---- the work

-- the work allows the fault, or an allocation failed
abbrev pub IsWorkFaultBy : {M : Type 0} → (Result M ToolFault → Type 0) → ToolFault → FaultStage → Type 0
IsWorkFaultBy allowed fault (Reading n f) = ⊥
IsWorkFaultBy allowed fault Working = allowed (Err fault)
IsWorkFaultBy allowed fault Writing = ⊥
IsWorkFaultBy allowed fault OutOfMemoryStage = Unit {0}

abbrev pub IsWorkedBy : {M : Type 0} → (Result M ToolFault → Type 0) → Result M ToolFault → Type 0
IsWorkedBy allowed (Ok made) = allowed (Ok made)
IsWorkedBy allowed (Err fault) = IsWorkFaultBy allowed fault (fault_stage fault)

abbrev pub IsWorked : {M : Type 0} → Result M ToolFault → Result M ToolFault → Type 0
IsWorked expected result = IsWorkedBy (λ r. expected ≡ r) result

-- ---- what is written

pub record IsWritten {W T : Type 0} (sink : Sink W) (old new : W) (text : Text)
    (result : Result T ToolFault) : Type 0 where
  pub whole : OnOk result (Appends (sink.written old) (sink.written new) text)
  pub front : OnErr result (AppendsPrefix (sink.written old) (sink.written new) text)
  pub only : IfErr result (λ fault. (fault ≡ WriteFault) ⊎ (fault ≡ Memory))
  pub failures : sink.failures new ≡ counted (is_write_stage result) (sink.failures old)

-- the text of the result is written; after a fault nothing is written, and the fault is returned
abbrev pub IsAnswer : {W M T : Type 0} → (M → Text) → Sink W → W → W → Result M ToolFault → Result T ToolFault → Type 0
IsAnswer tell sink old new (Ok made) result = IsWritten sink old new (tell made) result
IsAnswer tell sink old new (Err fault) result = (result ≡ Err fault) × (new ≡ old)

-- the work was done, and its result was told
pub record IsToldBy {M W T : Type 0} (allowed : Result M ToolFault → Type 0) (tell : M → Text) (sink : Sink W) (old new : W)
    (result : Result T ToolFault) : Type 0 where
  pub made : Result M ToolFault
  pub worked : IsWorkedBy allowed made
  pub answer : IsAnswer tell sink old new made result

pub record IsRunBy {A M W T : Type 0} (sources : Sources A) (work : A → Result M ToolFault → Type 0) (tell : M → Text)
    (sink : Sink W) (old new : W) (result : Result T ToolFault) : Type 0 where
  pub expected : Result M ToolFault
  pub first : IsExpectedBy sources work expected
  pub answer : IsAnswer tell sink old new expected result

abbrev pub IsRun : {A M W T : Type 0} → Sources A → (A → Result M ToolFault) → (M → Text) → Sink W → W → W → Result T ToolFault → Type 0
IsRun sources work tell sink old new result = IsRunBy sources (IsValueOf work) tell sink old new result
