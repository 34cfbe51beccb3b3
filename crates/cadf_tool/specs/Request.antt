-- WHAT A REQUEST ASKS FOR of a list of sources, and the run that answers it.
--     accepts q count     a run of the request can have so many sources
--     task q              how its sources are read, what is made of them, and the text of that
--     IsRequestRun q source old new sink before after result   the run of the request on these sources, writing to this sink, has that result
-- Sources stand in the order in which they are read, and are counted from 1. A list of one is a run on one source.
use Rattle.std.specs.Prelude.{◌≡◌, ◌+◌, ◌-◌, ℕ, nat_le, nat_lt, nat_eq, Bool, true, false, if◌then◌else◌, List, [], ◌∷◌, map, length, take, drop, Option, None, IsSomeAnd, encode_utf8, Result}
use Rattle.cadf_json.specs.declared.stream.Source.{Ghosts as Source}
use Rattle.cadf_json.specs.declared.stream.Sink.{Ghosts as Sink}
use Rattle.cadf_join.specs.Contents.{Text}
use Rattle.cadf_inventory.specs.InventoryFile.{inventory_file}
use Rattle.cadf_evidence.specs.ProofFile.{ProofModel, proof_file}
use Rattle.cadf_evidence.specs.SealFile.{SealModel, seal_file}
use Rattle.cadf_listed.specs.ListFile.{ListedModel}
use Rattle.cadf_rehearsal.specs.declared.turn.Turn.{Turn}
use Rattle.cadf_set.specs.Replica.{ReplicaModel}
use Rattle.cadf_sketch.specs.SketchFile.{sketch_file}
use Rattle.cadf_split.specs.Split.{split_text}
use Rattle.cadf_tool.specs.declared.input.Loaded.{Loaded}
use Rattle.cadf_tool.specs.declared.fault.ToolFault.{ToolFault}
use Rattle.cadf_tool.specs.declared.request.Request.{Request}
use Rattle.cadf_tool.specs.declared.request.Request.TheVariants as ask
use Rattle.cadf_tool.specs.Grew.{growth_line}
use Rattle.cadf_tool.specs.Inputs.{SourceState, source_state}
use Rattle.cadf_tool.specs.Join.{join_of, of_union, with_union}
use Rattle.cadf_tool.specs.Listed.{sealed_model_of, sealed_file, growth_for, left_for, left_file}
use Rattle.cadf_tool.specs.Missing.{part_of_unions}
use Rattle.cadf_tool.specs.MissingBy.{inventory_model_of, part_by_union}
use Rattle.cadf_tool.specs.ModelInput.{inventory_spec, sketch_spec, seal_spec, proof_spec, sealed_spec, erased_spec, keys_spec}
use Rattle.cadf_tool.specs.Prove.{keys_proof_for, proof_for}
use Rattle.cadf_tool.specs.Rehearse.{script_spec, final_sites}
use Rattle.cadf_tool.specs.Rule.{ruled_of}
use Rattle.cadf_tool.specs.Run.{InputSpec, Sources, input_spec, with_number, both, inputs_from, IsValueOf, IsRunBy}
use Rattle.cadf_tool.specs.Seal.{seal_model_of}
use Rattle.cadf_tool.specs.Shown.{shown_text, checked_text}
use Rattle.cadf_tool.specs.Sites.{sites_text}
use Rattle.cadf_tool.specs.Sketch.{sketch_model_of, IsPartOfUnionBySketch}
use Rattle.cadf_tool.specs.Told.{replica_model_of}
use Rattle.cadf_tool.specs.Verify.{key_verdict_of, verdict_of}
use Rattle.cadf_tool.specs.WrittenFile.{written_file}

-- what a delta or a proof is against is one source at least, and so is a list; a seal, facts or keys, and a proof are three; two
-- seals and a proof are three, and with an erased list four; a script is one
abbrev pub accepts : Request → ℕ → Bool
accepts (ask.Missing from) count = nat_lt from count
accepts ask.MissingBy count = nat_le 1 count
accepts ask.MissingBySketch count = nat_le 1 count
accepts ask.Prove count = nat_le 1 count
accepts ask.ProveKeys count = nat_le 1 count
accepts (ask.Verify absent) count = nat_eq count 3
accepts (ask.VerifyKeys absent) count = nat_eq count 3
accepts ask.Growth count = nat_le 1 count
accepts (ask.Grew erased) count = nat_eq count (if erased then 4 else 3)
accepts ask.Omit count = nat_le 1 count
accepts (ask.Rehearse log sites) count = nat_eq count 1
accepts _ count = true

-- ---- the parts of a list of sources

-- the state of the first source of a list; of none, nothing is known
abbrev pub first_state : List SourceState → SourceState
first_state [] = record { left = None; failures = 0; reads = 0 }
first_state (s ∷ ss) = s

-- the first source of a list, which has that number
abbrev pub first_as : {T : Type 0} → ℕ → InputSpec T → List SourceState → List SourceState → Sources T
first_as number reader old new = with_number number reader (record { old = first_state old; new = first_state new })

-- the first `count` are inputs of one list, and the others of another
abbrev pub in_two : ℕ → List SourceState → List SourceState → Sources (List Loaded × List Loaded)
in_two count old new = both (inputs_from 1 (take count old) (take count new)) (inputs_from (count + 1) (drop count old) (drop count new))

-- the first `count` are inputs, and the next is read so
abbrev pub and_one : {T : Type 0} → InputSpec T → ℕ → List SourceState → List SourceState → Sources (List Loaded × T)
and_one reader count old new = both (inputs_from 1 (take count old) (take count new)) (first_as (count + 1) reader (drop count old) (drop count new))

-- all but the last are inputs, and the last is read so
abbrev pub and_last : {T : Type 0} → InputSpec T → List SourceState → List SourceState → Sources (List Loaded × T)
and_last reader old new = and_one reader (length old - 1) old new

-- the first is read so, and the others are inputs
abbrev pub first_and_others : {T : Type 0} → InputSpec T → List SourceState → List SourceState → Sources (T × List Loaded)
first_and_others reader old new = both (first_as 1 reader old new) (inputs_from 2 (drop 1 old) (drop 1 new))

-- the first three sources are read so
abbrev pub three : {A B C : Type 0} → InputSpec A → InputSpec B → InputSpec C → List SourceState → List SourceState → Sources (A × (B × C))
three first second third old new =
    both (first_as 1 first old new) (both (first_as 2 second (drop 1 old) (drop 1 new)) (first_as 3 third (drop 2 old) (drop 2 new)))

-- the first source of a list is an erased list, which is input 4, if there is one
abbrev pub list_if : Bool → List SourceState → List SourceState → Sources (Option ListedModel)
list_if false old new = record { are = λ list. list ≡ None; refused = λ n f. ⊥; unread = Unit {0}; unfailed = Unit {0}; bounded = Unit {0} }
list_if true old new =
    let list = first_as 4 erased_spec old new in
    record { are = λ o. IsSomeAnd o list.are; refused = list.refused; unread = list.unread; unfailed = list.unfailed; bounded = list.bounded }

-- two seals, a proof, and an erased list if there is one
abbrev pub seals_proof_list : Bool → List SourceState → List SourceState → Sources ((SealModel × (SealModel × ProofModel)) × Option ListedModel)
seals_proof_list erased old new = both (three seal_spec seal_spec proof_spec old new) (list_if erased (drop 3 old) (drop 3 new))

-- ---- tasks

pub record Task : Type 1 where
  -- what the sources encode together, as they are seen before and after the run
  pub Read : Type 0
  pub sources : List SourceState → List SourceState → Sources Read
  -- what is made of it, or why nothing is
  pub Made : Type 0
  pub work : Read → Result Made ToolFault → Type 0
  -- what is written
  pub tell : Made → Text
  -- nothing is written if memory runs out
  pub is_whole : Bool

-- of inputs, in a list
abbrev pub of_all : {M : Type 0} → (List Loaded → Result M ToolFault) → (M → Text) → Task
of_all {M} work tell = record { Read = List Loaded; sources = inputs_from 1; Made = M; work = IsValueOf work; tell = tell; is_whole = false }

-- the same, if nothing is written when memory runs out
abbrev pub whole : Task → Task
whole t = record { Read = t.Read; sources = t.sources; Made = t.Made; work = t.work; tell = t.tell; is_whole = true }

-- the delta of inputs against what the last source is
abbrev pub against_last : {T : Type 0} → InputSpec T → (List Loaded × T → Result ReplicaModel ToolFault → Type 0) → Task
against_last {T} reader work = record {
  Read = List Loaded × T;
  sources = and_last reader;
  Made = ReplicaModel;
  work = work;
  tell = written_file;
  is_whole = false;
}

-- what is made of the first source, which is read so, and of the union of the others
abbrev pub with_first : {T M : Type 0} → InputSpec T → (T → ReplicaModel → Result M ToolFault) → (M → Text) → Task
with_first {T} {M} reader work tell = record {
  Read = T × List Loaded;
  sources = first_and_others reader;
  Made = M;
  work = IsValueOf (with_union work);
  tell = tell;
  is_whole = false;
}

-- what a proof says, under a seal, of what the second source is, which is read so
abbrev pub by_seal : {T : Type 0} → InputSpec T → (SealModel × (T × ProofModel) → Result Text ToolFault) → Task
by_seal {T} reader work = record {
  Read = SealModel × (T × ProofModel);
  sources = three seal_spec reader proof_spec;
  Made = Text;
  work = IsValueOf work;
  tell = λ text. text;
  is_whole = true;
}

abbrev pub task : Request → Task
task (ask.Join log) = of_all (join_of log) written_file
task (ask.Split unit log) = of_all (join_of log) (split_text unit)
task (ask.Missing from) = record {
  Read = List Loaded × List Loaded;
  sources = in_two from;
  Made = ReplicaModel;
  work = IsValueOf part_of_unions;
  tell = written_file;
  is_whole = false;
}
task ask.MissingBy = against_last inventory_spec (IsValueOf part_by_union)
task ask.Inventory = of_all (of_union inventory_model_of) inventory_file
task (ask.Sketch cells salt) = of_all (of_union (sketch_model_of cells salt)) sketch_file
task ask.MissingBySketch = against_last sketch_spec IsPartOfUnionBySketch
task ask.Seal = of_all (of_union seal_model_of) seal_file
task ask.Prove = with_first input_spec proof_for proof_file
task ask.ProveKeys = with_first keys_spec keys_proof_for proof_file
task (ask.Verify absent) = by_seal input_spec (verdict_of absent)
task (ask.VerifyKeys absent) = by_seal keys_spec (key_verdict_of absent)
task ask.Sealed = of_all (of_union sealed_model_of) sealed_file
task ask.Growth = with_first sealed_spec growth_for proof_file
task (ask.Grew erased) = record {
  Read = (SealModel × (SealModel × ProofModel)) × Option ListedModel;
  sources = seals_proof_list erased;
  Made = Text;
  work = IsValueOf growth_line;
  tell = λ text. text;
  is_whole = true;
}
task ask.Omit = with_first erased_spec left_for left_file
task (ask.Rule letter key place) = of_all (of_union (ruled_of (encode_utf8 letter) key place)) written_file
task (ask.Rehearse log sites) = record {
  Read = Result (List Turn) ℕ;
  sources = first_as 1 script_spec;
  Made = List ReplicaModel;
  work = IsValueOf (final_sites log sites);
  tell = sites_text;
  is_whole = true;
}
task (ask.Show conflicts) = whole (of_all (of_union replica_model_of) (shown_text conflicts))
task ask.Check = whole (of_all (of_union replica_model_of) checked_text)

-- THE RUN
abbrev pub IsRequestRun : {S W T : Type 0} → Request → Source S → List S → List S → Sink W → W → W → Result T ToolFault → Type 0
IsRequestRun q source old new sink before after result =
    IsRunBy ((task q).sources (map (source_state source) old) (map (source_state source) new)) (task q).work (task q).tell sink before after result
