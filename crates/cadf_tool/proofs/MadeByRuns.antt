-- What engines write for derived files.
use Rattle.cadf_tool.proofs.Common.{Bool, true, false, cond, not, sym, is_left, left_of, ListedModel, erased_spec, is_other, join_from, with_union, left_for, left_file, sealed_model_of, sealed_file, OtherLog, Kept, IsByCarrier, IsDerived, ◌≡◌, ◌+◌, ◌-◌, ℕ, List, ◌++◌, take, drop, length, encode_utf8, Option, None, Some, Ok, Err, Result, refl, ap, ◌∙◌, subst, Appends, Sink, Text, inventory_file, seal_file, InventoryModel, ReplicaModel, sketch_file, Loaded, Replica, ToolFault, Request, replica_model_of, SourceState, inventory_spec, sketch_spec, Sources, AreLoaded, IsExpectedOfBy, IsRunBy, task, first_state, IsAnswered, seal_model_of, shown_text, checked_text, AreAsked, sketch_model_of, join_of, on_ok, of_union, inventory_model_of, ruling_on, ruling_for, ruled_of, IsTextOf, Ruled, Files, IsResult, AreRead, IsOutputOf, IsInventoryOf, IsSketchOf, AreSources, carrier_alike}
use Rattle.cadf_tool.specs.Run.{IsAnswer}
use Rattle.cadf_tool.specs.declared.request.Request.TheVariants as ask
use Rattle.cadf_tool.proofs.Deltas.{from_one}
use Rattle.cadf_tool.proofs.RulingAdded.{ruled_is}
use Rattle.cadf_tool.proofs.SketchParts.{sketched_is, answer_of}
use Rattle.cadf_tool.proofs.Unions.{ok_of}
use Rattle.cadf_tool.proofs.ExchangeLaws.{read_of, are_read, written_behind}

-- ---- a run that returned Ok

-- the sources encode some value, for which the work allows the result
pub record HasRun {A M W : Type 0} (sources : Sources A) (work : A → Result M ToolFault → Type 0) (tell : M → Text)
    (sink : Sink W) (old new : W) : Type 0 where
  pub value : A
  pub made : M
  pub are : sources.are value
  pub worked : work value (Ok made)
  pub written : Appends (sink.written old) (sink.written new) (tell made)

module _ {A M W T : Type 0} (sources : Sources A) (work : A → Result M ToolFault → Type 0) (tell : M → Text)
    (sink : Sink W) (old new : W) (t : T) where
  never : (fault : ToolFault) → ◌≡◌ {A = Result T ToolFault} (Ok t) (Err fault) → ⊥
  never fault e = cc

  run_by : (expected : Result M ToolFault) → IsExpectedOfBy sources work expected → IsAnswer tell sink old new expected (Ok t)
      → HasRun sources work tell sink old new
  run_by (Ok made) (a, are, worked) answer = record { value = a; made = made; are = are; worked = worked; written = answer.whole }
  run_by (Err fault) first answer = absurd (never fault answer.0)

  pub run_ok : IsRunBy sources work tell sink old new (Ok t) → HasRun sources work tell sink old new
  run_ok run = run_by run.expected run.first.is run.answer

pub text_behind : {W : Type 0} (sink : Sink W) (old new : W) (before bytes : List ℕ) → sink.written old ≡ Some before
    → Appends (sink.written old) (sink.written new) bytes → sink.written new ≡ Some (before ++ bytes)
text_behind sink old new before bytes begun w = written_behind before (sink.written new) bytes (subst (λ o. Appends o (sink.written new) bytes) begun w)

-- ---- what an engine wrote for files

module _ (files : Files) where
  pub ruled_is_result : (letter key : Text) (place : ℕ) (ls : List Loaded) (h : ReplicaModel) → AreRead files ls
      → of_union (ruled_of letter key place) ls ≡ Ok h → (value : Text) × IsResult (Ruled place (ruling_on letter key value) files) h
  ruled_is_result letter key place ls h read e =
      let u = ok_of (join_of None ls) (λ k. ruled_of letter key place (Replica k)) h e in
      let ruled = ruled_is letter key place (Some u.0.log) u.0.atoms h u.2 in
      (ruled.value, (ls, u.0, read, u.1, ap (ruling_for letter key) ruled.at_place, u.2))

  pub sketch_wrote : (cells salt : Option ℕ) (bytes : List ℕ) → AreAsked cells salt
      → IsOutputOf (sketch_model_of cells salt) sketch_file (λ ls. AreRead files ls) bytes → (noted : InventoryModel) × IsSketchOf (λ ls. AreRead files ls) noted bytes
  sketch_wrote cells salt bytes asked (ls, sketch, read, e, is) =
      let u = ok_of (join_of None ls) (λ k. sketch_model_of cells salt (Replica k)) sketch e in
      let of_noted = sketched_is cells salt (Replica u.0) sketch u.2 in (
        of_noted.0,
        (ls, cells, salt, asked, read, ap (λ r. on_ok r (λ k. inventory_model_of (Replica k))) u.1 ∙ of_noted.1, is ∙ ap sketch_file of_noted.2),
      )

  pub text_wrote : (tell : ReplicaModel → Text) (text : Text) → IsOutputOf replica_model_of tell (λ ls. AreRead files ls) text → IsTextOf tell files text
  text_wrote tell text (ls, h, read, e, is) =
      let u = ok_of (join_of None ls) (λ k. replica_model_of (Replica k)) h e in
      let same : u.0 ≡ h = cc in
      (h, (ls, read, u.1 ∙ ap Ok same), is)

-- ---- what an erased list leaves of files

kept_beside : (list : ListedModel) (h : ReplicaModel) (pair : ListedModel × ReplicaModel) → left_for list h ≡ Ok pair → pair ≡ (list, h)
kept_beside list h pair e = by (is_other h.log (Some list.log)) e
  where
    by : (b : Bool) → cond b (Err (OtherLog 1)) (Ok (list, h)) ≡ Ok pair → pair ≡ (list, h)
    by true k = absurd (cc)
    by false k = cc

is_by_carrier : (list : ListedModel) → IsByCarrier (is_left list.names)
is_by_carrier list q = ap not (carrier_alike list.names q)

omitted : (files : Files) (list : ListedModel) (ls : List Loaded) (pair : ListedModel × ReplicaModel) → AreRead files ls
    → with_union left_for (list, ls) ≡ Ok pair → IsDerived (Kept (is_left list.names) None files) (left_file pair)
omitted files list ls pair read e =
    let u = ok_of (join_from 2 None ls) (left_for list) pair e in
    (left_of list u.0, (is_by_carrier list, ls, u.0, read, from_one 2 None ls u.0 u.1, refl), ap left_file (kept_beside list u.0 pair u.2))

-- ---- what a run of a request made

-- the work of an engine on the union of files
output_of : {M : Type 0} (work : Loaded → Result M ToolFault) (tell : M → Text) (old new : List SourceState) (ls : List Loaded) (made : M)
    → AreLoaded old new ls → of_union work ls ≡ Ok made → (files : Files) → AreSources files old → IsOutputOf work tell (λ ks. AreRead files ks) (tell made)
output_of work tell old new ls made are e files given = (ls, made, are_read files old new ls given are, e, refl)

pub answered : (q : Request) (old new : List SourceState) (value : (task q).Read) (made : (task q).Made) → ((task q).sources old new).are value
    → (task q).work value (Ok made) → IsAnswered q old ((task q).tell made)
answered (ask.Join log) old new ls h are e = λ files given. (h, (ls, are_read files old new ls given are, e), refl)
answered (ask.Split unit log) old new ls h are e = λ files given. (h, (ls, are_read files old new ls given are, e), refl)
answered (ask.Missing from) old new (ls, ks) h are e = λ froms tos f t.
    (h, (ls, ks, are_read froms (take from old) (take from new) ls f are.0, are_read tos (drop from old) (drop from new) ks t are.1, e), refl)
answered ask.MissingBy old new (ls, noted) h are e = λ froms tos f t.
    let n = length old - 1 in (
      h,
      (
        ls,
        noted,
        are_read froms (take n old) (take n new) ls f are.0,
        read_of inventory_spec (IsInventoryOf (λ ks. AreRead tos ks)) (first_state (drop n old)) (first_state (drop n new)) noted t are.1,
        e,
      ),
      refl,
    )
answered ask.Inventory old new ls made are e = output_of inventory_model_of inventory_file old new ls made are e
answered (ask.Sketch cells salt) old new ls made are e = λ asked files given.
    sketch_wrote files cells salt (sketch_file made) asked (output_of (sketch_model_of cells salt) sketch_file old new ls made are e files given)
answered ask.MissingBySketch old new (ls, sketch) h are e = λ froms tos sketched f t.
    let n = length old - 1 in
    let a = answer_of (length ls + 1) sketch (join_of None ls) h e in (
      a.2.theirs,
      (
        h,
        (
          ls,
          a.0,
          sketch,
          are_read froms (take n old) (take n new) ls f are.0,
          a.1,
          read_of sketch_spec (IsSketchOf (λ ks. AreRead tos ks) sketched) (first_state (drop n old)) (first_state (drop n new)) sketch t are.1,
          a.2,
          refl,
        ),
        refl,
      ),
    )
answered ask.Seal old new ls made are e = output_of seal_model_of seal_file old new ls made are e
answered ask.Sealed old new ls made are e = output_of sealed_model_of sealed_file old new ls made are e
answered ask.Omit old new (list, ls) pair are e = λ files bytes left given.
    let r = read_of erased_spec (λ b. b ≡ bytes) (first_state old) (first_state new) list (bytes, left, refl) are.0 in
    (list, sym r.1 ∙ r.2.is, omitted files list ls pair (are_read files (drop 1 old) (drop 1 new) ls given are.1) e)
answered (ask.Rule letter key place) old new ls h are e = λ files given.
    let ruled = ruled_is_result files (encode_utf8 letter) key place ls h (are_read files old new ls given are) e in (ruled.0, (h, ruled.1, refl))
answered (ask.Show conflicts) old new ls h are e = λ files given.
    text_wrote files (shown_text conflicts) (shown_text conflicts h) (output_of replica_model_of (shown_text conflicts) old new ls h are e files given)
answered ask.Check old new ls h are e = λ files given.
    text_wrote files checked_text (checked_text h) (output_of replica_model_of checked_text old new ls h are e files given)
answered _ old new value made are e = tt
