-- What comes of a run of a request on bytes in memory: the text that it hands out in a buffer, or why it gave up.
use Rattle.cadf_memory.proofs.Common.{arith, ◌≡◌, ◌⊎◌, inl, inr, ℕ, true, false, List, [], ◌∷◌, ◌++◌, length, map, Option, Some, Result, Ok, Err, IfOk, IfErr, MatchResult, refl, sym, ap, ◌∙◌, subst, length-map, Appends, Sink, Text, ToolFault, ReadFault, WriteFault, Request, fault_stage, SourceState, NoneFailed, task, IsFirstFaultBy, IsExpectedOfBy, IsWritten, IsAnswer, IsRunBy, Buffer, CadfBytes, SliceSource, buffer_name, buffer_before, buffer_text, handed, IsHandedOut, IsMadeFor, IsFirstFor, fault_in_memory_of, bytes_in, unread, slice_state}
use Rattle.cadf_tool.specs.declared.fault.ToolFault.TheVariants.{Memory}
use Rattle.cadf_tool.specs.declared.request.Request.TheVariants as ask
use Rattle.cadf_memory.proofs.Framed.{frame, name_kept, before_kept, text_added}

-- what is answered of a run that wrote to the buffer
abbrev pub IsToldAs : {V : Type 0} → Buffer → Result V ToolFault → Result ℕ ToolFault → Type 0
IsToldAs b run told = MatchResult run (λ _. told ≡ Ok (length (buffer_text b))) (λ fault. told ≡ Err (fault_in_memory_of fault))

-- a text of which P holds is handed out, or Q holds of the fault
pub record IsOutcome (P : Text → Type 0) (Q : ToolFault → Type 0) (first last : List ℕ) (told : Result ℕ ToolFault) : Type 0 where
  pub ok : IfOk told (IsHandedOut P first last)
  pub err : IfErr told Q

-- ---- why a run gave up

untouched : (q : Request) (old : List SourceState) → ((task q).sources old old).unfailed
untouched (ask.Missing from) old = (refl, refl)
untouched ask.MissingBy old = (refl, refl)
untouched ask.MissingBySketch old = (refl, refl)
untouched ask.Prove old = (refl, refl)
untouched ask.ProveKeys old = (refl, refl)
untouched (ask.Verify absent) old = (refl, (refl, refl))
untouched (ask.VerifyKeys absent) old = (refl, (refl, refl))
untouched ask.Growth old = (refl, refl)
untouched (ask.Grew false) old = ((refl, (refl, refl)), tt)
untouched (ask.Grew true) old = ((refl, (refl, refl)), refl)
untouched ask.Omit old = (refl, refl)
untouched _ old = refl

-- there may be no memory before a source is read
pub no_memory : (q : Request) (inputs : List (List ℕ)) → IsFirstFor q inputs Memory
no_memory q inputs = record { after = map unread inputs; unfailed = refl; first = untouched q (map unread inputs) }

-- as many sources as inputs
as_many : (ss : List SliceSource) (inputs : List (List ℕ)) → map slice_state ss ≡ map unread inputs → length ss ≡ length inputs
as_many ss inputs is = sym (length-map ss slice_state) ∙ ap length is ∙ length-map inputs unread

pub counted : (ss : List SliceSource) (inputs : List CadfBytes) → map slice_state ss ≡ map unread (bytes_in inputs) → length ss ≡ length inputs
counted ss inputs is = as_many ss (bytes_in inputs) is ∙ length-map inputs (λ (i : CadfBytes). i.bytes.now)

none_failed : (inputs : List (List ℕ)) (after : List SliceSource) → length after ≡ length inputs → NoneFailed (map unread inputs) (map slice_state after)
none_failed [] [] e = refl
none_failed (b ∷ bs) (s ∷ ss) e = ap (λ (ns : List ℕ). 0 ∷ ns) (none_failed bs ss (omega (arith, e)))
none_failed [] (s ∷ ss) e = absurd (omega (arith, e))
none_failed (b ∷ bs) [] e = absurd (omega (arith, e))

module _ (q : Request) (inputs : List (List ℕ)) (after : List SourceState) (unfailed : NoneFailed (map unread inputs) after) where
  abbrev IsFirst : ToolFault → Type 0
  IsFirst fault = IsFirstFaultBy ((task q).sources (map unread inputs) after) (task q).work fault (fault_stage fault)

  -- what comes first is answered as it is, but for a failed read or write
  first_for : (fault : ToolFault) → IsFirst fault → IsFirstFor q inputs (fault_in_memory_of fault)
  first_for (ReadFault n) h = no_memory q inputs
  first_for WriteFault h = no_memory q inputs
  first_for Memory h = no_memory q inputs
  first_for _ h = record { after = after; unfailed = unfailed; first = h }

  -- the work was done, and there was no memory for its text
  starved : (fault : ToolFault) → (fault ≡ WriteFault) ⊎ (fault ≡ Memory) → IsFirstFor q inputs (fault_in_memory_of fault)
  starved fault (inl e) = subst (λ (f : ToolFault). IsFirstFor q inputs (fault_in_memory_of f)) (sym e) (no_memory q inputs)
  starved fault (inr e) = subst (λ (f : ToolFault). IsFirstFor q inputs (fault_in_memory_of f)) (sym e) (no_memory q inputs)

  gave_up : (V : Type 0) {W : Type 0} (sink : Sink W) (old new : W) (fault : ToolFault) (expected : Result (task q).Made ToolFault)
      → IsExpectedOfBy ((task q).sources (map unread inputs) after) (task q).work expected
      → IsAnswer {T = V} (task q).tell sink old new expected (Err fault) → IsFirstFor q inputs (fault_in_memory_of fault)
  gave_up V sink old new fault (Ok made) d w = starved fault w.only
  gave_up V sink old new fault (Err f) d w =
      let e = w.0 in
      let same : fault ≡ f = cc in
      subst (λ (f : ToolFault). IsFirstFor q inputs (fault_in_memory_of f)) (sym same) (first_for f d)

-- ---- runs

-- the sink is the buffer b, to which nothing was written, then c; the caller's bytes are those of c again, if it kept them
module _ {V : Type 0} (sink : Sink Buffer) (run : Result V ToolFault) (b c : Buffer)
    (was : sink.written b ≡ Some (frame b)) (is : sink.written c ≡ Some (frame c))
    (first last : List ℕ) (told : Result ℕ ToolFault) (before : buffer_before b ≡ first) (empty : buffer_text b ≡ [])
    (answered : IsToldAs c run told) (back : buffer_name c ≡ buffer_name b → last ≡ c.output.now) where
  whole : (v : V) (text : Text) → IsWritten {T = V} sink b c text (Ok v) → frame c ≡ frame b ++ text
  whole v text w =
      subst (λ (x : Option (List ℕ)). Appends x (Some (frame c)) text) was
      (subst (λ (y : Option (List ℕ)). Appends (sink.written b) y text) is w.whole)

  out : (P : Text → Type 0) (v : V) (text : Text) → IsWritten {T = V} sink b c text (Ok v) → P text
      → IsHandedOut P first last (length (buffer_text c))
  out P v text w p =
      let grown : frame c ≡ frame b ++ text = whole v text w in
      let same : buffer_text c ≡ text = text_added b c text grown ∙ ap (λ (t : List ℕ). t ++ text) empty in
      record {
        text = text;
        made = p;
        fits = back (name_kept b c text grown) ∙ c.fits ∙ ap (λ (t : List ℕ). handed t (buffer_before c)) same
            ∙ ap (handed text) (before_kept b c text grown ∙ before);
        all = ap length same;
      }

  module _ (q : Request) (inputs : List (List ℕ)) (after : List SourceState) where
    made_for : (v : V) (expected : Result (task q).Made ToolFault) → IsExpectedOfBy ((task q).sources (map unread inputs) after) (task q).work expected
        → IsAnswer (task q).tell sink b c expected (Ok v) → IsHandedOut (IsMadeFor q inputs) first last (length (buffer_text c))
    made_for v (Ok made) (value, are, worked) w =
        out (IsMadeFor q inputs) v ((task q).tell made) w
        (record { after = after; value = value; are = are; made = made; worked = worked; told = refl })
    made_for v (Err fault) d w = let e = w.0 in absurd (cc)

    came : NoneFailed (map unread inputs) after → IsRunBy ((task q).sources (map unread inputs) after) (task q).work (task q).tell sink b c run
        → IsOutcome (IsMadeFor q inputs) (IsFirstFor q inputs) first last told
    came unfailed ran = by run answered ran
      where
        by : (r : Result V ToolFault) → IsToldAs c r told → IsRunBy ((task q).sources (map unread inputs) after) (task q).work (task q).tell sink b c r
            → IsOutcome (IsMadeFor q inputs) (IsFirstFor q inputs) first last told
        by (Ok v) e k = subst (λ t. IsOutcome (IsMadeFor q inputs) (IsFirstFor q inputs) first last t) (sym e)
            (record { ok = made_for v k.expected k.first.is k.answer; err = tt })
        by (Err fault) e k = subst (λ t. IsOutcome (IsMadeFor q inputs) (IsFirstFor q inputs) first last t) (sym e)
            (record { ok = tt; err = gave_up q inputs after unfailed V sink b c fault k.expected k.first.is k.answer })

  pub outcome : (q : Request) (inputs : List (List ℕ)) (ss rs : List SliceSource) → map slice_state ss ≡ map unread inputs → length rs ≡ length ss
      → IsRunBy ((task q).sources (map slice_state ss) (map slice_state rs)) (task q).work (task q).tell sink b c run
      → IsOutcome (IsMadeFor q inputs) (IsFirstFor q inputs) first last told
  outcome q inputs ss rs is same ran =
      came q inputs (map slice_state rs) (none_failed inputs rs (same ∙ as_many ss inputs is))
      (subst (λ (os : List SourceState). IsRunBy ((task q).sources os (map slice_state rs)) (task q).work (task q).tell sink b c run) is ran)
