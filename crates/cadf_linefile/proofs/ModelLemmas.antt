-- Kinds of files each of which is the file of one model: what has to be proved of a kind, and what follows from it.
--     IsModelKind      what has to be proved: the lines of a model may follow each other and determine it, and no other lines may
--     accepts-models   bytes are accepted if and only if they are the file of a model
--     models-tell      models with equal files are equal
--     reads            lines that were read are read as the model
use Rattle.cadf_linefile.proofs.Common.{◌≡◌, inl, inr, ℕ, ◌+◌, ◌≤◌, List, [], ◌∷◌, ◌++◌, length, map, drop, Bool, true, false, cond, Option, Some, None, Result, Ok, Err, refl, sym, ap, ◌∙◌, subst, append_assoc, append-nil, ◌&&◌, nat_lt, bytes_eq, bytes_eq-Decides, is_utf8-from_IsUtf8, Text, is_name, IsNameText, is_name_text, Cause, FileFault, Digest, Trailing, ReadFault, LineGrammar, text_of_lines, cut, log_line, digest_line, with_digest_line, begins_digest, first_of, at_line, fault_unless, fault_of, fault_or, verdict_at_end, through_digest, has_digest, ModelKind, cause_of_end, grammar_of, file_of, model_or_fault, verdict_of, AcceptsModels, IsInjective, AnswersModel, ReadsModel, AreWhole, IsModelOfRead}
use Rattle.cadf_linefile.specs.Answers as frame_answers
use Rattle.cadf_linefile.specs.Reads as frame_reads
use Rattle.cadf_linefile.specs.Verdict as frame
use Rattle.cadf_linefile.proofs.BodyLines.{IsKind, AreAfter, body_of, same_bytes, items_are_file, file_is_items}
use Rattle.cadf_linefile.proofs.JudgeLemmas.{later_body, later_digest}
use Rattle.cadf_linefile.proofs.LinesLemmas.{are_unbroken, cut-lines}
use Rattle.cadf_linefile.proofs.ReadingLemmas.{unless_map}
use Rattle.cadf_linefile.proofs.UnbrokenLines.{last_apart}
use Rattle.cadf_linefile.proofs.VerdictLemmas.{unless_none}

-- ---- lines that are no digest line are a kind of items

abbrev pub Plain : Type 0
Plain = (l : List ℕ) × (begins_digest l ≡ false)

abbrev pub lines_of : List Plain → List (List ℕ)
lines_of xs = map (λ x. x.0) xs

abbrev Told : List Plain → Type 0
Told before = Unit {0}

ended_whole : (whole : Bool) (n : ℕ) (o : Option FileFault) → first_of (at_line n (cause_of_end whole)) o ≡ None → (whole ≡ true) × (o ≡ None)
ended_whole true n o e = (refl, e)
ended_whole false n o e = absurd (cc)

no_cause : (n : ℕ) (o : Option Cause) → at_line n o ≡ None → o ≡ None
no_cause n None e = refl
no_cause n (Some c) e = absurd (cc)

module _ {M : Type 0} (k : ModelKind M) where
  abbrev pub Follows : List Plain → Plain → Type 0
  Follows before x = k.cause_after (lines_of before) x.0 ≡ None

  abbrev pub Ends : List Plain → Type 0
  Ends before = k.is_whole (lines_of before) ≡ true

  abbrev body : List ℕ → List Plain → List (List ℕ)
  body log before = body_of k.header (λ (x : Plain). x.0) log before

  at_body : (log : List ℕ) (before : List Plain) (l : List ℕ) → begins_digest l ≡ false
      → fault_of (grammar_of k) (body log before) l ≡ at_line (length (body log before) + 1) (k.cause_after (lines_of before) l)
  at_body log before l is =
      later_body (grammar_of k) (body log before) l is
      ∙ ap (λ b. first_of (at_line (length (body log before)) (cond b (cause_of_end (k.is_whole (lines_of before))) None))
      (at_line (length (body log before) + 1) (k.cause_after (lines_of before) l))) is

  at_digest : (log : List ℕ) (before : List Plain) (l : List ℕ) → begins_digest l ≡ true
      → fault_of (grammar_of k) (body log before) l
      ≡ first_of (at_line (length (body log before)) (cause_of_end (k.is_whole (lines_of before))))
      (fault_unless (bytes_eq l (digest_line (body log before))) Digest)
  at_digest log before l is =
      later_digest (grammar_of k) (body log before) l is
      ∙ ap (λ b. first_of (at_line (length (body log before)) (cond b (cause_of_end (k.is_whole (lines_of before))) None))
      (fault_unless (bytes_eq l (digest_line (body log before))) Digest)) is

  kind : IsKind (grammar_of k) k.header (λ (x : Plain). x.0) Told Follows Ends
  kind = record {
    first = λ l. refl;
    plain = λ x. x.1;
    none = tt;
    more = λ before x told follows. tt;
    right = λ log before x told follows. at_body log before x.0 x.1 ∙ ap (at_line (length (body log before) + 1)) follows;
    ends = λ log before told whole.
        at_digest log before (digest_line (body log before)) refl
        ∙ (λ i. first_of (at_line (length (body log before)) (cause_of_end (whole i)))
        (fault_unless (same_bytes (digest_line (body log before)) i) Digest));
    only = λ log before l told is e. ((l, is), refl, no_cause (length (body log before) + 1) _ (sym (at_body log before l is) ∙ e));
    ended = λ log before l told is e.
        let p = ended_whole (k.is_whole (lines_of before)) _ _ (sym (at_digest log before l is) ∙ e) in
        ((bytes_eq-Decides l (digest_line (body log before))).0 (unless_none _ Digest p.1), p.0);
  }

  -- items that may follow each other, and then the digest line, are whole
  whole_after : (before xs : List Plain) → AreAfter Follows Ends before xs → k.is_whole (lines_of (before ++ xs)) ≡ true
  whole_after before [] h = subst Ends (sym (append-nil before)) h
  whole_after before (x ∷ xs) h = subst Ends (append_assoc before (x ∷ []) xs) (whole_after (before ++ x ∷ []) xs h.1)

-- ---- what has to be proved of a kind

pub record IsModelKind {M : Type 0} (k : ModelKind M) (Is : M → Type 0) (log : M → Text) (plains : M → List Plain) : Type 0 where
  pub named : (m : M) → Is m → is_name_text (log m) ≡ true
  pub lines : (m : M) → k.header ∷ log_line (log m) ∷ lines_of (plains m) ≡ k.body m
  pub unbroken : (m : M) → Is m → are_unbroken (with_digest_line (k.body m)) ≡ true
  pub follow : (m : M) → Is m → AreAfter (Follows k) (Ends k) [] (plains m)
  pub again : (m : M) → Is m → k.model_in (with_digest_line (k.body m)) ≡ m
  pub found : (name : Text) (xs : List Plain) → is_name_text name ≡ true → AreAfter (Follows k) (Ends k) [] xs
      → (m : M) × (k.header ∷ log_line name ∷ lines_of xs ≡ k.body m) × Is m

-- ---- a failed read is never accepted

never_ok : (decide : Option FileFault) (ls lines : List (List ℕ)) (bytes : List ℕ) → fault_or decide (verdict_at_end ls true bytes) ≡ Ok lines → ⊥
never_ok (Some f) ls lines bytes e = cc
never_ok None ls lines bytes e = by (has_digest ls && nat_lt (length (text_of_lines ls)) (length bytes)) e
  where
    by : (b : Bool) → cond b (Err Trailing) (Err ReadFault) ≡ Ok lines → ⊥
    by true k = cc
    by false k = cc

unread : (form : LineGrammar) (limit : ℕ) (bytes : List ℕ) (lines : List (List ℕ)) → frame.verdict form limit true bytes ≡ Ok lines → ⊥
unfolding frame.verdict
unread form limit bytes lines e = never_ok (frame.decided form limit bytes) (through_digest (cut bytes).lines) lines bytes e

-- ---- what follows

-- lines that were accepted are those of a model
record AreOfModel {M : Type 0} (k : ModelKind M) (Is : M → Type 0) (limit : ℕ) (bytes : List ℕ) (lines : List (List ℕ)) : Type 0 where
  pub model : M
  pub is_model : Is model
  pub lines_are : lines ≡ with_digest_line (k.body model)
  pub text : bytes ≡ text_of_lines lines
  pub short : length bytes ≤ limit

module _ {M : Type 0} {k : ModelKind M} {Is : M → Type 0} {log : M → Text} {plains : M → List Plain} (is : IsModelKind k Is log plains) where
  complete : (limit : ℕ) (m : M) → length (file_of k m) ≤ limit → Is m → verdict_of k limit false (file_of k m) ≡ Ok m
  complete limit m short whole =
      let lines = is.lines m in
      let file = items_are_file (grammar_of k) k.header (λ (x : Plain). x.0) Told (Follows k) (Ends k) (kind k) limit (log m) (plains m) (is.named m whole)
      (subst (λ ls. are_unbroken (with_digest_line ls) ≡ true) (sym lines) (is.unbroken m whole)) (is.follow m whole)
      (subst (λ ls. length (text_of_lines (with_digest_line ls)) ≤ limit) (sym lines) short) in
      ap (model_or_fault k)
      (subst (λ ls. frame.verdict (grammar_of k) limit false (text_of_lines (with_digest_line ls)) ≡ Ok (with_digest_line ls)) lines file)
      ∙ ap Ok (is.again m whole)

  accepted : (limit : ℕ) (bytes : List ℕ) (lines : List (List ℕ)) → frame.verdict (grammar_of k) limit false bytes ≡ Ok lines
      → AreOfModel k Is limit bytes lines
  accepted limit bytes lines v =
      let p = file_is_items (grammar_of k) k.header (λ (x : Plain). x.0) Told (Follows k) (Ends k) (kind k) limit bytes lines v in
      let f = p.2 in
      let m = is.found f.0 f.1 f.3 f.4 in
      record { model = m.0; is_model = m.2; lines_are = f.2 ∙ ap with_digest_line m.1; text = p.0; short = p.1 }

  sound : (limit : ℕ) (bytes : List ℕ) (m : M) → verdict_of k limit false bytes ≡ Ok m → (bytes ≡ file_of k m) × (length bytes ≤ limit) × Is m
  sound limit bytes m h = by (frame.verdict (grammar_of k) limit false bytes) refl h
    where
      by : (r : Result (List (List ℕ)) FileFault) → frame.verdict (grammar_of k) limit false bytes ≡ r → model_or_fault k r ≡ Ok m
          → (bytes ≡ file_of k m) × (length bytes ≤ limit) × Is m
      by (Err e) v q = absurd (cc)
      by (Ok lines) v q =
          let a = accepted limit bytes lines v in
          let told : k.model_in lines ≡ m = cc in
          let same : a.model ≡ m = sym (is.again a.model a.is_model) ∙ ap k.model_in (sym a.lines_are) ∙ told in
          (a.text ∙ ap text_of_lines a.lines_are ∙ ap (file_of k) same, a.short, subst Is same a.is_model)

  pub accepts-models : AcceptsModels k Is
  accepts-models limit bytes m = (
    sound limit bytes m,
    λ h. subst (λ b. verdict_of k limit false b ≡ Ok m) (sym h.0) (complete limit m (subst (λ b. length b ≤ limit) h.0 h.1) h.2),
  )

  pub models-tell : IsInjective k Is
  models-tell m n p q e =
      let lines : with_digest_line (k.body m) ≡ with_digest_line (k.body n) =
      sym (ap (λ c. c.lines) (cut-lines (with_digest_line (k.body m)) (is.unbroken m p)))
      ∙ ap (λ bytes. (cut bytes).lines) e
      ∙ ap (λ c. c.lines) (cut-lines (with_digest_line (k.body n)) (is.unbroken n q)) in
      sym (is.again m p) ∙ ap k.model_in lines ∙ is.again n q

-- ---- what was read

module _ {M : Type 0} (k : ModelKind M) where
  accepted_whole : (limit : ℕ) (failed : Bool) (bytes : List ℕ) (lines : List (List ℕ))
      → frame.verdict (grammar_of k) limit failed bytes ≡ Ok (with_digest_line lines) → k.is_whole (drop 2 lines) ≡ true
  accepted_whole limit true bytes lines v = absurd (unread (grammar_of k) limit bytes (with_digest_line lines) v)
  accepted_whole limit false bytes lines v =
      let f = (file_is_items (grammar_of k) k.header (λ (x : Plain). x.0) Told (Follows k) (Ends k) (kind k) limit bytes (with_digest_line lines) v).2 in
      let before = k.header ∷ log_line f.0 ∷ lines_of f.1 in
      let same : lines ≡ before = last_apart lines before (digest_line lines) (digest_line before) f.2 in
      ap (λ ls. k.is_whole (drop 2 ls)) same ∙ whole_after k [] f.1 f.4

  pub are_whole : {B : Type 0} (lines : B → List (List ℕ)) (r : Result B FileFault) (limit : ℕ) (failed : Bool) (bytes : List ℕ)
      → frame_answers.Answers lines r (frame.verdict (grammar_of k) limit failed bytes) → AreWhole k lines r
  are_whole lines (Ok held) limit failed bytes v = accepted_whole limit failed bytes (lines held) v
  are_whole lines (Err e) limit failed bytes v = tt

module _ {M : Type 0} (k : ModelKind M) {Is : M → Type 0} (accepts : AcceptsModels k Is) {B : Type 0} (lines : B → List (List ℕ)) where
  pub answered : (r : Result B FileFault) (s : Result M FileFault) (limit : ℕ) (failed : Bool) (bytes : List ℕ)
      → IsModelOfRead k lines Is r s → frame_answers.Answers lines r (frame.verdict (grammar_of k) limit failed bytes)
      → AnswersModel s (verdict_of k limit failed bytes)
  answered (Ok held) (Ok m) limit true bytes h e = absurd (unread (grammar_of k) limit bytes (with_digest_line (lines held)) e)
  answered (Ok held) (Ok m) limit false bytes h e =
      let p = file_is_items (grammar_of k) k.header (λ (x : Plain). x.0) Told (Follows k) (Ends k) (kind k) limit bytes (with_digest_line (lines held)) e in
      (accepts limit bytes m).1 (p.0 ∙ ap (λ ls. text_of_lines (with_digest_line ls)) h.0, p.1, h.1)
  answered (Ok held) (Err f) limit failed bytes h e = absurd h
  answered (Err f) (Ok m) limit failed bytes h e = absurd h
  answered (Err f) (Err g) limit failed bytes h e =
      let v = frame.verdict (grammar_of k) limit failed bytes in
      subst (λ x. frame_answers.UnlessMemory (λ y. model_or_fault k v ≡ Err y) x) (sym h)
      (unless_map (λ x. v ≡ Err x) (λ x. model_or_fault k v ≡ Err x) (λ x q. ap (model_or_fault k) q) f e)

  same_fault : (r : Result B FileFault) (s : Result M FileFault) (f : FileFault) → IsModelOfRead k lines Is r s → r ≡ Err f → s ≡ Err f
  same_fault (Ok held) s f h e = absurd (cc)
  same_fault (Err g) (Ok m) f h e = absurd h
  same_fault (Err g) (Err x) f h e = let q : g ≡ f = cc in ap Err (h ∙ q)

  pub reads : (r : Result B FileFault) (s : Result M FileFault) → IsModelOfRead k lines Is r s
      → (limit : ℕ) (old new : Option (List ℕ)) (before after : ℕ)
      → frame_reads.ReadsFile (grammar_of k) lines limit [] old new before after r → ReadsModel k limit old new before after s
  reads r s h limit old new before after x = record {
    failed = x.failed;
    bytes = x.bytes;
    failures = x.failures;
    consumed = x.consumed;
    verdict = answered r s limit x.failed x.bytes h x.verdict;
    failure = λ f. elim (x.failure f) [
      | inl e ↦ inl (same_fault r s _ h e)
      | inr e ↦ inr (same_fault r s _ h e)
    ];
    end = λ f d. elim (x.end f d) [
      | inl e ↦ inl (same_fault r s _ h e)
      | inr e ↦ inr e
    ];
  }

-- the name of a log, as text
pub name_is : (log : Text) → IsNameText log → is_name_text log ≡ true
name_is log name = ap (λ b. b && is_name log) (is_utf8-from_IsUtf8 log name.utf8) ∙ name.a_name
