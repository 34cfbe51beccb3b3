-- A source that is read as the file of a model.
use Rattle.cadf_tool.proofs.Common.{sym, ◌≡◌, Bool, true, false, Option, Some, None, Result, Ok, Err, IfOk, IsErrAnd, MatchResult, refl, ap, ◌∙◌, subst, inl, inr, IsAtEnd, counted, FileFault, FILE_LIMIT, ModelKind, grammar_of, model_or_fault, decided_of, verdict_of, AcceptsModels, ReadsModel, ToolFault, model_spec, SourceTransition, IsReadAs}
use Rattle.cadf_linefile.proofs.ReadingLemmas.{refused_verdict}

-- a fault that is decided is the verdict, and the accepted bytes encode the model; the rest is what a reader of such files says
module _ {M : Type 0} (k : ModelKind M) (Is : M → Type 0) (t : SourceTransition) (accepts : AcceptsModels k Is) (m : M)
    (h : ReadsModel k FILE_LIMIT t.old.left t.new.left t.old.failures t.new.failures (Ok m)) where
  unfailed : (b : Bool) → h.failed ≡ b → h.failed ≡ false
  unfailed false is = is
  unfailed true is = elim (h.failure is) [ inl e ↦ absurd (cc) | inr e ↦ absurd (cc) ]

  undecided : (o : Option FileFault) → decided_of k FILE_LIMIT h.bytes ≡ o → decided_of k FILE_LIMIT h.bytes ≡ None
  undecided None is = is
  undecided (Some f) is = let refused = sym h.verdict ∙ ap (model_or_fault k) (refused_verdict (grammar_of k) FILE_LIMIT h.failed h.bytes f is) in absurd (cc)

  pub model_read : IsReadAs (model_spec k Is) t m
  model_read =
      let whole : h.failed ≡ false = unfailed h.failed refl in
      let at_end : IsAtEnd t.new.left = elim (h.end whole (undecided (decided_of k FILE_LIMIT h.bytes) refl)) [
        | inl e ↦ absurd (cc)
        | inr e ↦ e
      ] in
      let is = (accepts FILE_LIMIT h.bytes m).0 (subst (λ b. verdict_of k FILE_LIMIT b h.bytes ≡ Ok m) whole h.verdict) in (
        (h.bytes, (h.consumed, at_end, record { is = is.0; within = is.1; holds = is.2 })),
        h.failures ∙ ap (λ b. counted b t.old.failures) whole,
      )

-- whatever a refusal is made into
pub if_model_read : {M : Type 0} (k : ModelKind M) (Is : M → Type 0) (t : SourceTransition) → AcceptsModels k Is → (read : Result M FileFault)
    (result : Result M ToolFault) (Q : FileFault → ToolFault → Type 0) → ReadsModel k FILE_LIMIT t.old.left t.new.left t.old.failures t.new.failures read
    → MatchResult read (λ m. result ≡ Ok m) (λ f. IsErrAnd result (Q f)) → IfOk result (IsReadAs (model_spec k Is) t)
if_model_read k Is t accepts (Ok m) result Q h same = subst (λ r. IfOk r (IsReadAs (model_spec k Is) t)) (sym same) (model_read k Is t accepts m h)
if_model_read k Is t accepts (Err f) (Ok m) Q h failed = absurd failed
if_model_read k Is t accepts (Err f) (Err e) Q h failed = tt
