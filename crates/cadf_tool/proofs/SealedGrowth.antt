-- Two seals and a proof are read, and an erased list if there is one, and the line on them is told.
use Rattle.cadf_tool.proofs.Common.{◌≡◌, ℕ, Bool, true, false, List, [], ◌∷◌, length, map, get_or, set, Result, Ok, Err, Option, None, Some, IsErrAnd, refl, sym, ap, subst, arith, true≢false, Sink, Text, ToolFault, FaultStage, Reading, Working, Writing, OutOfMemoryStage, fault_stage, SourceState, ListedModel, ProofModel, SealModel, seal_spec, proof_spec, erased_spec, list_if, three, both, with_number, IsExpected, IsFirstFault, IsReadAs, IsReadWithin, IsRun, IsToldBy, IsUnread, IsValueOf, Sources, growth_line, GrowthFaultIs, grown, GrowthFault, Proof, Gone, of_growth, of_grown, IsWorked}
use Rattle.cadf_evidence.specs.declared.growth.GrowthFault.TheVariants.{OtherLog, Memory}
use Rattle.cadf_tool.proofs.Runs.{AreRead, AreStopped, AreUntouched, both_read, first_stopped, second_stopped, stopped, worked_run}

-- ---- what was read, by what a function ensures

module _ {A : Type 0} (sources : Sources A) where
  pub expected_read : ((a : A) → sources.are a → sources.unfailed) → (v : A) → IsExpected sources Ok (Ok v) → AreRead sources v
  expected_read unfailed v e =
      let a = e.is in
      let same : a.0 ≡ v = cc in
      subst (AreRead sources) same (record { are = a.1; unfailed = unfailed a.0 a.1; bounded = e.bounded })

  pub expected_stopped : (fault : ToolFault) → IsExpected sources Ok (Err fault) → AreStopped sources fault
  expected_stopped fault e = record { is = e.is; bounded = e.bounded }

-- ---- an erased list

list_unfailed : (b : Bool) (old new : List SourceState) (list : Option ListedModel) → (list_if b old new).are list → (list_if b old new).unfailed
list_unfailed false old new list are = tt
list_unfailed true old new None are = absurd are
list_unfailed true old new (Some list) are = are.1

list_untouched : (b : Bool) (old : List SourceState) → AreUntouched (list_if b old old)
list_untouched false old = record { unread = tt; unfailed = tt; bounded = tt }
list_untouched true old = record { unread = refl; unfailed = refl; bounded = omega arith }

pub no_list : (b : Bool) (old new : List SourceState) → b ≡ false → IsExpected (list_if b old new) Ok (Ok None)
no_list true old new e = absurd (true≢false e)
no_list false old new e = record { is = (None, refl, refl); bounded = tt }

module _ {S : Type 0} (see : S → SourceState) where
  pub list_read : (b : Bool) (l : List S) (d y : S) (list : ListedModel) → b ≡ true → length l ≡ 1
      → IsReadAs erased_spec (record { old = see (get_or l 0 d); new = see y }) list
      → IsReadWithin erased_spec.limit (record { old = see (get_or l 0 d); new = see y })
      → IsExpected (list_if b (map see l) (map see (set l 0 y))) Ok (Ok (Some list))
  list_read false l d y list e count is within = absurd (true≢false (sym e))
  list_read true [] d y list e count is within = absurd (omega (arith, count))
  list_read true (z ∷ l) d y list e count is within = record { is = (Some list, is, refl); bounded = within }

  pub list_refused : (b : Bool) (l : List S) (d y : S) (fault : ToolFault) → b ≡ true → length l ≡ 1
      → IsUnread (with_number 4 erased_spec (record { old = see (get_or l 0 d); new = see y })) fault
      → IsReadWithin erased_spec.limit (record { old = see (get_or l 0 d); new = see y })
      → AreStopped (list_if b (map see l) (map see (set l 0 y))) fault
  list_refused false l d y fault e count is within = absurd (true≢false (sym e))
  list_refused true [] d y fault e count is within = absurd (omega (arith, count))
  list_refused true (z ∷ l) d y fault e count is within = record { is = at (fault_stage fault) is; bounded = within }
    where
      at : (stage : FaultStage) → IsFirstFault (with_number 4 erased_spec (record { old = see z; new = see y })) Ok fault stage
          → IsFirstFault (list_if true (map see (z ∷ l)) (map see (y ∷ l))) Ok fault stage
      at (Reading n f) h = h
      at Working (a, are, k) = absurd (cc)
      at Writing h = h
      at OutOfMemoryStage h = h

-- ---- the run

module _ (b : Bool) (os ns ps qs : List SourceState) where
  sealed_unfailed : (v : SealModel × (SealModel × ProofModel)) → (three seal_spec seal_spec proof_spec os ns).are v
      → (three seal_spec seal_spec proof_spec os ns).unfailed
  sealed_unfailed v are = (are.0.1, (are.1.0.1, are.1.1.1))

  module _ {W T : Type 0} {sink : Sink W} {old new : W} {result : Result T ToolFault} where
    pub growth_told : (v : SealModel × (SealModel × ProofModel)) (list : Option ListedModel) → IsExpected (three seal_spec seal_spec proof_spec os ns) Ok (Ok v)
        → IsExpected (list_if b ps qs) Ok (Ok list) → IsToldBy (IsValueOf growth_line (v, list)) (λ text. text) sink old new result
        → IsRun (both (three seal_spec seal_spec proof_spec os ns) (list_if b ps qs)) growth_line (λ text. text) sink old new result
    growth_told v list first second told =
        worked_run told.made
        (both_read (expected_read (three seal_spec seal_spec proof_spec os ns) sealed_unfailed v first)
        (expected_read (list_if b ps qs) (list_unfailed b ps qs) list second))
        told.worked told.answer

  module _ {W T : Type 0} {sink : Sink W} {old : W} (result : Result T ToolFault) (fault : ToolFault) (passed : IsErrAnd result (λ f. f ≡ fault)) where
    pub list_unread : (v : SealModel × (SealModel × ProofModel)) → IsExpected (three seal_spec seal_spec proof_spec os ns) Ok (Ok v)
        → IsExpected (list_if b ps qs) Ok (Err fault)
        → IsRun (both (three seal_spec seal_spec proof_spec os ns) (list_if b ps qs)) growth_line (λ text. text) sink old old result
    list_unread v first second =
        stopped result fault passed
        (second_stopped (expected_read (three seal_spec seal_spec proof_spec os ns) sealed_unfailed v first) (expected_stopped (list_if b ps qs) fault second))

    pub sealed_unread : IsExpected (three seal_spec seal_spec proof_spec os ns) Ok (Err fault)
        → IsRun (both (three seal_spec seal_spec proof_spec os ns) (list_if b ps ps)) growth_line (λ text. text) sink old old result
    sealed_unread first =
        stopped result fault passed (first_stopped (expected_stopped (three seal_spec seal_spec proof_spec os ns) fault first) (list_untouched b ps))

-- what is told of a proof
module _ (a b : SealModel) (p : ProofModel) (listed list : Option ListedModel) (same : listed ≡ list) where
  pub line_told : (text : List ℕ) → grown a b p listed ≡ Ok text → growth_line ((a, (b, p)), list) ≡ Ok text
  line_told text h = subst (λ l. growth_line ((a, (b, p)), l) ≡ Ok text) same (ap of_grown h)

  pub refused_told : (e : GrowthFault) (fault : ToolFault) → fault ≡ of_growth e → GrowthFaultIs e (grown a b p listed)
      → IsWorked (growth_line ((a, (b, p)), list)) (Err fault)
  refused_told e fault is h =
      subst (λ l. IsWorked (growth_line ((a, (b, p)), l)) (Err fault)) same
      (subst (λ (f : ToolFault). IsWorked (growth_line ((a, (b, p)), listed)) (Err f)) (sym is) (by e h))
    where
      by : (f : GrowthFault) → GrowthFaultIs f (grown a b p listed) → IsWorked (growth_line ((a, (b, p)), listed)) (Err (of_growth f))
      by (OtherLog n) k = ap of_grown k
      by (Proof n t g) k = ap of_grown k
      by (Gone t d) k = ap of_grown k
      by Memory k = tt
