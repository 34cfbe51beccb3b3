-- Engines over the union of several inputs: their work on the union, and one input in place of several.
use Rattle.cadf_tool.proofs.Common.{◌≡◌, ℕ, cond, List, [], ◌∷◌, ◌+◌, length, arith, Option, None, Some, Result, Ok, Err, refl, sym, ap, ◌∙◌, subst, option_or, Source, Sink, Text, texts_total, texts_same, ReplicaModel, Loaded, Replica, ToolFault, FaultStage, Working, fault_stage, is_other, join_in, join_from, join_of, on_ok, of_union, SourceTransition, Sources, one, all, input_spec, IsValueOf, IsFirstFaultBy, IsExpected, IsWorkFaultBy, IsWorked, IsToldBy, IsRun, log_named, atoms_loaded, under_log, replica_model_of, IsOfReplica}
use Rattle.cadf_join.specs.laws.Sets as sets
use Rattle.cadf_tool.proofs.LoadedLists.{none_failed}
use Rattle.cadf_tool.proofs.Runs.{worked_run}
use Rattle.cadf_tool.proofs.UnitingLemmas.{is_united, not_other}

-- ---- a work after another

module _ {H M : Type 0} (work : H → Result M ToolFault) where
  -- the result of the first is a value, or a fault
  pub on_value : (before : Result H ToolFault) (h : H) (result : Result M ToolFault) → before ≡ Ok h → IsWorked (work h) result → IsWorked (on_ok before work) result
  on_value before h result e w = subst (λ x. IsWorked (on_ok x work) result) (sym e) w

  pub on_fault : (before : Result H ToolFault) (fault : ToolFault) → IsWorked before (Err fault) → IsWorked (on_ok before work) (Err fault)
  on_fault before fault w = at (fault_stage fault) w
    where
      at : (s : FaultStage) → IsWorkFaultBy (λ r. before ≡ r) fault s → IsWorkFaultBy (λ r. on_ok before work ≡ r) fault s
      at Working h = ap (λ x. on_ok x work) h
      at _ h = h

-- both have a value
pub ok_of : {A B : Type 0} (before : Result A ToolFault) (work : A → Result B ToolFault) (b : B) → on_ok before work ≡ Ok b
    → (a : A) × (before ≡ Ok a) × (work a ≡ Ok b)
ok_of (Ok a) work b e = (a, refl, e)
ok_of (Err fault) work b e = absurd (cc)

-- ---- a run, by what was read and what was made of it

module _ {A H M W T : Type 0} (sources : Sources A) (read : A → Result H ToolFault) (work : H → Result M ToolFault)
    (whole : A → Result M ToolFault) (is : (a : A) → whole a ≡ on_ok (read a) work) (tell : M → Text) (sink : Sink W) (old new : W) where
  -- the work on what was read was told
  pub told_run : (unfailed : (a : A) → sources.are a → sources.unfailed) (h : H) (result : Result T ToolFault) → IsExpected sources read (Ok h)
      → IsToldBy (IsValueOf work h) tell sink old new result → IsRun sources whole tell sink old new result
  told_run unfailed h result expected told =
      let a = expected.is in
      worked_run told.made (record { are = a.1; unfailed = unfailed a.0 a.1; bounded = expected.bounded })
      (subst (λ r. IsWorked r told.made) (sym (is a.0)) (on_value work (read a.0) h told.made a.2 told.worked)) told.answer

  -- nothing was read
  pub refused_run : (fault : ToolFault) → new ≡ old → IsExpected sources read (Err fault) → IsRun {T = T} sources whole tell sink old new (Err fault)
  refused_run fault same expected = record {
    expected = Err fault;
    first = record { is = at (fault_stage fault) expected.is; bounded = expected.bounded };
    answer = (refl, same);
  }
    where
      at : (s : FaultStage) → IsFirstFaultBy sources (IsValueOf read) fault s → IsFirstFaultBy sources (IsValueOf whole) fault s
      at Working (a, are, e) = (a, are, is a ∙ ap (λ r. on_ok r work) e)
      at _ h = h

-- ---- the work on one input

pub first_place : 1 ≡ 1 + length {A = Loaded} []
first_place = omega arith

-- one input is its own union
pub join_one : (first : ℕ) (l : Loaded) → join_from first None (l ∷ []) ≡ replica_model_of l
join_one first l = by (log_named l) refl
  where
    by : (o : Option Text) → log_named l ≡ o → join_from first None (l ∷ []) ≡ under_log o (atoms_loaded l)
    by None is = ap (λ o. join_in first (option_or o None) (l ∷ [])) is
    by (Some log) is =
        is_united first None (l ∷ []) (record { log = log; atoms = atoms_loaded l }) (ap (λ o. option_or o None) is)
        (ap (λ o. cond (is_other log o) (Some first) None) is ∙ ap (λ b. cond b (Some first) None) (not_other log))
        (sym (sets.union-empty texts_total texts_same (atoms_loaded l)))

-- ---- engines, by the replica that was read

module _ {M W T : Type 0} (work : Loaded → Result M ToolFault) (tell : M → Text) (sink : Sink W) (old new : W) where
  module _ {S : Type 0} (source : Source S) (inputs after : List S) where
    pub union_told : (h : ReplicaModel) (result : Result T ToolFault) → IsExpected (all source inputs after) (join_of None) (Ok h)
        → IsToldBy (IsValueOf work (Replica h)) tell sink old new result → IsRun (all source inputs after) (of_union work) tell sink old new result
    union_told h result expected told =
        told_run (all source inputs after) (join_of None) (λ k. work (Replica k)) (of_union work) (λ ls. refl) tell sink old new
        (λ ls are. none_failed _ _ ls are) h result expected told

    pub union_refused : (fault : ToolFault) → new ≡ old → IsExpected (all source inputs after) (join_of None) (Err fault)
        → IsRun {T = T} (all source inputs after) (of_union work) tell sink old new (Err fault)
    union_refused fault same expected =
        refused_run (all source inputs after) (join_of None) (λ k. work (Replica k)) (of_union work) (λ ls. refl) tell sink old new fault same expected

  module _ (via : IsOfReplica work) (t : SourceTransition) where
    pub one_told : (h : ReplicaModel) (result : Result T ToolFault) → IsExpected (one input_spec t) replica_model_of (Ok h)
        → IsToldBy (IsValueOf work (Replica h)) tell sink old new result → IsRun (one input_spec t) work tell sink old new result
    one_told h result expected told =
        told_run (one input_spec t) replica_model_of (λ k. work (Replica k)) work via tell sink old new (λ l are. are.1) h result expected told

    pub one_refused : (fault : ToolFault) → new ≡ old → IsExpected (one input_spec t) replica_model_of (Err fault)
        → IsRun {T = T} (one input_spec t) work tell sink old new (Err fault)
    one_refused fault same expected = refused_run (one input_spec t) replica_model_of (λ k. work (Replica k)) work via tell sink old new fault same expected
