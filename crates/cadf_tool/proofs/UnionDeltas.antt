-- Deltas between unions of inputs, and of one input each.
use Rattle.cadf_tool.proofs.Common.{common_steps, ◌≡◌, ◌+◌, ℕ, Bool, true, false, cond, List, [], ◌∷◌, length, Option, None, Some, Result, Ok, Err, refl, sym, ap, ◌∙◌, subst, arith, option_or, Text, Contents, texts_total, texts_same, atom_digest, missing, missing_by, InventoryModel, ReplicaModel, Loaded, Replica, ToolFault, NoLog, OtherLog, JoinState, Unnamed, Other, FaultStage, Working, fault_stage, first_named, is_other, union_of, unless_other, join_in, join_from, join_of, on_ok, IsJoinState, log_joined, IsOnOk, under_one_log_at, missing_of, delta_between, if_named, part_of_unions, missing_by_at, part_by, part_by_union, IsWorkFaultBy, IsWorked, IsWorkedBy, IsMissingBy, IsPartAgainst, log_named, atoms_loaded, under_log}
use Rattle.std.specs.Option.{is_some}
use Rattle.cadf_tool.specs.declared.join_state.JoinState.TheVariants.{Joined}
use Rattle.cadf_join.specs.laws.Sets as sets
use Rattle.cadf_tool.proofs.Unions.{on_fault, join_one}
use Rattle.cadf_tool.proofs.UnitingLemmas.{not_other}

-- ---- a delta between unions, by the states of their joins

abbrev delta_of : (first : ℕ) (tos : List Loaded) → ReplicaModel → Result ReplicaModel ToolFault
delta_of first tos h = on_ok (join_from first (Some h.log) tos) (λ k. missing_of (Replica h) (Replica k))

none_named : (froms tos : List Loaded) (b : Bool) → b ≡ is_some (first_named tos) → b ≡ false → part_of_unions (froms, tos) ≡ Err NoLog
none_named froms tos b e h = grind (arith, common_steps)

module _ (froms tos : List Loaded) (from : JoinState) (joined : IsJoinState 1 None froms from) where
  abbrev next : ℕ
  next = length froms + 1

  named_to : is_some (first_named tos) ≡ true → part_of_unions (froms, tos) ≡ on_ok (join_of None froms) (λ h. delta_of next tos h)
  named_to named = grind (arith, common_steps)

  log_is : (h : ReplicaModel) → join_of None froms ≡ Ok h → log_joined from ≡ Some h.log
  log_is h e = by from joined
    where
      by : (s : JoinState) → IsJoinState 1 None froms s → log_joined s ≡ Some h.log
      by (Unnamed ds) j = let f = sym (ap (λ o. join_in 1 o froms) j.0) ∙ e in absurd (cc)
      by (Joined k is_named) j = let f = sym j.0 ∙ e in let same : k ≡ h = cc in ap (λ (m : ReplicaModel). Some m.log) same
      by (Other n) j = let f = sym j ∙ e in absurd (cc)

  module _ (h : ReplicaModel) (e : join_of None froms ≡ Ok h) where
    delta_is : is_some (first_named tos) ≡ true → part_of_unions (froms, tos) ≡ delta_of next tos h
    delta_is named = named_to named ∙ ap (λ r. on_ok r (λ k. delta_of next tos k)) e

    to_united : (k : ReplicaModel) (result : Result ReplicaModel ToolFault) → is_some (first_named tos) ≡ true → join_from next (log_joined from) tos ≡ Ok k
        → IsWorked (missing_of (Replica h) (Replica k)) result → IsWorked (part_of_unions (froms, tos)) result
    to_united k result named t w =
        let is : join_from next (Some h.log) tos ≡ Ok k = subst (λ o. join_from next o tos ≡ Ok k) (log_is h e) t in
        subst (λ r. IsWorked r result) (sym (delta_is named ∙ ap (λ r. on_ok r (λ m. missing_of (Replica h) (Replica m))) is)) w

    to_refused : (fault : ToolFault) → is_some (first_named tos) ≡ true → IsWorked (join_from next (log_joined from) tos) (Err fault)
        → IsWorked (part_of_unions (froms, tos)) (Err fault)
    to_refused fault named w =
        subst (λ r. IsWorked r (Err fault)) (sym (delta_is named)) (on_fault (λ k. missing_of (Replica h) (Replica k)) (join_from next (Some h.log) tos) fault
        (subst (λ o. IsWorked (join_from next o tos) (Err fault)) (log_is h e) w))

  from_refused : (fault : ToolFault) → is_some (first_named tos) ≡ true → IsWorked (join_of None froms) (Err fault) → IsWorked (part_of_unions (froms, tos)) (Err fault)
  from_refused fault named w = subst (λ r. IsWorked r (Err fault)) (sym (named_to named)) (on_fault (λ h. delta_of next tos h) (join_of None froms) fault w)

  -- by the results of both joins
  pub parted : (h k result : Result ReplicaModel ToolFault) (named : Bool) → IsWorked (join_of None froms) h → IsWorked (join_from next (log_joined from) tos) k
      → named ≡ is_some (first_named tos) → (named ≡ true → IsOnOk h (λ f. IsOnOk k (λ t. IsWorked (missing_of (Replica f) (Replica t)))) result)
      → (named ≡ false → result ≡ Err NoLog) → IsWorked (part_of_unions (froms, tos)) result
  parted h k result false f t e made none = subst (IsWorked (part_of_unions (froms, tos))) (sym (none refl)) (none_named froms tos false e refl)
  parted (Err fault) k result true f t e made none = subst (IsWorked (part_of_unions (froms, tos))) (sym (made refl)) (from_refused fault (sym e) f)
  parted (Ok h) (Err fault) result true f t e made none =
      subst (IsWorked (part_of_unions (froms, tos))) (sym (made refl)) (to_refused h f fault (sym e) t)
  parted (Ok h) (Ok k) result true f t e made none = to_united h f k result (sym e) t (made refl)

-- ---- a delta against what was read last

module _ {T : Type 0} (allows : ℕ → T → ReplicaModel → Result ReplicaModel ToolFault → Type 0) (froms : List Loaded) (number : ℕ) (last : T)
    (is : number ≡ length froms + 1) where
  pub by_last : (h result : Result ReplicaModel ToolFault) → IsWorked (join_of None froms) h → IsOnOk h (λ k. IsWorkedBy (allows number last k)) result
      → IsWorkedBy (IsPartAgainst allows (froms, last)) result
  by_last (Ok h) result e w = subst (λ n. IsWorkedBy (IsOnOk (join_of None froms) (allows n last)) result) is
      (subst (λ r. IsWorkedBy (IsOnOk r (allows number last)) result) (sym e) w)
  by_last (Err fault) result e w = subst (IsWorkedBy (IsPartAgainst allows (froms, last))) (sym w) (at (fault_stage fault) e)
    where
      at : (s : FaultStage) → IsWorkFaultBy (λ r. join_of None froms ≡ r) fault s → IsWorkFaultBy (IsPartAgainst allows (froms, last)) fault s
      at Working h = subst (λ r. IsOnOk r (allows (length froms + 1) last) (Err fault)) (sym h) refl
      at _ h = h

-- for an inventory one result is allowed
pub by_inventory : (pair : List Loaded × InventoryModel) (answer : Result ReplicaModel ToolFault) → IsPartAgainst IsMissingBy pair answer
    → part_by_union pair ≡ answer
by_inventory pair answer h = by (join_of None pair.0) h
  where
    by : (r : Result ReplicaModel ToolFault) → IsOnOk r (IsMissingBy (length pair.0 + 1) pair.1) answer
        → on_ok r (λ h. missing_by_at (length pair.0 + 1) (Replica h) pair.1) ≡ answer
    by (Ok h) is = is
    by (Err fault) is = sym is

-- ---- one input each

pub two_is : (l : Loaded) → length (l ∷ []) + 1 ≡ 2
two_is l = omega arith

pub number_two : (l : Loaded) → 2 ≡ length (l ∷ []) + 1
number_two l = sym (two_is l)

pub second_place : (l : Loaded) → 2 ≡ (length (l ∷ []) + 1) + length {A = Loaded} []
second_place l = omega arith

pub part_one : (f t : Loaded) → part_of_unions (f ∷ [], t ∷ []) ≡ delta_between (f, t)
part_one f t =
    ap (λ r. if_named (first_named (t ∷ [])) (on_ok r (λ h. delta_of (length (f ∷ []) + 1) (t ∷ []) h))) (join_one 1 f)
    ∙ ap (λ n. if_named (first_named (t ∷ [])) (on_ok (under_log (log_named f) (atoms_loaded f)) (λ h. delta_of n (t ∷ []) h))) (two_is f)
    ∙ by (log_named f) (log_named t) refl
  where
    held : Text → Contents → ReplicaModel
    held log s = record { log = log; atoms = s }

    joined : (log x : Text) (b : Bool) → log_named t ≡ Some x → is_other log (Some x) ≡ b
        → join_from 2 (Some log) (t ∷ []) ≡ cond b (Err (OtherLog 2)) (Ok (held log (atoms_loaded t)))
    joined log x b is other =
        ap (λ o. unless_other (cond (is_other log o) (Some 2) None) (held log (union_of (t ∷ [])))) is
        ∙ ap (λ c. unless_other (cond c (Some 2) None) (held log (union_of (t ∷ [])))) other ∙ of b
      where
        of : (c : Bool) → unless_other (cond c (Some 2) None) (held log (union_of (t ∷ []))) ≡ cond c (Err (OtherLog 2)) (Ok (held log (atoms_loaded t)))
        of true = refl
        of false = ap (λ s. Ok (held log s)) (sets.union-empty texts_total texts_same (atoms_loaded t))

    both_named : (log x : Text) (b : Bool) → log_named t ≡ Some x → is_other log (Some x) ≡ b
        → delta_of 2 (t ∷ []) (held log (atoms_loaded f)) ≡ cond b (Err (OtherLog 2)) (Ok (held log (missing (atoms_loaded f) (atoms_loaded t))))
    both_named log x true is other = ap (λ r. on_ok r (λ k. missing_of (Replica (held log (atoms_loaded f))) (Replica k))) (joined log x true is other)
    both_named log x false is other =
        ap (λ r. on_ok r (λ k. missing_of (Replica (held log (atoms_loaded f))) (Replica k))) (joined log x false is other)
        ∙ ap (λ c. cond c (Err (OtherLog 2)) (Ok (held log (missing (atoms_loaded f) (atoms_loaded t))))) (not_other log)

    by : (o p : Option Text) → log_named t ≡ p → if_named (option_or p None) (on_ok (under_log o (atoms_loaded f)) (λ h. delta_of 2 (t ∷ []) h))
        ≡ under_one_log_at 2 o p (missing (atoms_loaded f) (atoms_loaded t))
    by None (Some x) is = refl
    by (Some log) (Some x) is = both_named log x (is_other log (Some x)) is refl
    by _ _ is = refl

pub part_by_one : (f : Loaded) (noted : InventoryModel) → part_by_union (f ∷ [], noted) ≡ part_by (f, noted)
part_by_one f noted =
    ap (λ r. on_ok r (λ h. missing_by_at (length (f ∷ []) + 1) (Replica h) noted)) (join_one 1 f)
    ∙ ap (λ n. on_ok (under_log (log_named f) (atoms_loaded f)) (λ h. missing_by_at n (Replica h) noted)) (two_is f)
    ∙ by (log_named f) (atoms_loaded f)
  where
    by : (o : Option Text) (s : Contents) → on_ok (under_log o s) (λ h. missing_by_at 2 (Replica h) noted)
        ≡ under_one_log_at 2 o (Some noted.log) (missing_by atom_digest s noted.digests)
    by None s = refl
    by (Some log) s = refl
