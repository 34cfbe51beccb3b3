-- What a delta of files against others has, by whichever means it was computed.
use Rattle.cadf_tool.proofs.Common.{◌≡◌, ℕ, ◌+◌, Bool, true, false, cond, List, [], ◌∷◌, ◌⊎◌, inl, inr, length, Option, None, Some, Ok, refl, sym, ap, ◌∙◌, subst, Text, Texts, Contents, Has, IsWithin, missing_or_held, IsReplicaSet, DoNotCollide, ReplicaModel, IsReplica, Loaded, Replica, log_named, first_named, is_other, other_log, union_of, join_from, join_of, on_ok, missing_of, if_named, part_of_unions, missing_by_at, Means, ByFiles, ByInventory, BySketch, IsTelling, IsDeltaOf}
use Rattle.cadf_join.specs.Sets as set
use Rattle.cadf_tool.proofs.InputUnions.{join_is, IsPart, part_is, part_within, part_kept}
use Rattle.cadf_tool.proofs.InventoryParts.{noted_by, part_by_is, part_by_within, part_by_kept, part_by_part}
use Rattle.cadf_tool.proofs.SketchParts.{sketched_by, part_by_answer, part_by_sketched}
use Rattle.cadf_tool.proofs.Unions.{ok_of}
use Rattle.cadf_tool.proofs.UnitingLemmas.{united_is, is_united}

-- ---- the join under a given log, whatever number its first input has

renumbered : (log : Text) (n m : ℕ) (ls : List Loaded) → other_log log n ls ≡ None → other_log log m ls ≡ None
renumbered log n m [] e = refl
renumbered log n m (l ∷ ls) e = by (is_other log (log_named l)) (renumbered log (n + 1) (m + 1) ls) e
  where
    by : (b : Bool) → (other_log log (n + 1) ls ≡ None → other_log log (m + 1) ls ≡ None) → cond b (Some n) (other_log log (n + 1) ls) ≡ None
        → cond b (Some m) (other_log log (m + 1) ls) ≡ None
    by true rest e = absurd (cc)
    by false rest e = rest e

pub from_one : (n : ℕ) (given : Option Text) (ls : List Loaded) (k : ReplicaModel) → join_from n given ls ≡ Ok k → join_of given ls ≡ Ok k
from_one n given ls k e =
    let u = united_is n given ls k e in is_united 1 given ls k u.log (renumbered k.log n 1 ls u.one_log) u.atoms

unions_of : (ls ks : List Loaded) (h : ReplicaModel) → part_of_unions (ls, ks) ≡ Ok h
    → (held : ReplicaModel) × (k : ReplicaModel) × (join_of None ls ≡ Ok held) × (join_of (Some held.log) ks ≡ Ok k)
    × (missing_of (Replica held) (Replica k) ≡ Ok h)
unions_of ls ks h e = by (first_named ks) e
  where
    Unions : Type 0
    Unions = (held : ReplicaModel) × (k : ReplicaModel) × (join_of None ls ≡ Ok held) × (join_of (Some held.log) ks ≡ Ok k)
        × (missing_of (Replica held) (Replica k) ≡ Ok h)

    by : (o : Option Text) → if_named o (on_ok (join_of None ls)
        (λ f. on_ok (join_from (length ls + 1) (Some f.log) ks) (λ t. missing_of (Replica f) (Replica t)))) ≡ Ok h → Unions
    by None k = absurd (cc)
    by (Some x) k =
        let f = ok_of (join_of None ls) _ h k in
        let t = ok_of (join_from (length ls + 1) (Some f.0.log) ks) _ h f.2 in
        (f.0, t.0, f.1, from_one (length ls + 1) (Some f.0.log) ks t.0 t.1, t.2)

-- ---- the delta

pub record IsDelta (means : Means) (from to : List Loaded → Type 0) (h : ReplicaModel) : Type 0 where
  pub froms : List Loaded
  pub tos : List Loaded
  pub read : from froms
  pub others : to tos
  pub log : first_named froms ≡ Some h.log
  pub kept : IsReplicaSet h.atoms
  pub within : IsWithin h.atoms (union_of froms)
  pub covers : IsTelling means (set.union (union_of froms) (union_of tos)) → (q : Texts) → Has (union_of froms) q → Has (union_of tos) q ⊎ Has h.atoms q

-- the atoms of both, or fewer, are told apart as well
pub fewer_told : (means : Means) (s t : Contents) → IsWithin s t → IsTelling means t → IsTelling means s
fewer_told ByFiles s t w e = tt
fewer_told ByInventory s t w e = λ x y h k. e x y (w x h) (w y k)
fewer_told (BySketch sketched read) s t w e = ((λ x y h k. e.0 x y (w x h) (w y k)), e.1)

module _ (means : Means) (from to : List Loaded → Type 0) (h : ReplicaModel) (ls ks : List Loaded) (held k : ReplicaModel) (read : from ls) (others : to ks)
    (given : Option Text) (joined : join_of None ls ≡ Ok held) (joined' : join_of given ks ≡ Ok k) where
  froms_same : held.atoms ≡ union_of ls
  froms_same = (join_is None ls held joined).atoms

  both_same : set.union held.atoms k.atoms ≡ set.union (union_of ls) (union_of ks)
  both_same = λ i. set.union (froms_same i) ((join_is given ks k joined').atoms i)

  as_delta : held.log ≡ h.log → IsReplicaSet h.atoms → IsWithin h.atoms held.atoms
      → (IsTelling means (set.union held.atoms k.atoms) → IsPart (Replica held) (Replica k) h) → IsDelta means from to h
  as_delta log kept low part = record {
    froms = ls;
    tos = ks;
    read = read;
    others = others;
    log = (join_is None ls held joined).log ∙ ap Some log;
    kept = kept;
    within = subst (IsWithin h.atoms) froms_same low;
    covers = λ told q g.
        let p = part (subst (IsTelling means) (sym both_same) told) in
        elim (missing_or_held held.atoms k.atoms q (subst (λ s. Has s q) (sym froms_same) g)) [
          | inl t ↦ inl (subst (λ s. Has s q) (join_is given ks k joined').atoms t)
          | inr t ↦ inr (subst (λ s. Has s q) (sym p.atoms) t)
        ];
  }

named_same : (x y : Text) → ◌≡◌ {A = Option Text} (Some x) (Some y) → x ≡ y
named_same x y e = cc

pub delta_is : (means : Means) (from to : List Loaded → Type 0) (h : ReplicaModel) → ((ls : List Loaded) → from ls → IsReplicaSet (union_of ls))
    → ((ks : List Loaded) (k : ReplicaModel) → to ks → join_of None ks ≡ Ok k → IsReplica k) → IsDeltaOf means from to h → IsDelta means from to h
delta_is ByFiles from to h kept known (ls, ks, read, others, e) =
    let u = unions_of ls ks h e in
    let held : ReplicaModel = u.0 in
    let is_set : IsReplicaSet held.atoms = subst IsReplicaSet (sym (join_is None ls held u.2).atoms) (kept ls read) in
    let p = part_is (Replica held) (Replica u.1) h u.4 in
    as_delta ByFiles from to h ls ks held u.1 read others (Some held.log) u.2 u.3 (named_same held.log h.log p.log)
    (part_kept (Replica held) (Replica u.1) h is_set p) (part_within (Replica held) (Replica u.1) h is_set.grounded p) (λ t. p)
delta_is ByInventory from to h kept known (ls, noted, read, of_noted, e) =
    let n = noted_by to noted known of_noted in
    let u = ok_of (join_of None ls) (λ k. missing_by_at (length ls + 1) (Replica k) noted) h e in
    let held : ReplicaModel = u.0 in
    let is_set : IsReplicaSet held.atoms = subst IsReplicaSet (sym (join_is None ls held u.1).atoms) (kept ls read) in
    let p = part_by_is (length ls + 1) (Replica held) noted h u.2 in
    as_delta ByInventory from to h ls n.0 held n.1 read n.2 None u.1 n.3 (named_same held.log h.log p.log)
    (part_by_kept (Replica held) noted h is_set p) (part_by_within (Replica held) noted h is_set.grounded p)
    (λ t. part_by_part (Replica held) (Replica n.1) noted h t n.4 p)
delta_is (BySketch sketched decoded) from to h kept known (ls, held, sketch, read, joined, of_sketch, answer, same) =
    let n = sketched_by to sketched sketch known of_sketch in
    let is_set : IsReplicaSet held.atoms = subst IsReplicaSet (sym (join_is None ls held joined).atoms) (kept ls read) in
    let p = part_by_answer held sketch h answer in
    as_delta (BySketch sketched decoded) from to h ls n.0 held n.1 read n.2 None joined n.3 (named_same held.log h.log p.log)
    (part_by_kept (Replica held) answer.theirs h is_set p) (part_by_within (Replica held) answer.theirs h is_set.grounded p)
    (λ t. part_by_part (Replica held) (Replica n.1) sketched h t.0 n.4
    (part_by_sketched held sketch h answer sketched n.5 n.6 (subst (λ m. DoNotCollide m sketched) (sym same) t.1)))
