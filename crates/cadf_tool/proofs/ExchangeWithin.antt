-- Whatever was run, a file has its log, and no atoms but those that it brought.
use Rattle.cadf_tool.proofs.Common.{◌≡◌, ℕ, Bool, List, [], ◌∷◌, Option, None, Some, Ok, refl, sym, ap, ◌∙◌, subst, option_or, Text, Texts, Contents, Has, IsWithin, texts_total, texts_same, carrier, IsReplicaSet, one_atom, ruling_atom, ReplicaModel, kept_empty, kept_union, IsReplica, written_file, Loaded, Replica, IsInput, log_named, atoms_loaded, IsHeld, first_named, union_of, join_of, Means, Derivation, External, Empty, Joined, Kept, Ruled, Delta, Files, End, File, kept, IsByCarrier, files_of, IsReadOf, IsDeltaOf, IsResult, IsDerived, AreRead, IsOfRun, brought, brought_by, log_of, first_log, HoldsAtMost}
use Rattle.cadf_join.specs.Sets as set
use Rattle.cadf_join.specs.laws.Sets as laws
use Rattle.cadf_join.proofs.Members as members
use Rattle.cadf_tool.proofs.OneText.{one_loaded}
use Rattle.cadf_tool.proofs.KeptInputs.{input_kept}
use Rattle.cadf_tool.proofs.HeldReplicas.{replica_named}
use Rattle.cadf_tool.proofs.RuledFiles.{rule_kept, rule_log, rule_atoms}
use Rattle.cadf_tool.proofs.InputUnions.{loaded_file, join_is}
use Rattle.cadf_tool.proofs.Deltas.{IsDelta, delta_is}

-- ---- the inputs that files are read as

pub files_kept : (files : Files) (ls : List Loaded) → AreRead files ls → IsReplicaSet (union_of ls)
files_kept End [] read = kept_empty
files_kept (File m files) (l ∷ ls) ((bytes, made, input), read) = kept_union (atoms_loaded l) (union_of ls) (input_kept bytes l input) (files_kept files ls read)
files_kept _ _ read = absurd read

-- a log that one of them names is a log's name
files_named : (files : Files) (ls : List Loaded) (h : ReplicaModel) → AreRead files ls → first_named ls ≡ Some h.log → IsReplicaSet h.atoms → IsReplica h
files_named End [] h read named is = absurd (cc)
files_named (File m files) (l ∷ ls) h ((bytes, made, input), read) named is = by (log_named l) refl named (λ k. files_named files ls h read k is)
  where
    by : (o : Option Text) → log_named l ≡ o → option_or o (first_named ls) ≡ Some h.log → (first_named ls ≡ Some h.log → IsReplica h) → IsReplica h
    by None e k rest = rest k
    by (Some log) e k rest = replica_named bytes l h input (e ∙ k) is
files_named _ _ h read named is = absurd read

pub files_replica : (files : Files) (ls : List Loaded) (h : ReplicaModel) → AreRead files ls → join_of None ls ≡ Ok h → IsReplica h
files_replica files ls h read joined =
    let j = join_is None ls h joined in
    files_named files ls h read j.log (subst IsReplicaSet (sym j.atoms) (files_kept files ls read))

-- ---- what a run results in

pub files_delta : (means : Means) (from to : Files) (h : ReplicaModel) → IsDeltaOf means (λ ls. AreRead from ls) (λ ls. AreRead to ls) h
    → IsDelta means (λ ls. AreRead from ls) (λ ls. AreRead to ls) h
files_delta means from to h d = delta_is means (λ ls. AreRead from ls) (λ ls. AreRead to ls) h (files_kept from) (files_replica to) d

part_kept : (cut : Texts → Bool) (s : Contents) → IsByCarrier cut → IsReplicaSet s → IsReplicaSet (kept cut s)
part_kept cut s by is = record {
  grounded = λ q h. members.in_retain texts_total texts_same s cut (carrier q) (is.grounded q (members.retain_has texts_total texts_same s cut q h))
      (by q ∙ members.retain_passes texts_total texts_same s cut q h);
  are_atoms = λ q h. is.are_atoms q (members.retain_has texts_total texts_same s cut q h);
}

joined_kept : (log : Option Text) (files : Files) (ls : List Loaded) (h : ReplicaModel) → AreRead files ls → join_of log ls ≡ Ok h → IsReplicaSet h.atoms
joined_kept log files ls h read joined = subst IsReplicaSet (sym (join_is log ls h joined).atoms) (files_kept files ls read)

pub result_kept : (m : Derivation) (h : ReplicaModel) → IsResult m h → IsReplicaSet h.atoms
result_kept (Joined log files) h (ls, read, joined) = joined_kept log files ls h read joined
result_kept (Kept cut log files) h (by, ls, whole, read, joined, is) =
    subst IsReplicaSet (sym (ap (λ (k : ReplicaModel). k.atoms) is)) (part_kept cut whole.atoms by (joined_kept log files ls whole read joined))
result_kept (Ruled place ruling files) h (ls, held, read, joined, at, e) =
    rule_kept place ruling (Replica held) h e (joined_kept None files ls held read joined)
result_kept (Delta means from to) h d = (files_delta means from to h d).kept
result_kept _ h r = absurd r

-- the file of a run is that of its result
pub derived_run : (m : Derivation) (bytes : List ℕ) → IsOfRun m → IsDerived m bytes → (h : ReplicaModel) × IsResult m h × (bytes ≡ written_file h)
derived_run (Joined log files) bytes run d = d
derived_run (Kept cut log files) bytes run d = d
derived_run (Ruled place ruling files) bytes run d = d
derived_run (Delta means from to) bytes run d = d
derived_run _ bytes run d = absurd run

pub as_run : (m : Derivation) (l : Loaded) → IsOfRun m → IsReadOf (λ b. IsDerived m b) l → (h : ReplicaModel) × IsResult m h × (l ≡ Replica h)
as_run m l run (bytes, made, input) =
    let d = derived_run m bytes run made in (d.0, d.1, loaded_file bytes d.0 l (result_kept m d.0 d.1) d.2 input)

-- ---- nothing else is in a file

pub record IsReadWithin (m : Derivation) (l : Loaded) : Type 0 where
  pub log : log_named l ≡ log_of m
  pub atoms : IsWithin (atoms_loaded l) (brought m)

pub record AreReadWithin (files : Files) (ls : List Loaded) : Type 0 where
  pub log : first_named ls ≡ first_log files
  pub atoms : IsWithin (union_of ls) (brought_by files)

result_within : (m : Derivation) (h : ReplicaModel) → IsResult m h → ((ls : List Loaded) → AreRead (files_of m) ls → AreReadWithin (files_of m) ls) → HoldsAtMost m h
result_within (Joined log files) h (ls, read, joined) f =
    let w = f ls read in
    let j = join_is log ls h joined in
    record { log = sym (ap (option_or log) w.log) ∙ j.log; atoms = λ q k. w.atoms q (subst (λ s. Has s q) j.atoms k) }
result_within (Kept cut log files) h (by, ls, whole, read, joined, is) f =
    let w = f ls read in
    let j = join_is log ls whole joined in
    record {
      log = sym (ap (option_or log) w.log) ∙ j.log ∙ ap (λ (k : ReplicaModel). Some k.log) (sym is);
      atoms = λ q k.
          let in_part : Has (kept cut whole.atoms) q = subst (λ (t : ReplicaModel). Has t.atoms q) is k in
          members.in_retain texts_total texts_same (brought_by files) cut q
          (w.atoms q (subst (λ s. Has s q) j.atoms (members.retain_has texts_total texts_same whole.atoms cut q in_part)))
          (members.retain_passes texts_total texts_same whole.atoms cut q in_part);
    }
result_within (Ruled place ruling files) h (ls, held, read, joined, at, e) f =
    let w = f ls read in
    let j = join_is None ls held joined in
    let one : Contents = one_atom (ruling_atom ruling) in
    record {
      log = sym w.log ∙ j.log ∙ rule_log place ruling (Replica held) h e;
      atoms = subst (λ s. IsWithin s (set.union (brought_by files) one)) (sym (rule_atoms place ruling (Replica held) h e at))
          (laws.union_rises texts_total held.atoms one (brought_by files) one (λ q k. w.atoms q (subst (λ s. Has s q) j.atoms k)) (laws.IsWithin-refl one));
    }
result_within (Delta means from to) h made f =
    let d = files_delta means from to h made in
    let w = f d.froms d.read in
    record { log = sym w.log ∙ d.log; atoms = λ q k. w.atoms q (d.within q k) }
result_within _ h r f = absurd r

loaded_within : (m : Derivation) (l : Loaded) (h : ReplicaModel) → l ≡ Replica h → HoldsAtMost m h → IsReadWithin m l
loaded_within m l h same told = record { log = ap log_named same ∙ sym told.log; atoms = λ q k. told.atoms q (subst (λ t. Has (atoms_loaded t) q) same k) }

run_within : (m : Derivation) (l : Loaded) → IsOfRun m → IsReadOf (λ b. IsDerived m b) l
    → ((ls : List Loaded) → AreRead (files_of m) ls → AreReadWithin (files_of m) ls) → IsReadWithin m l
run_within m l run r f = let a = as_run m l run r in loaded_within m l a.0 a.2 (result_within m a.0 a.1 f)

-- what is read of a file that no run wrote
pub external_read : (given : List ℕ) (loaded l : Loaded) → IsReadOf (λ b. IsDerived (External given loaded) b) l → l ≡ loaded
external_read given loaded l (bytes, made, input) = one_loaded bytes l loaded input (subst (λ b. IsInput b loaded) (sym made.0) made.1)

pub empty_read : (log : Text) (l : Loaded) → IsReadOf (λ b. IsDerived (Empty log) b) l → (log_named l ≡ Some log) × (atoms_loaded l ≡ set.empty)
empty_read log l (bytes, made, input) =
    let same = one_loaded bytes l made.loaded input made.input in
    (ap log_named same ∙ made.named, ap atoms_loaded same ∙ sym made.atoms)

mutual
  pub read_within : (m : Derivation) (l : Loaded) → IsReadOf (λ b. IsDerived m b) l → IsReadWithin m l
  read_within (External given loaded) l r =
      let same = external_read given loaded l r in record { log = ap log_named same; atoms = λ q k. subst (λ t. Has (atoms_loaded t) q) same k }
  read_within (Empty log) l r = let e = empty_read log l r in record { log = e.0; atoms = λ q k. subst (λ s. Has s q) e.1 k }
  read_within (Joined log files) l r = run_within (Joined log files) l tt r (files_within files)
  read_within (Kept cut log files) l r = run_within (Kept cut log files) l tt r (files_within files)
  read_within (Ruled place ruling files) l r = run_within (Ruled place ruling files) l tt r (files_within files)
  read_within (Delta means from to) l r = run_within (Delta means from to) l tt r (files_within from)

  pub files_within : (files : Files) (ls : List Loaded) → AreRead files ls → AreReadWithin files ls
  files_within End [] read = record { log = refl; atoms = laws.IsWithin-refl _ }
  files_within (File m files) (l ∷ ls) read =
      let r = read_within m l read.0 in
      let rest = files_within files ls read.1 in
      record {
        log = λ i. option_or (r.log i) (rest.log i);
        atoms = laws.union_rises texts_total (atoms_loaded l) (union_of ls) (brought m) (brought_by files) r.atoms rest.atoms;
      }
  files_within _ _ read = absurd read

pub result_at_most : (m : Derivation) (h : ReplicaModel) → IsResult m h → HoldsAtMost m h
result_at_most m h r = result_within m h r (files_within (files_of m))

pub held_within : (m : Derivation) (bytes : List ℕ) (h : ReplicaModel) → IsDerived m bytes → IsHeld bytes h → HoldsAtMost m h
held_within m bytes h made held =
    let r = read_within m held.loaded (bytes, made, held.input) in
    record { log = sym r.log ∙ held.named; atoms = λ q k. r.atoms q (subst (λ s. Has s q) held.atoms k) }
