-- The results of `inventory` and `missing-by` for inputs.
use Rattle.cadf_tool.proofs.Common.{◌≡◌, ℕ, Bool, true, false, cond, List, Option, None, Some, Result, Ok, Err, refl, sym, ap, ◌∙◌, subst, Text, Contents, IsWithin, IsGrounded, IsReplicaSet, Digests, digests_of, unknown, missing_by, NoCollision, ReplicaModel, with_carriers_grounded, with_carriers_least, unknown_has, missing_by_is, digest_of_some, is_name_text, IsReplica, Some-same, IsInventory, inventory-file-tells, Loaded, ToolFault, OtherLog, Replica, log_named, atoms_loaded, is_other, join_of, under_one_log_at, atom_digest, IsDigest, InventoryModel, AreDigests, inventory_model_under, inventory_model_of, missing_by_at, IsInventoryReadOf, line, sha_digest}
use Rattle.cadf_join.specs.Sets as set
use Rattle.cadf_tool.proofs.Unions.{ok_of}
use Rattle.cadf_tool.proofs.InputUnions.{IsPart, replica_model_under, held_same}

-- ---- the inventory of an input

pub record Notes (loaded : Loaded) (noted : InventoryModel) : Type 0 where
  pub log : log_named loaded ≡ Some noted.log
  pub digests : noted.digests ≡ digests_of atom_digest (atoms_loaded loaded)

abbrev noted_as : Text → Digests → InventoryModel
noted_as log digests = record { log = log; digests = digests }

noted_same : (log : Text) (digests : Digests) (n : InventoryModel) → ◌≡◌ {A = Result InventoryModel ToolFault} (Ok (noted_as log digests)) (Ok n)
    → (log ≡ n.log) × (n.digests ≡ digests)
noted_same log digests n e =
    let same : noted_as log digests ≡ n = cc in
    (ap (λ (k : InventoryModel). k.log) same, sym (ap (λ (k : InventoryModel). k.digests) same))

pub notes : (loaded : Loaded) (noted : InventoryModel) → inventory_model_of loaded ≡ Ok noted → Notes loaded noted
notes loaded noted e = by (log_named loaded) refl e
  where
    by : (o : Option Text) → log_named loaded ≡ o → inventory_model_under o (digests_of atom_digest (atoms_loaded loaded)) ≡ Ok noted → Notes loaded noted
    by None is k = absurd (cc)
    by (Some name) is k =
        let same = noted_same name (digests_of atom_digest (atoms_loaded loaded)) noted k in
        record { log = is ∙ ap Some same.0; digests = same.1 }

are_digests : (s : Contents) → AreDigests (digests_of atom_digest s)
are_digests s d h = let t = digest_of_some atom_digest s d h in subst IsDigest (sym t.2) (sha_digest (line t.0))

-- the inventory satisfies its invariant, by a replica of its log
pub notes_inventory : (loaded : Loaded) (noted : InventoryModel) (h : ReplicaModel) → IsReplica h → h.log ≡ noted.log → Notes loaded noted → IsInventory noted
notes_inventory loaded noted h r same n = record {
  log = subst (λ t. is_name_text t ≡ true) same r.log;
  digests = subst AreDigests (sym n.digests) (are_digests (atoms_loaded loaded));
}

-- the inventory that was read was made of the union
pub noted_by : (of : List Loaded → Type 0) (noted : InventoryModel) → ((ls : List Loaded) (k : ReplicaModel) → of ls → join_of None ls ≡ Ok k → IsReplica k)
    → IsInventoryReadOf of noted → (ls : List Loaded) × (k : ReplicaModel) × of ls × (join_of None ls ≡ Ok k) × Notes (Replica k) noted
noted_by of noted known (bytes, (ls, written, read, made, is), input) =
    let u = ok_of (join_of None ls) (λ k. inventory_model_of (Replica k)) written made in
    let n : Notes (Replica u.0) written = notes (Replica u.0) written u.2 in
    let inventory = notes_inventory (Replica u.0) written u.0 (known ls u.0 read u.1) (Some-same u.0.log written.log n.log) n in
    let same : written ≡ noted = inventory-file-tells written noted inventory input.holds (sym is ∙ input.is) in
    (ls, u.0, read, u.1, subst (Notes (Replica u.0)) same n)

-- ---- the delta against an inventory

pub record IsPartBy (from : Loaded) (noted : InventoryModel) (part : ReplicaModel) : Type 0 where
  pub log : log_named from ≡ Some part.log
  pub atoms : part.atoms ≡ missing_by atom_digest (atoms_loaded from) noted.digests

pub part_by_is : (number : ℕ) (from : Loaded) (noted : InventoryModel) (part : ReplicaModel) → missing_by_at number from noted ≡ Ok part → IsPartBy from noted part
part_by_is number from noted part e = by (log_named from) refl e
  where
    atoms : Contents
    atoms = missing_by atom_digest (atoms_loaded from) noted.digests

    one_log : (name : Text) (b : Bool) → log_named from ≡ Some name → cond b (Err (OtherLog number)) (Ok (replica_model_under name atoms)) ≡ Ok part
        → IsPartBy from noted part
    one_log name true is k = absurd (cc)
    one_log name false is k = let same = held_same name atoms part k in record { log = is ∙ ap Some same.0; atoms = same.1 }

    by : (o : Option Text) → log_named from ≡ o → under_one_log_at number o (Some noted.log) atoms ≡ Ok part → IsPartBy from noted part
    by None is k = absurd (cc)
    by (Some name) is k = one_log name (is_other name (Some noted.log)) is k

pub part_by_within : (from : Loaded) (noted : InventoryModel) (part : ReplicaModel) → IsGrounded (atoms_loaded from) → IsPartBy from noted part
    → IsWithin part.atoms (atoms_loaded from)
part_by_within from noted part g p =
    subst (λ s. IsWithin s (atoms_loaded from)) (sym p.atoms)
    (with_carriers_least _ (atoms_loaded from) (g, unknown_has atom_digest (atoms_loaded from) noted.digests))

pub part_by_kept : (from : Loaded) (noted : InventoryModel) (part : ReplicaModel) → IsReplicaSet (atoms_loaded from) → IsPartBy from noted part
    → IsReplicaSet part.atoms
part_by_kept from noted part kept p = record {
  grounded = subst IsGrounded (sym p.atoms) (with_carriers_grounded (unknown atom_digest (atoms_loaded from) noted.digests));
  are_atoms = λ q h. kept.are_atoms q (part_by_within from noted part kept.grounded p q h);
}

-- if no two different atoms share a digest, it is the delta against the input itself
pub part_by_part : (from to : Loaded) (noted : InventoryModel) (part : ReplicaModel) → NoCollision atom_digest (set.union (atoms_loaded from) (atoms_loaded to))
    → Notes to noted → IsPartBy from noted part → IsPart from to part
part_by_part from to noted part apart i p = record {
  log = p.log;
  atoms = p.atoms ∙ ap (missing_by atom_digest (atoms_loaded from)) i.digests ∙ missing_by_is atom_digest (atoms_loaded from) (atoms_loaded to) apart;
}
