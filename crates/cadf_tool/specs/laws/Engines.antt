-- The work of an engine on one input is that on the replica of the input.
use Rattle.std.specs.Prelude.{◌≡◌, ℕ, Option, None, Some, Result, Ok, Err}
use Rattle.std.proofs.Common.{refl}
use Rattle.cadf_join.specs.Contents.{Text, Contents}
use Rattle.cadf_line.specs.Digest.{atom_digest}
use Rattle.cadf_line.specs.Missing.{digests_of}
use Rattle.cadf_evidence.specs.SealFile.{seal_of}
use Rattle.cadf_evidence.specs.Made.{sealed_of}
use Rattle.cadf_tool.specs.declared.input.Loaded.{Loaded}
use Rattle.cadf_tool.specs.declared.input.Loaded.TheVariants.{Replica}
use Rattle.cadf_tool.specs.declared.fault.ToolFault.{ToolFault}
use Rattle.cadf_tool.specs.declared.fault.ToolFault.TheVariants.{NoLog}
use Rattle.cadf_tool.specs.Join.{on_ok}
use Rattle.cadf_tool.specs.MissingBy.{inventory_model_under, inventory_model_of}
use Rattle.cadf_tool.specs.Rule.{ruled_in, ruled_of}
use Rattle.cadf_tool.specs.Listed.{sealed_model_of}
use Rattle.cadf_tool.specs.Seal.{seal_model_of}
use Rattle.cadf_tool.specs.Sketch.{sketch_of_result, sketch_model_of}
use Rattle.cadf_tool.specs.Told.{log_named, atoms_loaded, under_log, replica_model_of}

-- a work on the log that an input names and on its atoms, which needs a log
by_log : {M : Type 0} (work : Option Text → Contents → Result M ToolFault) → ((s : Contents) → work None s ≡ Err NoLog) → (l : Loaded)
    → work (log_named l) (atoms_loaded l) ≡ on_ok (replica_model_of l) (λ h. work (Some h.log) h.atoms)
by_log work none l = by (log_named l) (atoms_loaded l)
  where
    by : (o : Option Text) (s : Contents) → work o s ≡ on_ok (under_log o s) (λ h. work (Some h.log) h.atoms)
    by None s = none s
    by (Some log) s = refl

abbrev pub IsOfReplica : {M : Type 0} → (Loaded → Result M ToolFault) → Type 0
IsOfReplica work = (l : Loaded) → work l ≡ on_ok (replica_model_of l) (λ h. work (Replica h))

pub of_replica : IsOfReplica replica_model_of
of_replica l = by_log under_log (λ s. refl) l

pub of_inventory : IsOfReplica inventory_model_of
of_inventory l = by_log (λ o s. inventory_model_under o (digests_of atom_digest s)) (λ s. refl) l

pub of_sketch : (cells salt : Option ℕ) → IsOfReplica (sketch_model_of cells salt)
of_sketch cells salt l = by_log (λ o s. sketch_of_result cells salt (inventory_model_under o (digests_of atom_digest s))) (λ s. refl) l

pub of_seal : IsOfReplica seal_model_of
of_seal l = by_log (λ o s. on_ok (under_log o s) (λ h. Ok (seal_of h))) (λ s. refl) l

pub of_sealed : IsOfReplica sealed_model_of
of_sealed l = by_log (λ o s. on_ok (under_log o s) (λ h. Ok (sealed_of h))) (λ s. refl) l

pub of_ruled : (letter key : Text) (place : ℕ) → IsOfReplica (ruled_of letter key place)
of_ruled letter key place l = by_log (λ o s. ruled_in letter key place (under_log o s)) (λ s. refl) l
