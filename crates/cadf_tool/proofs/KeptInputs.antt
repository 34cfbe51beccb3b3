-- What any input contributes satisfies the invariant of a replica: only atoms, each with its carrier.
use Rattle.cadf_tool.proofs.Common.{ℕ, List, spelled_is_value, known_document, IsGrounded, IsReplicaSet, document_kept, Loaded, Replica, Document, IsInput, atoms_loaded}

pub input_kept : (bytes : List ℕ) (l : Loaded) → IsInput bytes l → IsReplicaSet (atoms_loaded l)
input_kept bytes (Replica h) is = is.0.replica.atoms
input_kept bytes (Document doc) (accepted, (d, (spelled, document))) = document_kept doc (known_document d doc (spelled_is_value bytes d spelled) document)

pub input_grounded : (bytes : List ℕ) (l : Loaded) → IsInput bytes l → IsGrounded (atoms_loaded l)
input_grounded bytes l is = (input_kept bytes l is).grounded
