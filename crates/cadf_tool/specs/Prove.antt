-- The proof, under the seal of a union, of which facts are in it, or of which keys its facts have.
--     proof_for facts h       the proof for the facts of an input, the first, by the inventory of a replica, or why there is none
--     keys_proof_for keys h   the proof for a list of keys, the first source, by the keys of a replica, or why there is none
use Rattle.std.specs.Prelude.{Result, Ok}
use Rattle.cadf_set.specs.Inventory.{inventory_of}
use Rattle.cadf_set.specs.Replica.{ReplicaModel}
use Rattle.cadf_evidence.specs.KeyList.{KeyListModel}
use Rattle.cadf_evidence.specs.ProofFile.{ProofModel}
use Rattle.cadf_evidence.specs.Made.{keys_proof_of, proof_of}
use Rattle.cadf_tool.specs.declared.input.Loaded.{Loaded}
use Rattle.cadf_tool.specs.declared.fault.ToolFault.{ToolFault}
use Rattle.cadf_tool.specs.Join.{facts_under, on_ok}
use Rattle.cadf_tool.specs.Listed.{if_of_log}

-- THE PROOF: the facts are taken under the log of the replica
abbrev pub proof_for : Loaded → ReplicaModel → Result ProofModel ToolFault
proof_for facts h = on_ok (facts_under 1 h.log facts) (λ f. Ok (proof_of (inventory_of f) (inventory_of h)))

-- THE PROOF OF KEYS
abbrev pub keys_proof_for : KeyListModel → ReplicaModel → Result ProofModel ToolFault
keys_proof_for keys h = if_of_log keys.log h (keys_proof_of keys h)
