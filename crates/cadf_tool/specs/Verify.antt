-- What a proof says, under a seal, of the facts of an input, or of a list of keys.
--     verdict_lines absent seal facts proof  a line for each fact, which is as asked, or why not
--     verdict_of absent inputs               the same of three inputs: a seal, the facts, and a proof
--     key_verdict_of absent inputs           a line for each key, which is as asked, or why not, of a seal, a list of keys, and a proof
use Rattle.std.specs.Prelude.{ℕ, nat_eq, Bool, List, length, Some, if◌then◌else◌, Result, Ok, Err}
use Rattle.cadf_join.specs.Sets.{rising}
use Rattle.cadf_evidence.specs.KeyList.{KeyListModel}
use Rattle.cadf_evidence.specs.ProofFile.{ProofModel}
use Rattle.cadf_evidence.specs.SealFile.{SealModel}
use Rattle.cadf_evidence.specs.Verified.{verified, verified_keys}
use Rattle.cadf_evidence.specs.declared.verify.VerifyFault.{VerifyFault}
use Rattle.cadf_set.specs.Replica.{ReplicaModel}
use Rattle.cadf_tool.specs.declared.input.Loaded.{Loaded}
use Rattle.cadf_tool.specs.declared.fault.ToolFault.{ToolFault}
use Rattle.cadf_tool.specs.declared.fault.ToolFault.TheVariants.{OtherLog, NoFacts, NoKeys}
use Rattle.cadf_tool.specs.Faults.{of_verify}
use Rattle.cadf_tool.specs.Join.{is_other, facts_under, on_ok}

abbrev pub of_verified : Result (List ℕ) VerifyFault → Result (List ℕ) ToolFault
of_verified (Ok text) = Ok text
of_verified (Err fault) = Err (of_verify fault)

-- the facts are input 2, and the proof is input 3
abbrev pub verdict_lines : Bool → SealModel → ReplicaModel → ProofModel → Result (List ℕ) ToolFault
verdict_lines absent seal facts proof =
    if is_other seal.log (Some proof.log) then Err (OtherLog 3)
    else if nat_eq (length (rising facts.atoms)) 0 then Err (NoFacts 2)
    else of_verified (verified seal proof facts.atoms absent)

-- THE VERDICT: the facts are taken under the log of the seal
abbrev pub verdict_of : Bool → SealModel × (Loaded × ProofModel) → Result (List ℕ) ToolFault
verdict_of absent inputs = on_ok (facts_under 2 inputs.0.log inputs.1.0) (λ f. verdict_lines absent inputs.0 f inputs.1.1)

-- THE VERDICT ON KEYS: the list is input 2, and the proof is input 3
abbrev pub key_verdict_of : Bool → SealModel × (KeyListModel × ProofModel) → Result (List ℕ) ToolFault
key_verdict_of absent inputs =
    if is_other inputs.0.log (Some inputs.1.0.log) then Err (OtherLog 2)
    else if is_other inputs.0.log (Some inputs.1.1.log) then Err (OtherLog 3)
    else if nat_eq (length inputs.1.0.keys) 0 then Err (NoKeys 2)
    else of_verified (verified_keys inputs.0 inputs.1.1 inputs.1.0.keys absent)
