-- The lines of a proof's file that have been read so far, and the parts decoded from them.
--     proof_of_parts log ps  the proof under that log that has these parts
--     told_lines ps          the lines after the log line that have these parts
--     AreTold ps             the invariant of the parts so far
--     IsPutInto ps line qs   the line is that of a part, and qs are ps with it
use Rattle.std.specs.Prelude.{◌≡◌, ℕ, List, [], ◌∷◌, ◌++◌, Option, Some, None}
use Rattle.cadf_join.specs.Contents.{Text}
use Rattle.cadf_tree.specs.declared.parts.Part.{Part}
use Rattle.cadf_evidence.specs.ProofFile.{ProofModel, proof_lines, HasProofParts}
use Rattle.cadf_evidence.specs.ProofVerdict.{part_in}
use Rattle.cadf_evidence.specs.declared.proof.Parts.{Parts}
use Rattle.cadf_evidence.specs.declared.proof.Parts.TheVariants.{Nothing, Facts, Keys}

abbrev pub fact_parts : Parts → List Part
fact_parts Nothing = []
fact_parts (Facts fs) = fs.items
fact_parts (Keys fs ks) = fs.items

abbrev pub key_parts : Parts → Option (List Part)
key_parts Nothing = None
key_parts (Facts fs) = None
key_parts (Keys fs ks) = Some ks.items

abbrev pub proof_of_parts : Text → Parts → ProofModel
proof_of_parts log ps = record { log = log; facts = fact_parts ps; keys = key_parts ps }

abbrev pub told_lines : Parts → List (List ℕ)
told_lines ps = proof_lines (proof_of_parts [] ps)

abbrev pub AreTold : Parts → Type 0
AreTold ps = HasProofParts (proof_of_parts [] ps)

abbrev pub IsPutInto : List Part → List ℕ → List Part → Type 0
IsPutInto ps line qs = (p : Part) × (part_in line ≡ Some p) × (qs ≡ ps ++ p ∷ [])
