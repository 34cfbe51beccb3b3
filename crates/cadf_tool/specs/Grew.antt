-- What a proof says, under two seals, of how the later sealed set came of the earlier one.
--     growth_line inputs   the line that tells it, or why not, of both seals, a proof, and an erased list if there is one
use Rattle.std.specs.Prelude.{ℕ, List, Option, Result, Ok, Err}
use Rattle.cadf_evidence.specs.Growth.{grown}
use Rattle.cadf_evidence.specs.ProofFile.{ProofModel}
use Rattle.cadf_evidence.specs.SealFile.{SealModel}
use Rattle.cadf_evidence.specs.declared.growth.GrowthFault.{GrowthFault}
use Rattle.cadf_listed.specs.ListFile.{ListedModel}
use Rattle.cadf_tool.specs.declared.fault.ToolFault.{ToolFault}
use Rattle.cadf_tool.specs.Faults.{of_growth}

abbrev pub of_grown : Result (List ℕ) GrowthFault → Result (List ℕ) ToolFault
of_grown (Ok text) = Ok text
of_grown (Err fault) = Err (of_growth fault)

-- THE LINE: the seals are inputs 1 and 2, the proof is input 3 and the list input 4
abbrev pub growth_line : (SealModel × (SealModel × ProofModel)) × Option ListedModel → Result (List ℕ) ToolFault
growth_line inputs = of_grown (grown inputs.0.0 inputs.0.1.0 inputs.0.1.1 inputs.1)
