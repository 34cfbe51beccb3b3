use Rattle.cadf_split.proofs.Common.{key}
use Rattle.cadf_split.proofs.CarrierKeys.{key_of_carrier}
use Rattle.cadf_split.proofs.PartMembers.{part-missing, missing_of_parts}
use Rattle.cadf_split.proofs.laws.missing_of_parts.Goals as goal

pub returns : goal.returns
returns c = record {
  part = λ unit. part-missing (key unit) (key_of_carrier unit);
  whole = λ unit. missing_of_parts (key unit) (key_of_carrier unit);
}
