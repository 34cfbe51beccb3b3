use Rattle.cadf_split.proofs.Common.{key}
use Rattle.cadf_split.proofs.CarrierKeys.{key_of_carrier}
use Rattle.cadf_split.proofs.PartMembers.{part-missing_by, missing_by_of_parts, missing_by_own, missing_by_own_parts}
use Rattle.cadf_split.proofs.laws.missing_by_of_parts.Goals as goal

pub returns : goal.returns
returns c = record {
  part = λ unit. part-missing_by (key unit) (key_of_carrier unit);
  whole = λ unit. missing_by_of_parts (key unit) (key_of_carrier unit);
  own_part = λ unit. missing_by_own (key unit) (key_of_carrier unit);
  own_whole = λ unit. missing_by_own_parts (key unit) (key_of_carrier unit);
}
