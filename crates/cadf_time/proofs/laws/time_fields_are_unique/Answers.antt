use Rattle.cadf_time.proofs.TimeReading.{same_shape}
use Rattle.cadf_time.proofs.laws.time_fields_are_unique.Goals as goal

pub returns : goal.returns
returns c = same_shape
