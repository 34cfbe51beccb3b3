-- The value of a number.
use Rattle.serde_json.specs.Data.{Num, unsigned, negative, float}
use Rattle.cadf_json.specs.declared.number.Number.{Number}
use Rattle.cadf_json.specs.declared.number.Number.TheVariants.{Unsigned, Negative, Float}

abbrev pub num_of : Number → Num
num_of (Unsigned n) = unsigned n
num_of (Negative z) = negative z
num_of (Float x) = float x
