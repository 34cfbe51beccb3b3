-- Why a text is refused as a time.
use Rattle.std.specs.Prelude.{ℕ, List}
use Rattle.cadf_time.specs.declared.time.StampFault.{StampFault}
use Rattle.cadf_time.specs.declared.time.StampFault.TheVariants.{Shape, Range, Offset}
use Rattle.cadf_time.specs.Time.{HasNoShape, IsOutOfRange, HasBadOffset}

abbrev pub IsStampFault : List ℕ → StampFault → Type 0
IsStampFault s Shape = HasNoShape s
IsStampFault s Range = IsOutOfRange s
IsStampFault s Offset = HasBadOffset s
