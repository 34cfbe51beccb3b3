-- The lines of a seal's file that have been read so far, and the values decoded from them.
--     told_lines told     the lines after the log line that have these values
--     AreTold told        the invariant of the values so far
--     IsPut told line o   the line is the next one, and these are the values with its own. None: it isn't
use Rattle.std.specs.Prelude.{◌≡◌, ◌<◌, ◌^◌, ℕ, List, [], ◌∷◌, ◌++◌, codes, Option, Some, None}
use Rattle.cadf_linefile.specs.declared.fault.Cause.TheVariants.{Shape}
use Rattle.cadf_evidence.specs.SealFile.{IsRoot, number_line, digest_line, seal_lines}
use Rattle.cadf_evidence.specs.SealVerdict.{cause_after}
use Rattle.cadf_evidence.specs.declared.seal_lines.Told.{Told}
use Rattle.cadf_evidence.specs.declared.seal_lines.Told.TheVariants.{Nothing, Count, Facts, KeyCount, Whole}

abbrev pub told_lines : Told → List (List ℕ)
told_lines Nothing = []
told_lines (Count n) = number_line (codes "N ") n ∷ []
told_lines (Facts r) = number_line (codes "N ") r.count ∷ digest_line (codes "R ") r.hash ∷ []
told_lines (KeyCount r n) = number_line (codes "N ") r.count ∷ digest_line (codes "R ") r.hash ∷ number_line (codes "M ") n ∷ []
told_lines (Whole r k) = seal_lines (record { log = []; facts = r; keys = k })

abbrev pub AreTold : Told → Type 0
AreTold Nothing = Unit {0}
AreTold (Count n) = n < 2 ^ 64
AreTold (Facts r) = IsRoot r
AreTold (KeyCount r n) = IsRoot r × (n < 2 ^ 64)
AreTold (Whole r k) = IsRoot r × IsRoot k

abbrev pub IsPut : Told → List ℕ → Option Told → Type 0
IsPut told line None = cause_after (told_lines told) line ≡ Some Shape
IsPut told line (Some more) = (cause_after (told_lines told) line ≡ None) × (told_lines more ≡ told_lines told ++ line ∷ []) × AreTold more
