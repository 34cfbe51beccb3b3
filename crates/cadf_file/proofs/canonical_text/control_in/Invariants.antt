use Rattle.cadf_file.proofs.Common.{◌≢◌, ℕ, ◌-◌, ◌<◌, List, ◌++◌, escape_byte}
use Rattle.cadf_file.proofs.canonical_text.control_in.Given as goal

abbrev pub invariant-loop-control : goal.invariant-loop-control
invariant-loop-control l = (x : ℕ) (more : List ℕ) → x < l.control → l.spelled ≢ escape_byte x ++ more

abbrev pub decreases-loop-control : goal.decreases-loop-control
decreases-loop-control l = 32 - l.control
