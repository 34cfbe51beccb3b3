use Rattle.cadf_pathset.proofs.Common.{◌≡◌, ◌++◌, drop, chosen_of}
use Rattle.cadf_pathset.proofs.copier.copy_chosen.Given as goal

abbrev pub invariant-loop-flag : goal.invariant-loop-flag
invariant-loop-flag l = l.copier.1 ++ chosen_of (drop l.flag-index l.flags) l.copier.0.1 ≡ l.fn.copier.1 ++ chosen_of l.flags l.fn.copier.0.1
