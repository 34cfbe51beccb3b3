use Rattle.cadf_tree.proofs.Common.{◌≡◌, ◌++◌, false, drop, change_shown, kinds_of}
use Rattle.cadf_tree.proofs.compared.kinds_of_changed.Given as goal

abbrev pub invariant-loop-index : goal.invariant-loop-index
invariant-loop-index l = change_shown false (kinds_of l.all) ≡ l.kinds.items ++ change_shown l.before (kinds_of (drop l.index l.all))
