use Rattle.cadf_json.proofs.Common.{◌-◌, length, value, HaveUtf8}
use Rattle.cadf_json.proofs.Passing.{Passing}
use Rattle.cadf_json.proofs.apart.pass_list.Given as goal

abbrev pub invariant-items : goal.invariant-items
invariant-items g l = Passing g.T.ItemVisitor.took l.taker (value (l.depth - 1)) l.initial.reader l.reader × HaveUtf8 l.reader

abbrev pub decreases-items : goal.decreases-items
decreases-items g l = length l.reader
