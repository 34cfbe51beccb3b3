use Rattle.cadf_linefile.proofs.NumberLemmas.{cut_of, none_after, blank_there, none_there}
use Rattle.cadf_linefile.proofs.numbers.cut_at_blank.Goals as goal

pub returns-in_err-at-clause-blank : goal.returns-in_err-at-clause-blank
returns-in_err-at-clause-blank c = rw c.from_residual.ensures (none_there c.args.text.now c.in_err-at.ensures)

pub returns-in_err-at-clause-cut : goal.returns-in_err-at-clause-cut
returns-in_err-at-clause-cut c = rw c.from_residual.ensures (none_after c.args.text.now c.in_err-at.ensures)

pub returns-clause-blank : goal.returns-clause-blank
returns-clause-blank c = blank_there c.args.text.now c.in_ok-at.at c.in_ok-at.ensures

pub returns-clause-cut : goal.returns-clause-cut
returns-clause-cut c = cut_of c.args.text.now c.in_ok-at.at c.in_ok-at.ensures
