use Rattle.cadf_script.proofs.Cuts.{no_two_first, no_two_second}
use Rattle.cadf_script.proofs.line.two_numbers.Goals as goal

pub returns-in_err-number : goal.returns-in_err-number
returns-in_err-number c = rw c.from_residual-in_err-number.ensures (no_two_first c.args.words.now c.in_ok-first.first.now
    c.in_ok-first.second.now c.in_ok-first.ensures c.in_err-number.ensures)

pub returns-in_err-number-2 : goal.returns-in_err-number-2
returns-in_err-number-2 c = rw c.from_residual-in_err-number-2.ensures (no_two_second c.args.words.now c.in_ok-first.first.now
    c.in_ok-first.second.now c.in_ok-first.ensures c.in_err-number-2.ensures)
