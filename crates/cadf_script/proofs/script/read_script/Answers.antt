use Rattle.cadf_script.proofs.Common.{◌≡◌, length, [], ◌∷◌, ◌++◌, rules}
use Rattle.cadf_script.proofs.Lines.{at_end, line_read, line_bad}
use Rattle.cadf_script.proofs.script.read_script.Goals as goal

pub returns-in_default-clause-err : goal.returns-in_default-clause-err
returns-in_default-clause-err c =
    let counted : c.len.result ≡ length c.lines.turns.items = search rules in
    rw counted (line_bad c.args.bytes.now c.lines.start c.lines.turns.items c.lines.invariant c.lines-test.true c.place_of-count.result
    c.place_of-count.ensures.place (rw c.in_default.is at c.in_ok-turn.ensures))

pub lines-preserved : goal.lines-preserved
lines-preserved c =
    let pushed : c.push.new.self.items ≡ c.lines.turns.items ++ c.in-Some.turn ∷ [] = search rules in
    rw pushed (line_read c.args.bytes.now c.lines.start c.lines.turns.items c.lines.invariant c.lines-test.true c.place_of-count.result
    c.place_of-count.ensures.place c.in-Some.turn (rw c.in-Some.is at c.in_ok-turn.ensures))

pub returns-clause-ok : goal.returns-clause-ok
returns-clause-ok c = at_end c.args.bytes.now c.lines.start c.lines.turns.items c.lines-test.false c.lines.invariant
