use Rattle.cadf_tool.proofs.Common.{transition_of}
use Rattle.cadf_tool.proofs.Rehearsals.{turns_read, line_refused}
use Rattle.cadf_tool.proofs.rehearse.turns.Goals as goal

pub returns-in-Ok-clause-ok : goal.returns-in-Ok-clause-ok
returns-in-Ok-clause-ok g c =
    turns_read (transition_of g.R.Source c.args.script.now c.bytes_of.new.script) c.in_ok-bytes.ensures.reads c.in_ok-bytes.bytes.items c.in_ok-bytes.ensures.ok
    c.in-Ok.turns.items (rw c.deref.ensures.value at c.in-Ok.ensures.ok)

pub returns-in-Err-Line-clause-err : goal.returns-in-Err-Line-clause-err
returns-in-Err-Line-clause-err g c =
    line_refused (transition_of g.R.Source c.args.script.now c.bytes_of.new.script) c.in_ok-bytes.ensures.reads c.in_ok-bytes.bytes.items
    c.in_ok-bytes.ensures.ok c.in-Err-Line.line (rw (c.deref.ensures.value, c.in-Err-Line.field-0-is) at c.in-Err-Line.ensures.err)
