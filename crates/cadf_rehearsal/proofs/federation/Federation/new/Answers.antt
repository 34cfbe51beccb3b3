use Rattle.cadf_rehearsal.proofs.Turns.{starts, begins}
use Rattle.cadf_rehearsal.proofs.federation.Federation.new.Goals as goal

pub returns-clause-start : goal.returns-clause-start
returns-clause-start c = starts c.args.log.now _ _ _ c.loop.invariant.empty c.new-2.ensures.items

pub returns-clause-one_log : goal.returns-clause-one_log
returns-clause-one_log c = begins c.args.log.now _ _ c.loop.invariant.empty c.new-2.ensures.items
