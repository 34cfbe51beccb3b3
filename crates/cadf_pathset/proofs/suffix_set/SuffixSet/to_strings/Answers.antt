use Rattle.cadf_pathset.proofs.Common.{common_steps, arith}
use Rattle.cadf_pathset.proofs.Narrowed.{shown}
use Rattle.cadf_pathset.proofs.suffix_set.SuffixSet.to_strings.Goals as goal

pub returns-in-Some : goal.returns-in-Some
returns-in-Some c = rw (← shown c.self.inside.nodes.now c.self.inside.depth c.self.inside.numbers.now c.args.self.now c.self.invariant.1 c.self.view_is) (grind (arith, common_steps))

pub returns-in-None : goal.returns-in-None
returns-in-None c = rw (← shown c.self.inside.nodes.now c.self.inside.depth c.self.inside.numbers.now c.args.self.now c.self.invariant.1 c.self.view_is) (grind (arith, common_steps))
