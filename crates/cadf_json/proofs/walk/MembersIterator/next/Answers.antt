use Rattle.cadf_json.proofs.Common.{common_steps, arith}
use Rattle.cadf_json.proofs.Walking.{any_member, next_member}
use Rattle.cadf_json.proofs.walk.MembersIterator.next.Goals as goal

pub first_member-first-requires : goal.first_member-first-requires
first_member-first-requires c = grind (arith, common_steps, any_member)

pub as_text-requires : goal.as_text-requires
as_text-requires c =
    (next_member c.self.inside.texts.now c.self.inside.nodes.now c.first_member-first.result (grind arith) c.self.invariant c.first_member-first.ensures).utf8

pub invariant_of-result : goal.invariant_of-result
invariant_of-result c =
    (next_member c.self.inside.texts.now c.self.inside.nodes.now c.first_member-first.result (grind arith) c.self.invariant c.first_member-first.ensures).value

pub invariant_of-self : goal.invariant_of-self
invariant_of-self c =
    (next_member c.self.inside.texts.now c.self.inside.nodes.now c.first_member-first.result (grind arith) c.self.invariant c.first_member-first.ensures).left

pub returns-clause-steps : goal.returns-clause-steps
returns-clause-steps c =
    let t = c.self.inside.texts.now in
    let f = c.first_member-first.result in
    let n = next_member t c.self.inside.nodes.now f (grind arith) c.self.invariant c.first_member-first.ensures in
    grind (arith, common_steps)

pub returns-clause-goes : goal.returns-clause-goes
returns-clause-goes c = rw (returns-clause-steps c).0 (omega arith)
