use Rattle.cadf_pathset.proofs.Common.{common_steps, ◌∙◌, ap, arith, sym, subst, AreThere, IsThere, last_node, place}
use Rattle.cadf_pathset.proofs.Inserts.{all_put, map_put}
use Rattle.cadf_pathset.proofs.Merging.{front_out}
use Rattle.cadf_pathset.proofs.Threads.{last_there, lists_kept, place_of, there_kept}
use Rattle.cadf_pathset.proofs.path_vec.PathVec.put.Goals as goal

pub returns-in_err-extend-clause-err : goal.returns-in_err-extend-clause-err
returns-in_err-extend-clause-err g c = grind (arith, common_steps, lists_kept)

pub invariant_of-self-in_err-insert : goal.invariant_of-self-in_err-insert
invariant_of-self-in_err-insert g c = grind (arith, common_steps, there_kept)

pub returns-in_err-insert-clause-err : goal.returns-in_err-insert-clause-err
returns-in_err-insert-clause-err g c = grind (arith, common_steps, lists_kept)

pub invariant_of-self-2 : goal.invariant_of-self-2
invariant_of-self-2 g c =
    let us = c.extend.new.nodes in
    let line = c.extend.new.line.items in
    let ns = c.self.inside.numbers.items in
    let last = c.end_of.ensures ∙ ap last_node c.as_slice-4.ensures.value in
    let there = last_there us line (place us line) c.extend.ensures.line in
    let all = all_put (IsThere us) ns c.args.at c.end_of.result (there_kept c.self.inside.nodes us c.extend.ensures.kept ns c.self.invariant.0) (omega (arith, last, there)) in
    (subst (AreThere us) (sym c.in_ok-insert.ensures.items) all, c.extend.ensures.line)

pub returns-clause-ok : goal.returns-clause-ok
returns-clause-ok g c = grind (arith, common_steps, lists_kept, map_put, place_of)

pub extend-requires : goal.extend-requires
extend-requires g c = grind (arith, common_steps, front_out)

pub cmp_from-agreed-requires-clause-known : goal.cmp_from-agreed-requires-clause-known
cmp_from-agreed-requires-clause-known g c = grind (arith, common_steps)
