use Rattle.cadf_pathset.proofs.Common.{common_steps, ap, sym, subst, ◌∙◌, arith, length, length-drop, AllByRecursion, IsThere, list_at}
use Rattle.cadf_pathset.proofs.Bounds.{is_less}
use Rattle.cadf_pathset.proofs.Narrowed.{all_of_last}
use Rattle.cadf_pathset.proofs.Sorts.{first_rises, one_rises}
use Rattle.cadf_pathset.proofs.sort.is_rising.Goals as goal

pub loop-rest-preserved : goal.loop-rest-preserved
loop-rest-preserved c =
    let rest = c.loop-rest.rest.now in
    let within = c.loop-rest.invariant.within in
    let shorter = ap length c.split_at.ensures.back ∙ length-drop 1 rest in
    record {
      rises = λ s. c.loop-rest.invariant.rises (first_rises (list_at c.args.nodes.now) rest c.split_at.result.1.now _ _ c.split_at.ensures.back
          c.loop-rest-test.true (sym c.parting_cmp.ensures.order ∙ is_less c.parting_cmp.result (sym c.is_lt.ensures ∙ c.if-not-is_lt.false)) s);
      there = subst (AllByRecursion (IsThere c.args.nodes.now)) (sym c.split_at.ensures.back)
          (all_of_last (IsThere c.args.nodes.now) rest 1 c.loop-rest.invariant.there);
      within = omega (arith, within, shorter);
    }

pub returns-clause-rises : goal.returns-clause-rises
returns-clause-rises c = grind (arith, common_steps, one_rises)
