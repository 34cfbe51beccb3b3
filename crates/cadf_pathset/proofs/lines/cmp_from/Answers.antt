use Rattle.cadf_pathset.proofs.Common.{common_steps, ◌∙◌, length, map, arith, sym, length-map}
use Rattle.cadf_pathset.proofs.Compared.{is_equal, not_equal, part_here, agree_here, end_here}
use Rattle.cadf_pathset.proofs.lines.cmp_from.Goals as goal

pub returns-then-not-is_eq-clause-order : goal.returns-then-not-is_eq-clause-order
returns-then-not-is_eq-clause-order g c = sym (part_here c.args.nodes.now c.args.line.now (map g.W.AsStr.text c.args.path.now) (length c.args.path.now)
    (length-map c.args.path.now g.W.AsStr.text) c.loop-agreed.agreed c.requires.line c.loop-agreed.invariant
    c.loop-agreed-test.true c.if-agreed-path.true c.text.result.now c.text_at.result.now _ c.text.ensures c.text_at.ensures c.cmp-order.ensures (not_equal _ (sym c.is_eq.ensures ∙ c.if-not-is_eq.true))).0

pub returns-then-not-is_eq-clause-most : goal.returns-then-not-is_eq-clause-most
returns-then-not-is_eq-clause-most g c = sym (part_here c.args.nodes.now c.args.line.now (map g.W.AsStr.text c.args.path.now) (length c.args.path.now)
    (length-map c.args.path.now g.W.AsStr.text) c.loop-agreed.agreed c.requires.line c.loop-agreed.invariant
    c.loop-agreed-test.true c.if-agreed-path.true c.text.result.now c.text_at.result.now _ c.text.ensures c.text_at.ensures c.cmp-order.ensures (not_equal _ (sym c.is_eq.ensures ∙ c.if-not-is_eq.true))).1

pub loop-agreed-preserved : goal.loop-agreed-preserved
loop-agreed-preserved g c = agree_here c.args.nodes.now c.args.line.now (map g.W.AsStr.text c.args.path.now) (length c.args.path.now)
    (length-map c.args.path.now g.W.AsStr.text) c.loop-agreed.agreed c.requires.line c.loop-agreed.invariant
    c.loop-agreed-test.true c.if-agreed-path.true c.text.result.now c.text_at.result.now _ c.text.ensures c.text_at.ensures c.cmp-order.ensures (is_equal _ (sym c.is_eq.ensures ∙ c.if-not-is_eq.false))

pub returns-clause-order : goal.returns-clause-order
returns-clause-order g c = grind (arith, common_steps, end_here, length-map)

pub returns-clause-most : goal.returns-clause-most
returns-clause-most g c = grind (arith, common_steps, end_here, length-map)
