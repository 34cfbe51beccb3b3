use Rattle.cadf_pathset.proofs.Common.{common_steps, ◌≡◌, ◌+◌, ◌-◌, ◌<◌, ℕ, [], length, get_or, arith, ap, subst, sym, ◌∙◌, Less, get_or-map, length-map, texts_cmp, texts_at, list_at, lists_at}
use Rattle.cadf_pathset.proofs.Bounds.{below_range, is_less}
use Rattle.cadf_pathset.proofs.Halving.{below_here}
use Rattle.cadf_pathset.proofs.union.Merger.skip.Goals as goal

pub loop-step-preserved : goal.loop-step-preserved
loop-step-preserved c =
    let h = c.loop-step.invariant in
    let ls = c.args.nodes.now in
    let ns = c.args.numbers.now in
    let q = texts_at c.path-path.result.now in
    let j : ℕ = c.loop-step.low + (c.loop-step.step - 1) in
    let b = h.behind in
    let w = h.within in
    let s = h.some in
    let t = c.loop-step-test.true in
    let m = length-map ns (list_at ls) in
    let x = c.saturating_mul-step.ensures in
    let fits : j < length ns = omega (arith, w, s, t) in
    record {
      behind = omega (arith, b);
      within = omega (arith, fits);
      some = omega (arith, x, s);
      below = λ k f g. below_here q (lists_at ls ns) c.requires.rises j (omega (arith, fits, m))
          (ap (λ z. texts_cmp z q) (get_or-map (list_at ls) ns j 0 [] fits) ∙ sym c.list_cmp-order.ensures.order
          ∙ is_less c.list_cmp-order.result.0 (sym c.is_lt.ensures ∙ c.if-not-is_lt.false)) k g;
    }

pub returns-clause-below : goal.returns-clause-below
returns-clause-below c =
    let ls = c.args.nodes.now in
    let ns = c.args.numbers.now in
    let m = length-map ns (list_at ls) in
    let w = c.loop-step.invariant.within in
    let from = c.loop-step.invariant.behind in
    let s = c.saturating_sub.ensures in
    let e = c.max-last.ensures in
    let r = c.requires.within in
    below_range c.args.self.now.cursor.0 (lists_at ls ns) c.args.at c.max-last.result (omega (arith, e)) (omega (arith, m, w, s, e, r))
    (λ k f g. subst (λ q. texts_cmp (get_or (lists_at ls ns) k []) q ≡ Less) c.path-path.ensures (c.loop-step.invariant.below k f (omega (arith, f, g, s, e))))

pub list_cmp-order-requires-clause-known : goal.list_cmp-order-requires-clause-known
list_cmp-order-requires-clause-known c = grind (arith, common_steps)

pub returns-clause-lists : goal.returns-clause-lists
returns-clause-lists c = grind (arith, common_steps)

pub returns-clause-there : goal.returns-clause-there
returns-clause-there c = grind (arith, common_steps)

pub overflow_add-low : goal.overflow_add-low
overflow_add-low c = grind (arith, common_steps)

pub overflow_add-probe : goal.overflow_add-probe
overflow_add-probe c = grind (arith, common_steps)

pub overflow_sub-numbers : goal.overflow_sub-numbers
overflow_sub-numbers c = grind (arith, common_steps)

pub bounds-numbers-probe : goal.bounds-numbers-probe
bounds-numbers-probe c = grind (arith, common_steps)
