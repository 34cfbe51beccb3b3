use Rattle.cadf_pathset.proofs.Common.{◌≡◌, ◌+◌, ◌-◌, ◌/◌, ◌∙◌, ℕ, [], get_or, arith, subst, sym, map, Less, texts_cmp, texts_same, Agree}
use Rattle.cadf_pathset.proofs.Bounds.{known_between}
use Rattle.cadf_pathset.proofs.Halving.{above_here, all_dropped, all_taken, below_here}
use Rattle.cadf_pathset.proofs.Merging.{agree_as}
use Rattle.cadf_pathset.proofs.path_vec.PathVec.seek.Goals as goal

pub cmp_at-order-requires-clause-known : goal.cmp_at-order-requires-clause-known
cmp_at-order-requires-clause-known g c =
    let h = c.loop-low.invariant in
    let w = h.within in
    let t = c.loop-low-test.true in
    let m : ℕ = c.loop-low.low + (c.loop-low.high - c.loop-low.low) / 2 in
    known_between (map g.W.AsStr.text c.args.list.now) c.args.self.now c.requires c.loop-low.low c.loop-low.high m c.loop-low.front c.loop-low.back c.min.result
    h.front h.back (omega (arith, w, t)) (omega (arith, w, t)) c.min.ensures

pub loop-low-preserved-in-Less : goal.loop-low-preserved-in-Less
loop-low-preserved-in-Less g c =
    let h = c.loop-low.invariant in
    let w = h.within in
    let e = h.ends in
    let t = c.loop-low-test.true in
    let q = map g.W.AsStr.text c.args.list.now in
    let m : ℕ = c.loop-low.low + (c.loop-low.high - c.loop-low.low) / 2 in
    let one : m ≡ (m + 1) - 1 = omega arith in
    let both = agree_as (get_or c.args.self.now m []) q c.cmp_at-order.result.1 c.cmp_at-order.ensures.agreed in
    record {
      within = omega (arith, w, e, t);
      ends = e;
      below = below_here q c.args.self.now c.requires m (omega (arith, w, e, t)) (sym c.cmp_at-order.ensures.order ∙ c.in-Less.is);
      above = h.above;
      front = λ some. (omega arith, subst (λ k. Agree c.cmp_at-order.result.1 (get_or c.args.self.now k []) q) one both);
      back = h.back;
    }

pub loop-low-preserved : goal.loop-low-preserved
loop-low-preserved g c =
    let h = c.loop-low.invariant in
    let w = h.within in
    let e = h.ends in
    let t = c.loop-low-test.true in
    let q = map g.W.AsStr.text c.args.list.now in
    let m : ℕ = c.loop-low.low + (c.loop-low.high - c.loop-low.low) / 2 in
    let both = agree_as (get_or c.args.self.now m []) q c.cmp_at-order.result.1 c.cmp_at-order.ensures.agreed in
    record {
      within = omega (arith, w, e, t);
      ends = omega (arith, w, e, t);
      below = h.below;
      above = above_here q c.args.self.now c.requires m (omega (arith, w, e, t)) (sym c.cmp_at-order.ensures.order ∙ c.in-Greater.is);
      front = h.front;
      back = λ some. (omega (arith, w, e, t), both);
    }

pub returns-in-Equal-clause-held : goal.returns-in-Equal-clause-held
returns-in-Equal-clause-held g c =
    let w = c.loop-low.invariant.within in
    let e = c.loop-low.invariant.ends in
    let t = c.loop-low-test.true in
    let q = map g.W.AsStr.text c.args.list.now in
    (omega (arith, w, e, t), texts_same _ q (sym c.cmp_at-order.ensures.order ∙ c.in-Equal.is))

pub returns-clause-below : goal.returns-clause-below
returns-clause-below g c = all_taken (λ l. texts_cmp l (map g.W.AsStr.text c.args.list.now) ≡ Less) c.args.self.now c.loop-low.low
    (let w = c.loop-low.invariant.within in let e = c.loop-low.invariant.ends in omega (arith, w, e)) c.loop-low.invariant.below

pub returns-clause-above : goal.returns-clause-above
returns-clause-above g c = all_dropped (λ l. texts_cmp (map g.W.AsStr.text c.args.list.now) l ≡ Less) c.args.self.now c.loop-low.low
    (λ i b l. c.loop-low.invariant.above i (let t = c.loop-low-test.false in omega (arith, b, t)) l)
