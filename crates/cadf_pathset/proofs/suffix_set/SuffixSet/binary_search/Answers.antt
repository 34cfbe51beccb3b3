use Rattle.cadf_pathset.proofs.Common.{◌∷◌, [], ◌≡◌, true, false, arith, sym, ◌∙◌, texts_total, texts_same, rising_is_sorted, is_before}
use Rattle.cadf_join.specs.Sets as set
use Rattle.cadf_pathset.proofs.Halving.{all_before, none_before, all_taken, all_dropped}
use Rattle.cadf_pathset.proofs.suffix_set.SuffixSet.binary_search.Goals as goal

pub loop-low-preserved-then-is_before : goal.loop-low-preserved-then-is_before
loop-low-preserved-then-is_before c =
    let w = c.loop-low.invariant.within in
    let e = c.loop-low.invariant.ends in
    let t = c.loop-low-test.true in
    let f = c.loop-low.invariant.from in
    record {
      from = omega (arith, f);
      within = omega (arith, w, e, t);
      ends = e;
      below = all_before (set.rising c.args.self.now) (rising_is_sorted texts_total texts_same c.args.self.now) (c.args.text.now ∷ []) c.args.passed _ (omega (arith, w, e, t))
          (sym c.is_before.ensures ∙ c.if-is_before.true);
      above = c.loop-low.invariant.above;
    }

pub loop-low-preserved : goal.loop-low-preserved
loop-low-preserved c =
    let w = c.loop-low.invariant.within in
    let e = c.loop-low.invariant.ends in
    let t = c.loop-low-test.true in
    record {
      from = c.loop-low.invariant.from;
      within = omega (arith, w, e, t);
      ends = omega (arith, w, e, t);
      below = c.loop-low.invariant.below;
      above = none_before (set.rising c.args.self.now) (rising_is_sorted texts_total texts_same c.args.self.now) (c.args.text.now ∷ []) c.args.passed _ (omega (arith, w, e, t))
          (sym c.is_before.ensures ∙ c.if-is_before.false);
    }

pub returns-clause-below : goal.returns-clause-below
returns-clause-below c = all_taken (λ l. is_before (c.args.text.now ∷ []) c.args.passed l ≡ true) (set.rising c.args.self.now) c.loop-low.low
    (let w = c.loop-low.invariant.within in let e = c.loop-low.invariant.ends in omega (arith, w, e)) c.loop-low.invariant.below

pub returns-clause-above : goal.returns-clause-above
returns-clause-above c = all_dropped (λ l. is_before (c.args.text.now ∷ []) c.args.passed l ≡ false) (set.rising c.args.self.now) c.loop-low.low
    (λ i b l. c.loop-low.invariant.above i (let t = c.loop-low-test.false in omega (arith, b, t)) l)
