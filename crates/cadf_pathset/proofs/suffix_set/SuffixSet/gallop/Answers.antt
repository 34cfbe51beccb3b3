use Rattle.cadf_pathset.proofs.Common.{◌∷◌, [], true, arith, sym, ◌∙◌, texts_total, texts_same, rising_is_sorted}
use Rattle.cadf_join.specs.Sets as set
use Rattle.cadf_pathset.proofs.Halving.{all_before, none_before}
use Rattle.cadf_pathset.proofs.suffix_set.SuffixSet.gallop.Goals as goal

pub binary_search-requires-clause-above : goal.binary_search-requires-clause-above
binary_search-requires-clause-above c =
    let w = c.loop-step.invariant.within in
    let s = c.loop-step.invariant.some in
    let t = c.loop-step-test.true in
    let n = c.count.ensures in
    none_before (set.rising c.args.self.now) (rising_is_sorted texts_total texts_same c.args.self.now) (c.args.text.now ∷ []) true _ (omega (arith, w, s, t, n))
    (sym c.is_before.ensures ∙ c.if-not-is_before.true)

pub loop-step-preserved : goal.loop-step-preserved
loop-step-preserved c =
    let f = c.loop-step.invariant.from in
    let w = c.loop-step.invariant.within in
    let s = c.loop-step.invariant.some in
    let t = c.loop-step-test.true in
    let n = c.count.ensures in
    let m = c.saturating_mul-step.ensures in
    record {
      from = omega (arith, f, s);
      within = omega (arith, w, s, t, n);
      some = omega (arith, s, m);
      below = all_before (set.rising c.args.self.now) (rising_is_sorted texts_total texts_same c.args.self.now) (c.args.text.now ∷ []) true _ (omega (arith, w, s, t, n))
          (sym c.is_before.ensures ∙ c.if-not-is_before.false);
    }
