use Rattle.cadf_sketch.proofs.Common.{◌≡◌, ◌∙◌, ◌+◌, ◌-◌, ◌∷◌, [], Some, suc, ap, sym, subst, take, rules, arith, take_more_set}
use Rattle.cadf_sketch.proofs.CountLemmas.{AreCounts, counts_begin, count_uncut, count_missing, count_read, last_count, last_set}
use Rattle.cadf_sketch.proofs.sketch_lines.counts_in.Goals as goal

pub returns-in_err-first : goal.returns-in_err-first
returns-in_err-first c =
    let t = c.args.text.now in
    c.from_residual.ensures ∙ count_uncut [] 63 t t (counts_begin t) c.in_err-first.ensures.cut

pub returns-in_err-digests : goal.returns-in_err-digests
returns-in_err-digests c =
    let t = c.args.text.now in
    c.from_residual-in_err-digests.ensures
    ∙ count_missing [] 63 t t (counts_begin t) c.in_ok-first.first.now c.in_ok-first.rest.now c.in_ok-first.ensures.cut.0 c.in_ok-first.ensures.cut.1 c.in_err-digests.ensures

pub loop-bit-init : goal.loop-bit-init
loop-bit-init c =
    let t = c.args.text.now in
    record {
      so_far = count_read [] 63 t t (counts_begin t) c.in_ok-first.first.now c.in_ok-first.rest.now c.in_ok-first.ensures.cut.0 c.in_ok-first.ensures.cut.1 c.in_ok-digests.digests
          c.in_ok-digests.ensures;
      size = search rules;
    }

pub returns-in_err-word : goal.returns-in_err-word
returns-in_err-word c =
    let k = c.loop-bit.bit in
    let xs = c.in_ok-digests.digests ∷ take k c.loop-bit.ones in
    let left : 63 - k ≡ suc (63 - (k + 1)) = omega (arith, c.loop-bit-test.true) in
    c.from_residual-in_err-word.ensures
    ∙ count_uncut xs (63 - (k + 1)) c.loop-bit.rest.now c.args.text.now
    (subst (λ n. AreCounts xs n c.loop-bit.rest.now c.args.text.now) left c.loop-bit.invariant.so_far) c.in_err-word.ensures.cut

pub loop-bit-preserved : goal.loop-bit-preserved
loop-bit-preserved c =
    let k = c.loop-bit.bit in
    let xs = c.in_ok-digests.digests ∷ take k c.loop-bit.ones in
    let n = c.in_ok-ones.field-0 in
    let left : 63 - k ≡ suc (63 - (k + 1)) = omega (arith, c.loop-bit-test.true) in
    let size = c.loop-bit.invariant.size in
    record {
      so_far = subst (λ ns. AreCounts (c.in_ok-digests.digests ∷ ns) (63 - (k + 1)) c.in_ok-word.others.now c.args.text.now)
          (sym (take_more_set c.loop-bit.ones k n (omega (arith, size, c.loop-bit-test.true))))
          (count_read xs (63 - (k + 1)) c.loop-bit.rest.now c.args.text.now
          (subst (λ m. AreCounts xs m c.loop-bit.rest.now c.args.text.now) left c.loop-bit.invariant.so_far) c.in_ok-word.word.now c.in_ok-word.others.now
          c.in_ok-word.ensures.cut.0 c.in_ok-word.ensures.cut.1 n c.in_ok-ones.ensures);
      size = search rules;
    }

pub returns : goal.returns
returns c =
    let ones = c.loop-bit.ones in
    let digests = c.in_ok-digests.digests in
    let n = c.in_ok-ones-2.field-0 in
    let done : c.loop-bit.bit ≡ 63 = omega (arith, c.loop-bit-test.false) in
    ap (λ ns. Some (record { digests = digests; ones = ns })) (last_set ones n c.loop-bit.invariant.size)
    ∙ last_count (digests ∷ take 63 ones) c.loop-bit.rest.now c.args.text.now (Some n)
    (subst (λ b. AreCounts (digests ∷ take b ones) (63 - b) c.loop-bit.rest.now c.args.text.now) done c.loop-bit.invariant.so_far) c.in_ok-ones-2.ensures
