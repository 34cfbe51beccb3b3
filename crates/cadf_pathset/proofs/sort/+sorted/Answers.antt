use Rattle.cadf_pathset.proofs.Common.{common_steps, ◌≡◌, map, true, arith, IsStrictlySortedBy, texts_cmp, list_at, sorted_merge, if_ok_then}
use Rattle.cadf_join.specs.Sets as set
use Rattle.cadf_pathset.proofs.Sorts.{halves_rise, halves_are_all}
use Rattle.cadf_pathset.proofs.sort.+sorted.Goals as goal

pub returns-clause-rises : goal.returns-clause-rises
returns-clause-rises t c =
    let f = list_at c.args.nodes.now in
    if_ok_then c.merged.result (λ all. map f all.items ≡ sorted_merge texts_cmp true (map f c.as_slice.result.now) (map f c.as_slice-2.result.now))
    (λ all. IsStrictlySortedBy texts_cmp (map f all.items))
    (λ all e. halves_rise f c.in_ok-front.front.items c.in_ok-back.back.items c.as_slice.result.now c.as_slice-2.result.now
    c.as_slice.ensures.value c.as_slice-2.ensures.value (map f all.items) e c.in_ok-front.ensures.rises c.in_ok-back.ensures.rises)
    c.merged.ensures.merged

pub returns-clause-same : goal.returns-clause-same
returns-clause-same t c =
    let f = list_at c.args.nodes.now in
    if_ok_then c.merged.result (λ all. map f all.items ≡ sorted_merge texts_cmp true (map f c.as_slice.result.now) (map f c.as_slice-2.result.now))
    (λ all. set.from_list {R = texts_cmp} (map f all.items) ≡ set.from_list (map f c.args.numbers.now))
    (λ all e. halves_are_all f c.in_ok-front.front.items c.in_ok-back.back.items c.as_slice.result.now c.as_slice-2.result.now
    c.as_slice.ensures.value c.as_slice-2.ensures.value (map f all.items) e c.args.numbers.now c.split_at.result.0.now c.split_at.result.1.now _
    c.split_at.ensures.front c.split_at.ensures.back c.in_ok-front.ensures.same c.in_ok-back.ensures.same)
    c.merged.ensures.merged

pub returns-then-is_rising-clause-rises : goal.returns-then-is_rising-clause-rises
returns-then-is_rising-clause-rises t c = grind (arith, common_steps)

pub returns-then-is_rising-clause-same : goal.returns-then-is_rising-clause-same
returns-then-is_rising-clause-same t c = grind (arith, common_steps)
