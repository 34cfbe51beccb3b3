use Rattle.cadf_pathset.proofs.Common.{common_steps, ◌≡◌, ◌≤◌, ◌-◌, ◌++◌, [], ◌∷◌, ℕ, length, take, drop, get_or, arith, ap, subst, refl, sym, true, ◌∙◌, take_all, Less, Equal, Greater, AllByRecursion, texts_cmp, sorted_merge, AreThere, lists_at}
use Rattle.cadf_pathset.proofs.Threads.{kept_again, lists_kept, there_kept}
use Rattle.cadf_pathset.proofs.Merging.{order_is, ours_put, ours_there, rest_put, turn_skip}
use Rattle.cadf_pathset.proofs.Merging.{there_at, there_both, there_drop, turn_alone, turn_equal, turn_greater}
use Rattle.cadf_pathset.proofs.union.Merger.append_all.Goals as goal

pub loop-more-init : goal.loop-more-init
loop-more-init c =
    let ls = c.args.nodes.now in
    record {
      kept = take_all (length ls) ls (omega arith);
      within = omega arith;
      short = omega arith;
      there = subst (AreThere ls) (sym c.requires.none) tt;
      front = c.in_ok-more.ensures.front ls c.requires.front;
      lists = λ i. lists_at ls (c.requires.none i) ++ sorted_merge texts_cmp true (lists_at ls c.args.numbers.now) (c.in_ok-more.ensures.ahead i);
    }

pub loop-more-preserved-in-Less : goal.loop-more-preserved-in-Less
loop-more-preserved-in-Less c = grind (arith, common_steps)

pub loop-more-preserved-in-Equal : goal.loop-more-preserved-in-Equal
loop-more-preserved-in-Equal c =
    let h = c.loop-more.invariant in
    let first = c.args.nodes.now in
    let ls = c.loop-more.nodes in
    let ns = c.args.numbers.now in
    let lt = c.if-at-numbers.true in
    let n : ℕ = get_or ns c.loop-more.at 0 in
    let there : n ≤ length first = there_at first ns c.loop-more.at c.requires.ours lt in
    let put = c.in_ok-push-in-Equal.ensures.items in
    record {
      kept = h.kept;
      within = omega (arith, lt);
      short = omega arith;
      there = ours_there ls first h.kept c.loop-more.all.items c.push-in-Equal.new.self.items n put h.there there;
      front = c.in_ok-more-in-Equal.ensures.front ls c.in_ok-compare.ensures.front;
      lists = turn_equal first ns c.loop-more.at (lists_at ls c.loop-more.all.items) _ c.loop-more.more c.loop-more.self.cursor c.loop-more-test.true h.lists
          lt n refl (lists_at ls c.push-in-Equal.new.self.items) c.in_ok-more-in-Equal.more c.enter-in-Equal.new.self.cursor
          (ours_put ls first h.kept c.loop-more.all.items c.push-in-Equal.new.self.items n put there)
          (order_is ls first h.kept n c.loop-more.self.cursor.0 _ Equal there c.in_ok-compare.ensures.order c.in-Equal.is)
          (c.in_ok-more-in-Equal.ensures.ahead ∙ ap (λ p. p.1) c.compare.ensures.cursor);
    }

pub loop-more-preserved-in-Greater : goal.loop-more-preserved-in-Greater
loop-more-preserved-in-Greater c =
    let h = c.loop-more.invariant in
    let first = c.args.nodes.now in
    let ls = c.loop-more.nodes in
    let us = c.append.new.nodes in
    let ns = c.args.numbers.now in
    let lt = c.if-at-numbers.true in
    let n : ℕ = get_or ns c.loop-more.at 0 in
    let there : n ≤ length first = there_at first ns c.loop-more.at c.requires.ours lt in
    let put = c.in_ok-more-in-Greater.ensures in
    record {
      kept = kept_again first ls us h.kept put.kept;
      within = h.within;
      short = omega arith;
      there = put.there;
      front = put.front;
      lists = turn_greater first ns c.loop-more.at (lists_at ls c.loop-more.all.items) _ c.loop-more.more c.loop-more.self.cursor c.loop-more-test.true h.lists
          lt n refl (lists_at us c.append.new.all.items) c.in_ok-more-in-Greater.more c.append.new.self.cursor
          (put.lists ∙ ap (λ p. lists_at ls c.loop-more.all.items ++ p.0 ∷ []) c.compare.ensures.cursor)
          (order_is ls first h.kept n c.loop-more.self.cursor.0 _ Greater there c.in_ok-compare.ensures.order c.in-Greater.is)
          (put.ahead ∙ ap (λ p. p.1) c.compare.ensures.cursor);
    }

pub loop-more-preserved : goal.loop-more-preserved
loop-more-preserved c =
    let h = c.loop-more.invariant in
    let first = c.args.nodes.now in
    let ls = c.loop-more.nodes in
    let ns = c.args.numbers.now in
    let put = c.in_ok-more-2.ensures in
    record {
      kept = kept_again first ls c.append-else-at-numbers.new.nodes h.kept put.kept;
      within = h.within;
      short = omega arith;
      there = put.there;
      front = put.front;
      lists = turn_alone first ns c.loop-more.at (lists_at ls c.loop-more.all.items) _ c.loop-more.more c.loop-more.self.cursor c.loop-more-test.true h.lists
          c.if-at-numbers.false _ c.in_ok-more-2.more c.append-else-at-numbers.new.self.cursor put.lists put.ahead;
    }

pub returns-clause-there : goal.returns-clause-there
returns-clause-there c = grind (arith, common_steps, there_both, there_kept, there_drop)

pub returns-clause-merged : goal.returns-clause-merged
returns-clause-merged c =
    let h = c.loop-more.invariant in
    let first = c.args.nodes.now in
    let ls = c.loop-more.nodes in
    let ns = c.args.numbers.now in
    rest_put ls first h.kept c.loop-more.all.items c.extend_from_slice.new.self.items (drop c.loop-more.at ns) c.loop-more.more c.loop-more.self.cursor _
    (c.in_ok-extend_from_slice.ensures.items ∙ ap (λ z. c.loop-more.all.items ++ z) c.split_at.ensures.back)
    (there_drop first ns c.loop-more.at c.requires.ours) c.loop-more-test.false h.lists

pub skip-requires-clause-rises : goal.skip-requires-clause-rises
skip-requires-clause-rises c = grind (arith, common_steps, lists_kept)

pub loop-more-preserved-then-run-eq-LONG : goal.loop-more-preserved-then-run-eq-LONG
loop-more-preserved-then-run-eq-LONG c =
    let h = c.loop-more.invariant in
    let first = c.args.nodes.now in
    let ls = c.loop-more.nodes in
    let ns = c.args.numbers.now in
    let same = lists_kept first ls h.kept ns c.requires.ours in
    let to = c.in_ok-at.at in
    let put = c.in_ok-at.ensures in
    record {
      kept = h.kept;
      within = put.within;
      short = omega arith;
      there = put.there;
      front = h.front;
      lists = turn_skip first ns c.loop-more.at to (lists_at ls c.loop-more.all.items) _ c.loop-more.more c.loop-more.self.cursor c.loop-more-test.true h.lists put.from
          (lists_at ls c.skip.new.all.items) (put.lists ∙ ap (λ z. lists_at ls c.loop-more.all.items ++ take (to - c.loop-more.at) (drop c.loop-more.at z)) same)
          (subst (λ z. AllByRecursion (λ l. texts_cmp l c.loop-more.self.cursor.0 ≡ Less) (take (to - c.loop-more.at) (drop c.loop-more.at z))) same put.below);
    }

pub loop-more-smaller-then-run-eq-LONG : goal.loop-more-smaller-then-run-eq-LONG
loop-more-smaller-then-run-eq-LONG c = grind (arith, common_steps)

pub loop-more-smaller-in-Less : goal.loop-more-smaller-in-Less
loop-more-smaller-in-Less c = grind (arith, common_steps)

pub loop-more-smaller-in-Equal : goal.loop-more-smaller-in-Equal
loop-more-smaller-in-Equal c = grind (arith, common_steps)

pub loop-more-smaller-in-Greater : goal.loop-more-smaller-in-Greater
loop-more-smaller-in-Greater c = grind (arith, common_steps)

pub loop-more-smaller : goal.loop-more-smaller
loop-more-smaller c = grind (arith, common_steps)
