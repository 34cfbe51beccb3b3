use Rattle.cadf_pathset.proofs.Common.{◌++◌, subst, ◌∙◌, Less, Equal, Greater, texts_cmp, texts_at, sorted_without, Agree, Advances, Steps}
use Rattle.cadf_pathset.proofs.Agreement.{agree_turned}
use Rattle.cadf_pathset.proofs.Copies.{left_less, left_equal, left_greater, order_turned, stepped_agrees, stepped_ahead}
use Rattle.cadf_pathset.proofs.copier.copy_lacking.Goals as goal

pub loop-more-preserved-in-Less : goal.loop-more-preserved-in-Less
loop-more-preserved-in-Less c =
    let a = c.loop-more.ours.0 in
    let b = c.loop-more.theirs in
    let e = c.advance-in-Less.new.self in
    let n = c.cmp-order.result.1 in
    let m = c.stepped-others-in-Less.new.agreed in
    let others = c.stepped-others-in-Less.result in
    let theirs : Steps others b e n m = c.stepped-others-in-Less.ensures b e c.in_ok-advance-in-Less.ensures in
    record {
      left = left_greater c.loop-more.ours.1 (c.args.ours.now.1 ++ sorted_without texts_cmp c.args.ours.now.0.1 c.args.theirs.now.1)
          c.loop-more.more c.loop-more.others a b c.loop-more-test.true c.if-others.true c.loop-more.invariant.left others e
          (order_turned (texts_at c.path.result.now) a.0 b.0 c.cmp-order.result.0 Less c.path.ensures c.cmp-order.ensures.order c.in-Less.is)
          (stepped_ahead others b e n m theirs);
      agrees = stepped_agrees others b e n m a.0 theirs (subst (Agree n b.0) c.path.ensures c.cmp-order.ensures.agreed);
    }

pub loop-more-preserved-in-Equal : goal.loop-more-preserved-in-Equal
loop-more-preserved-in-Equal c =
    let a = c.loop-more.ours.0 in
    let b = c.loop-more.theirs in
    let d = c.advance-in-Equal.new.self.0 in
    let e = c.advance-in-Equal-2.new.self in
    let n = c.cmp-order.result.1 in
    let m = c.stepped-more-in-Equal.new.agreed in
    let k = c.stepped-others-in-Equal.new.agreed in
    let more = c.stepped-more-in-Equal.result in
    let others = c.stepped-others-in-Equal.result in
    let ours : Steps more a d n m = c.stepped-more-in-Equal.ensures a d c.in_ok-advance-in-Equal.ensures.place in
    let theirs : Steps others b e m k = c.stepped-others-in-Equal.ensures b e c.in_ok-advance-in-Equal-2.ensures in
    record {
      left = left_equal c.loop-more.ours.1 (c.args.ours.now.1 ++ sorted_without texts_cmp c.args.ours.now.0.1 c.args.theirs.now.1)
          c.loop-more.more c.loop-more.others a b c.loop-more-test.true c.if-others.true c.loop-more.invariant.left more others d e c.advance-in-Equal.new.self.1
          (order_turned (texts_at c.path.result.now) a.0 b.0 c.cmp-order.result.0 Equal c.path.ensures c.cmp-order.ensures.order c.in-Equal.is)
          c.advance-in-Equal.ensures.same (stepped_ahead more a d n m ours) (stepped_ahead others b e m k theirs);
      agrees = stepped_agrees others b e m k d.0 theirs (agree_turned m d.0 b.0
          (stepped_agrees more a d n m b.0 ours (agree_turned n b.0 a.0 (subst (Agree n b.0) c.path.ensures c.cmp-order.ensures.agreed))));
    }

pub loop-more-preserved : goal.loop-more-preserved
loop-more-preserved c =
    let a = c.loop-more.ours.0 in
    let b = c.loop-more.theirs in
    let d = c.advance-in-Greater.new.self.0 in
    let n = c.cmp-order.result.1 in
    let m = c.stepped-more-in-Greater.new.agreed in
    let more = c.stepped-more-in-Greater.result in
    let ours : Steps more a d n m = c.stepped-more-in-Greater.ensures a d
    (subst (λ z. Advances c.in_ok-advance-in-Greater.field-0 z d) c.copy.ensures.place c.in_ok-advance-in-Greater.ensures.place) in
    record {
      left = left_less c.loop-more.ours.1 (c.args.ours.now.1 ++ sorted_without texts_cmp c.args.ours.now.0.1 c.args.theirs.now.1)
          c.loop-more.more c.loop-more.others a b c.loop-more-test.true c.if-others.true c.loop-more.invariant.left more d c.advance-in-Greater.new.self.1
          (order_turned (texts_at c.path.result.now) a.0 b.0 c.cmp-order.result.0 Greater c.path.ensures c.cmp-order.ensures.order c.in-Greater.is)
          (c.advance-in-Greater.ensures.same ∙ c.in_ok-copy-in-Greater.ensures.more) (stepped_ahead more a d n m ours);
      agrees = agree_turned m d.0 b.0
          (stepped_agrees more a d n m b.0 ours (agree_turned n b.0 a.0 (subst (Agree n b.0) c.path.ensures c.cmp-order.ensures.agreed)));
    }
