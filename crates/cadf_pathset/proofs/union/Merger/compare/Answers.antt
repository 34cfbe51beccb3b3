use Rattle.cadf_pathset.proofs.Common.{common_steps, ◌≡◌, ◌++◌, take, arith, sym, ap, subst, ◌∙◌, Texts, texts_at, Agree, IsLine, list_at, place}
use Rattle.cadf_pathset.proofs.Threads.{place_of, self_line}
use Rattle.cadf_pathset.proofs.Agreement.{agree_less, agree_through, agree_turned}
use Rattle.cadf_pathset.proofs.Merging.{front_out}
use Rattle.cadf_pathset.proofs.union.Merger.compare.Goals as goal

pub cmp_from-order-requires-clause-known : goal.cmp_from-order-requires-clause-known
cmp_from-order-requires-clause-known c = grind (arith, common_steps, place_of, agree_through, agree_turned, agree_less)

pub returns-in_ok-extend_from_slice-clause-front : goal.returns-in_ok-extend_from_slice-clause-front
returns-in_ok-extend_from_slice-clause-front c =
    let ls = c.args.nodes.now in
    let l : Texts = list_at c.args.nodes.now c.args.number in
    let b : Texts = c.args.self.now.cursor.0 in
    let here : place ls c.as_slice.result.now ≡ l = ap (place ls) c.as_slice.ensures.value ∙ place_of ls c.follow.new.line.items l c.in_ok-common.ensures.list in
    let both : Agree c.cmp_from-order.result.1 l b = subst (Agree c.cmp_from-order.result.1 l) c.path.ensures
    (subst (λ z. Agree c.cmp_from-order.result.1 z (texts_at c.path.result.now)) here c.cmp_from-order.ensures.agreed) in
    let line : IsLine ls c.follow.new.line.items l = c.in_ok-common.ensures.list in
    let cut : c.extend_from_slice.new.self.items ≡ take c.cmp_from-order.result.1 c.follow.new.line.items =
    c.in_ok-extend_from_slice.ensures.items ∙ (λ i. c.clear.ensures.items i ++ c.split_at.ensures.front i)
    ∙ ap (take c.cmp_from-order.result.1) c.as_slice-then-both-len.ensures.value in
    record {
      line = self_line ls c.follow.new.line.items l line;
      agrees = subst (λ z. Agree c.cmp_from-order.result.1 z b) (sym (place_of ls c.follow.new.line.items l line)) both;
      out = front_out ls c.follow.new.line.items c.extend_from_slice.new.self.items c.cmp_from-order.result.1 l b line cut both;
    }

pub returns-else-both-len-clause-front : goal.returns-else-both-len-clause-front
returns-else-both-len-clause-front c = grind (arith, common_steps)

pub returns-in_ok-extend_from_slice-clause-order : goal.returns-in_ok-extend_from_slice-clause-order
returns-in_ok-extend_from_slice-clause-order c = grind (arith, common_steps, place_of)

pub returns-else-both-len-clause-order : goal.returns-else-both-len-clause-order
returns-else-both-len-clause-order c = grind (arith, common_steps, place_of)
