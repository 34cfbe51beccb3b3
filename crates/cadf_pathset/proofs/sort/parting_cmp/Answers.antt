use Rattle.cadf_pathset.proofs.Common.{common_steps, ◌≡◌, length, arith, ap, sym, ◌∙◌, ordering_then, length-take, Texts, text_cmp, list_at, last_text}
use Rattle.cadf_pathset.proofs.Arena.{one_longer}
use Rattle.cadf_pathset.proofs.Forks.{fork_found, fork_up, no_fork}
use Rattle.cadf_pathset.proofs.Orders.{cmp_lengths, cmp_up, cmp_same}
use Rattle.cadf_pathset.proofs.sort.parting_cmp.Goals as goal

pub loop-a-init : goal.loop-a-init
loop-a-init c = grind (arith, common_steps, length-take, cmp_lengths, no_fork)

pub loop-a-preserved : goal.loop-a-preserved
loop-a-preserved c =
    let h = c.loop-a.invariant in
    let ls = c.args.nodes.now in
    let x : Texts = list_at ls c.loop-a.a in
    let y : Texts = list_at ls c.loop-a.b in
    let one = one_longer x (list_at ls c.parent-a.result) (last_text x) c.parent-a.ensures.list in
    let two = one_longer y (list_at ls c.parent-b.result) (last_text y) c.parent-b.ensures.list in
    let before = c.parent-a.ensures.before in
    let lower = c.parent-b.ensures.before in
    let there = h.ours in
    let held = h.theirs in
    let same = h.long in
    let long : length (list_at ls c.parent-a.result) ≡ length (list_at ls c.parent-b.result) = omega (arith, one, two, same) in
    record {
      ours = omega (arith, before, there);
      theirs = omega (arith, lower, held);
      long = long;
      order = cmp_up _ c.loop-a.found c.then-found.result x y (list_at ls c.parent-a.result) (list_at ls c.parent-b.result) (last_text x) (last_text y)
          c.parent-a.ensures.list c.parent-b.ensures.list long
          (c.then-found.ensures ∙ ap (λ z. ordering_then z c.loop-a.found) (c.cmp-order.ensures ∙ (λ i. text_cmp (c.text.ensures i) (c.text-in-loop-a.ensures i))))
          h.order;
      near = fork_up ls c.loop-a.near c.or_nearer-near.result c.loop-a.a c.loop-a.b c.parent-a.result c.parent-b.result (last_text x) (last_text y)
          c.cmp-order.result c.parent-a.ensures.list c.parent-b.ensures.list long (c.cmp-order.ensures ∙ (λ i. text_cmp (c.text.ensures i) (c.text-in-loop-a.ensures i)))
          c.or_nearer-near.ensures.same c.or_nearer-near.ensures.other h.near;
    }

pub returns-after-loop-a : goal.returns-after-loop-a
returns-after-loop-a c =
    let ls = c.args.nodes.now in
    let same = ap (list_at ls) c.loop-a-test.false in
    record {
      order = sym (cmp_same _ c.loop-a.found (list_at ls c.loop-a.a) (list_at ls c.loop-a.b) same c.loop-a.invariant.order);
      known = fork_found ls c.loop-a.near c.loop-a.a c.loop-a.b same c.loop-a.invariant.near;
    }
