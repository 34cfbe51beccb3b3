use Rattle.cadf_pathset.proofs.Common.{common_steps, ◌≡◌, ◌<◌, ◌-◌, length, map, take, get_or, [], arith, ap, sym, ◌∙◌, ordering_then, length-map, length-take, length-take-le, Texts, text_cmp, Agree, list_at, last_text, shared}
use Rattle.cadf_pathset.proofs.Arena.{one_longer}
use Rattle.cadf_pathset.proofs.Orders.{cmp_start, cmp_up, front_more}
use Rattle.cadf_pathset.proofs.Agreement.{agree_less, ended}
use Rattle.cadf_pathset.proofs.Climbs.{cmp_known, front_fits, front_least, front_up, last_front, shares_step}
use Rattle.cadf_pathset.proofs.compare.list_cmp.Goals as goal

pub loop-depth-init : goal.loop-depth-init
loop-depth-init g c =
    let b : Texts = map g.W.AsStr.text c.args.list.now in
    let a : Texts = list_at c.args.nodes.now c.args.node in
    let m : length b ≡ length c.args.list.now = length-map c.args.list.now g.W.AsStr.text in
    let has = c.depth-has.ensures in
    let low = c.min-depth.ensures in
    let shares : Agree c.min-depth.result a b → c.min-depth.result ≡ shared a b =
    λ g. sym (ended c.min-depth.result a b g (omega (arith, low, has, m))).1 in
    grind (arith, common_steps, length-take, cmp_start, front_least)

pub loop-depth-preserved : goal.loop-depth-preserved
loop-depth-preserved g c =
    let h = c.loop-depth.invariant in
    let ls = c.args.nodes.now in
    let b : Texts = map g.W.AsStr.text c.args.list.now in
    let m : length b ≡ length c.args.list.now = length-map c.args.list.now g.W.AsStr.text in
    let over = c.loop-depth-test.true in
    let some : 0 < c.loop-depth.depth = omega (arith, over) in
    let one = one_longer (list_at ls c.loop-depth.at) (list_at ls c.parent-at.result) (last_text (list_at ls c.loop-depth.at)) c.parent-at.ensures.list in
    let before = c.parent-at.ensures.before in
    let there = h.there in
    let held = h.long in
    let fits = h.fits in
    let long : c.loop-depth.depth - 1 ≡ length (list_at ls c.parent-at.result) = omega (arith, one, held, some) in
    let a : Texts = list_at c.args.nodes.now c.args.node in
    let up : list_at ls c.parent-at.result ≡ take (c.loop-depth.depth - 1) a =
    front_up a (list_at ls c.loop-depth.at) (list_at ls c.parent-at.result) (last_text (list_at ls c.loop-depth.at)) c.loop-depth.depth h.front long c.parent-at.ensures.list in
    let reach = front_fits a (list_at ls c.loop-depth.at) c.loop-depth.depth h.front held in
    let text : text_cmp (get_or a (c.loop-depth.depth - 1) []) (get_or b (c.loop-depth.depth - 1) []) ≡ c.cmp-order.result =
    sym (c.cmp-order.ensures ∙ (λ i. text_cmp ((c.text.ensures ∙ last_front a (list_at ls c.loop-depth.at) c.loop-depth.depth some reach h.front) i) (c.text_at.ensures i))) in
    let front : length (take (c.loop-depth.depth - 1) b) ≡ c.loop-depth.depth - 1 = length-take-le (c.loop-depth.depth - 1) b (omega (arith, m, fits)) in
    record {
      there = omega (arith, before, there);
      long = long;
      fits = omega (arith, fits);
      order = cmp_up _ c.loop-depth.found c.then-found.result (list_at ls c.loop-depth.at) (take c.loop-depth.depth b) (list_at ls c.parent-at.result)
          (take (c.loop-depth.depth - 1) b) (last_text (list_at ls c.loop-depth.at)) (get_or b (c.loop-depth.depth - 1) []) c.parent-at.ensures.list
          (front_more b c.loop-depth.depth some (omega (arith, m, fits)))
          (sym long ∙ sym front)
          (c.then-found.ensures ∙ ap (λ z. ordering_then z c.loop-depth.found) (c.cmp-order.ensures ∙ (λ i. text_cmp (c.text.ensures i) (c.text_at.ensures i))))
          h.order;
      front = up;
      shares = shares_step a b c.loop-depth.depth c.loop-depth.agreed c.parted-agreed.result c.cmp-order.result h.shares some reach (omega (arith, fits, m))
          text c.parted-agreed.ensures.same c.parted-agreed.ensures.other;
    }

pub returns-after-loop-depth-clause-order : goal.returns-after-loop-depth-clause-order
returns-after-loop-depth-clause-order g c =
    let h = c.loop-depth.invariant in
    cmp_known (list_at c.args.nodes.now c.args.node) (map g.W.AsStr.text c.args.list.now) (list_at c.args.nodes.now c.loop-depth.at) c.loop-depth.depth c.args.known
    c.loop-depth.found _ h.front c.requires.known c.loop-depth-test.false h.order

pub returns-after-loop-depth-clause-agreed : goal.returns-after-loop-depth-clause-agreed
returns-after-loop-depth-clause-agreed g c = grind (arith, common_steps, agree_less)
