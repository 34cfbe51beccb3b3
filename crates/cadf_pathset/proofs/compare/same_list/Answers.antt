use Rattle.cadf_pathset.proofs.Common.{common_steps, ◌≡◌, ◌-◌, ◌∙◌, sym, arith, length, Texts, last_text, list_at}
use Rattle.cadf_pathset.proofs.Agreement.{agree_less}
use Rattle.cadf_pathset.proofs.Arena.{one_longer}
use Rattle.cadf_pathset.proofs.Climbs.{front_up}
use Rattle.cadf_pathset.proofs.Orders.{same_bytes, same_ends, same_fronts}
use Rattle.cadf_pathset.proofs.compare.same_list.Goals as goal

pub loop-left-preserved : goal.loop-left-preserved
loop-left-preserved c =
    let h = c.loop-left.invariant in
    let x : Texts = list_at c.args.nodes.now c.loop-left.a in
    let y : Texts = list_at c.args.others.now c.loop-left.b in
    let p : Texts = list_at c.args.nodes.now c.parent-a.result in
    let q : Texts = list_at c.args.others.now c.parent-b.result in
    let before = c.parent-a.ensures.before in
    let lower = c.parent-b.ensures.before in
    let there = h.ours in
    let held = h.theirs in
    let left = h.left in
    let long = h.long in
    let one = one_longer x p (last_text x) c.parent-a.ensures.list in
    let two = one_longer y q (last_text y) c.parent-b.ensures.list in
    let up : c.loop-left.left - 1 ≡ length p = omega (arith, left, one) in
    let down : c.loop-left.left - 1 ≡ length q = omega (arith, long, two) in
    record {
      ours = omega (arith, before, there);
      theirs = omega (arith, lower, held);
      left = up;
      long = down;
      front = front_up (list_at c.args.nodes.now c.args.node) x p (last_text x) c.loop-left.left h.front up c.parent-a.ensures.list;
      behind = front_up (list_at c.args.others.now c.args.other) y q (last_text y) c.loop-left.left h.behind down c.parent-b.ensures.list;
      same = λ e. h.same (same_ends x y p q (last_text x) (last_text y) c.parent-a.ensures.list c.parent-b.ensures.list
          (sym c.text.ensures ∙ same_bytes c.text.result.now c.text-in-loop-left.result.now c.if-ne.ensures ∙ c.text-in-loop-left.ensures) e);
      back = λ e. same_fronts x y p q (last_text x) (last_text y) c.parent-a.ensures.list c.parent-b.ensures.list (h.back e);
    }

pub returns-after-loop-left : goal.returns-after-loop-left
returns-after-loop-left c = grind (arith, common_steps, agree_less)
