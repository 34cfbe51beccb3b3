use Rattle.cadf_pathset.proofs.Common.{common_steps, arith, length, take, subst, sym, IsClimb, IsLine, list_at, place}
use Rattle.cadf_pathset.proofs.Threads.{climb_less, climb_line, line_cut, self_line}
use Rattle.cadf_pathset.proofs.lines.follow.Goals as goal

pub loop-next-preserved : goal.loop-next-preserved
loop-next-preserved c =
    let h = c.loop-next.invariant in
    let ls = c.args.nodes.now in
    let l = list_at c.args.nodes.now c.args.node in
    let more = c.in_ok-push-2.ensures.items in
    record {
      climbed = subst (λ z. IsClimb ls c.pop-in-loop-next.new.self.items l (length z)) (sym more)
          (climb_less ls c.loop-next.up.items c.pop-in-loop-next.new.self.items c.loop-next.line.items l c.in-Some.next h.climbed h.line c.in-Some.ensures.items);
      line = subst (λ z. IsLine ls z (take (length z) l)) (sym more)
          (climb_line ls c.loop-next.up.items c.pop-in-loop-next.new.self.items c.loop-next.line.items l c.in-Some.next h.climbed h.line c.in-Some.ensures.items);
    }

pub loop-at-preserved : goal.loop-at-preserved
loop-at-preserved c = grind (arith, common_steps)

pub loop-next-init : goal.loop-next-init
loop-next-init c = grind (arith, common_steps)

pub returns-clause-common : goal.returns-clause-common
returns-clause-common c = grind (arith, common_steps)

pub loop-at-preserved-then-top-at : goal.loop-at-preserved-then-top-at
loop-at-preserved-then-top-at c = grind (arith, common_steps)

pub returns-in_err-push-clause-line : goal.returns-in_err-push-clause-line
returns-in_err-push-clause-line c =
    let ls = c.args.nodes.now in
    let old = c.args.line.now.items in
    let ns = c.loop-at.line.items in
    subst (λ z. IsLine ls z (place ls z)) (sym c.loop-at.invariant.cut)
    (self_line ls (take (length ns) old) (take (length ns) (place ls old)) (line_cut ls old (place ls old) c.requires.line (length ns)))

pub returns-in_err-push-2-clause-line : goal.returns-in_err-push-2-clause-line
returns-in_err-push-2-clause-line c =
    let ls = c.args.nodes.now in
    subst (λ z. IsLine ls z (place ls z)) (sym c.in_err-push-2.ensures.items) (self_line ls c.loop-next.line.items _ c.loop-next.invariant.line)

pub returns-clause-line : goal.returns-clause-line
returns-clause-line c = self_line c.args.nodes.now c.loop-next.line.items _ c.loop-next.invariant.line

pub returns-clause-list : goal.returns-clause-list
returns-clause-list c = grind (arith, common_steps)
