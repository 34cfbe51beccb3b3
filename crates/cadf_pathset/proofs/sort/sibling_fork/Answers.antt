use Rattle.cadf_pathset.proofs.Common.{◌++◌, sym, ap, ◌∙◌, text_cmp, last_text, list_at}
use Rattle.cadf_pathset.proofs.Forks.{fork_at}
use Rattle.cadf_pathset.proofs.sort.sibling_fork.Goals as goal

pub returns-then-theirs-gt0-clause-known : goal.returns-then-theirs-gt0-clause-known
returns-then-theirs-gt0-clause-known c =
    let ls = c.args.nodes.now in
    let h = c.loop-a.invariant in
    fork_at ls c.loop-a.ours c.loop-a.theirs c.loop-a.a c.loop-a.b (last_text (list_at ls c.loop-a.ours)) (last_text (list_at ls c.loop-a.theirs))
    c.cmp-order.result (h.child c.if-ours-gt0.true) (h.sibling c.if-theirs-gt0.true) c.loop-a-test.false
    (c.cmp-order.ensures ∙ (λ i. text_cmp (c.text.ensures i) (c.text-then-theirs-gt0.ensures i)))

pub returns-clause-ours : goal.returns-clause-ours
returns-clause-ours c =
    let ls = c.args.nodes.now in
    let l = list_at ls c.args.node in
    (l, sym (ap (λ k. list_at ls k ++ l) c.unknown.ensures.root.0))

pub returns-clause-theirs : goal.returns-clause-theirs
returns-clause-theirs c =
    let ls = c.args.nodes.now in
    let l = list_at ls c.args.other in
    (l, sym (ap (λ k. list_at ls k ++ l) c.unknown.ensures.root.1))
