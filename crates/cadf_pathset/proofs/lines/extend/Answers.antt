use Rattle.cadf_pathset.proofs.Common.{common_steps, ◌≡◌, ◌++◌, ◌∷◌, ◌∙◌, [], ap, arith, length, map, take, length-map, IsLine, last_node, list_at, place}
use Rattle.cadf_pathset.proofs.Threads.{kept_again, kept_more, line_grown, line_kept, line_on, place_of, self_line}
use Rattle.cadf_pathset.proofs.lines.extend.Goals as goal

pub loop-nodes-preserved : goal.loop-nodes-preserved
loop-nodes-preserved g c =
    let ls = c.loop-nodes.nodes in
    let us = c.push.new.self in
    let ns = c.loop-nodes.line.items in
    let ms = c.push-in-loop-nodes.new.self.items in
    let t = c.text_at.result.now in
    let h = c.loop-nodes.invariant.line in
    let kept : take (length ls) us ≡ ls = ap (take (length ls)) c.in_ok-number.ensures.ok ∙ kept_more ls ((list_at ls c.end_of.result ++ t ∷ []) ∷ []) in
    let more : IsLine us ms (place ls ns ++ t ∷ []) = line_grown ls us ns ms c.end_of.result c.in_ok-number.number t
    (self_line ls ns (take (length ns) (map g.W.AsStr.text c.args.path.now)) h) (c.end_of.ensures ∙ ap last_node c.as_slice.ensures.value)
    c.in_ok-number.ensures.ok c.in_ok-number.ensures.number c.in_ok-push.ensures.items in
    grind (arith, common_steps, place_of, self_line, length-map, kept_again, line_on)

pub returns-in_err-push-clause-line : goal.returns-in_err-push-clause-line
returns-in_err-push-clause-line g c =
    let ls = c.loop-nodes.nodes in
    let us = c.push.new.self in
    let ns = c.loop-nodes.line.items in
    let l = take (length ns) (map g.W.AsStr.text c.args.path.now) in
    let kept : take (length ls) us ≡ ls = ap (take (length ls)) c.in_ok-number.ensures.ok
    ∙ kept_more ls ((list_at ls c.end_of.result ++ c.text_at.result.now ∷ []) ∷ []) in
    let line = self_line us ns l (line_kept ls us kept ns l c.loop-nodes.invariant.line) in
    grind (arith, common_steps)

pub returns-in_err-number-clause-line : goal.returns-in_err-number-clause-line
returns-in_err-number-clause-line g c = grind (arith, common_steps, self_line)

pub returns-clause-line : goal.returns-clause-line
returns-clause-line g c = self_line c.loop-nodes.nodes c.loop-nodes.line.items _ c.loop-nodes.invariant.line

pub returns-clause-ok : goal.returns-clause-ok
returns-clause-ok g c = grind (arith, common_steps, place_of, length-map)

pub push-requires : goal.push-requires
push-requires g c = grind (arith, common_steps)

pub returns-in_err-push-clause-kept : goal.returns-in_err-push-clause-kept
returns-in_err-push-clause-kept g c = grind (arith, common_steps)
