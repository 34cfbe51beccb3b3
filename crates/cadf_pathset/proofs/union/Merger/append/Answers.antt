use Rattle.cadf_pathset.proofs.Common.{common_steps, ◌≤◌, length, ap, sym, subst, ◌∙◌, arith, on_ok_then, IsLine, last_node, place}
use Rattle.cadf_pathset.proofs.Merging.{front_put}
use Rattle.cadf_pathset.proofs.Threads.{last_there, put_there, put_lists}
use Rattle.cadf_pathset.proofs.union.Merger.append.Goals as goal

pub returns-clause-there : goal.returns-clause-there
returns-clause-there c =
    let us = c.extend.new.nodes in
    let is = c.end_of.ensures ∙ ap last_node c.as_slice.ensures.value in
    on_ok_then c.enter.result (λ _. put_there c.args.nodes.now us c.extend.ensures.kept c.args.all.now.items c.push.new.self.items c.end_of.result c.requires.there
    c.in_ok-push.ensures.items (subst (λ k. k ≤ length us) (sym is) (last_there us c.extend.new.line.items (place us c.extend.new.line.items) c.in_ok-extend.ensures.line)))
    c.enter.ensures.front

pub returns-clause-lists : goal.returns-clause-lists
returns-clause-lists c = on_ok_then c.enter.result (λ _. grind (arith, common_steps, put_lists)) c.enter.ensures.front

pub returns-clause-front : goal.returns-clause-front
returns-clause-front c =
    let us = c.extend.new.nodes in
    let m = c.args.self.now in
    on_ok_then c.enter.result (λ on. on us (front_put c.args.nodes.now us c.extend.ensures.kept m.line.items m.out.items c.extend.new.line.items m.agreed m.cursor.0
    c.requires.front (subst (IsLine us c.extend.new.line.items) (c.in_ok-extend.ensures.ok ∙ c.path.ensures) c.extend.ensures.line))) c.enter.ensures.front
