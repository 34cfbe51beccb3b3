use Rattle.cadf_pathset.proofs.Common.{Some, ap, min, subst, take, ◌∙◌, Advances}
use Rattle.cadf_pathset.proofs.Merging.{front_entered}
use Rattle.cadf_pathset.proofs.union.Merger.enter.Goals as goal

pub returns-in-Some-clause-front : goal.returns-in-Some-clause-front
returns-in-Some-clause-front c ls f =
    let a = c.args.self.now in
    let b = c.advance.new.self in
    let moved : Advances (Some c.in-Some.shared) a.cursor b = subst (λ found. Advances found a.cursor b) c.in-Some.is c.in_ok-shared.ensures in
    front_entered ls a.line.items a.out.items c.truncate.new.self.items a.agreed c.min-self.result a.cursor.0 b.0 f
    (c.truncate.ensures.items ∙ ap (λ k. take k a.out.items) moved.1) (c.min-self.ensures ∙ ap (min a.agreed) moved.1)
