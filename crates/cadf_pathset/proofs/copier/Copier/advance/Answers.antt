use Rattle.cadf_pathset.proofs.Common.{[], None, Some, ap, min, subst, sym, ◌∙◌, last_of, Agree, Advances}
use Rattle.cadf_pathset.proofs.Copies.{advanced_agrees}
use Rattle.cadf_pathset.proofs.copier.Copier.advance.Goals.{in-Some, in-None}
use Rattle.cadf_pathset.proofs.copier.Copier.advance.Goals as goal

pub invariant_of-self-2 : goal.invariant_of-self-2
invariant_of-self-2 c =
    let last = last_of [] c.self.inside.copies in
    let known = c.replace-known.ensures.value in
    elim c.match-found.branch as (λ _. Agree c.match-found.self last c.advance.new.self.0) [
      | in-Some w ↦
          let moved : Advances (Some w.in-Some.shared) c.self.inside.cursor c.advance.new.self =
          subst (λ o. Advances o c.self.inside.cursor c.advance.new.self) w.in-Some.is c.in_ok-found.ensures in
          advanced_agrees c.self.inside.shared w.in-Some.shared c.match-found.self last c.self.inside.cursor.0 c.advance.new.self.0
          c.self.invariant moved.1 (w.self-is ∙ w.min-self-inside.ensures ∙ ap (λ k. min k w.in-Some.shared) known)
      | in-None w ↦
          let moved : Advances None c.self.inside.cursor c.advance.new.self =
          subst (λ o. Advances o c.self.inside.cursor c.advance.new.self) w.in-None.is c.in_ok-found.ensures in
          subst (λ p. Agree c.match-found.self last p.0) (sym moved.1) (subst (λ k. Agree k last c.self.inside.cursor.0) (sym (w.self-is ∙ known)) c.self.invariant)
    ]
