use Rattle.cadf_pathset.proofs.Common.{common_steps, ◌≡◌, ◌≤◌, ◌∙◌, ap, length, subst, sym, take, arith, take-map, texts_at}
use Rattle.cadf_pathset.proofs.Agreement.{agree_cut}
use Rattle.cadf_pathset.proofs.Copies.{front_agrees}
use Rattle.cadf_pathset.proofs.copier.Copier.copy_if_above.Goals as goal

pub is_above_last-requires : goal.is_above_last-requires
is_above_last-requires c =
    let path = c.path.result.now in
    let fits : c.args.count ≤ length c.self.inside.cursor.0 = subst (λ v. c.args.count ≤ length v.0.0) (sym c.self.view_is) c.requires in
    let front : texts_at c.split_at.result.0.now ≡ take c.args.count c.self.inside.cursor.0 =
    ap texts_at c.split_at.ensures.front ∙ sym (take-map (λ t. t.now) c.args.count path) ∙ ap (take c.args.count) c.path.ensures in
    grind (arith, common_steps, agree_cut)

pub push_after-requires : goal.push_after-requires
push_after-requires c =
    let path = c.path.result.now in
    let fits : c.args.count ≤ length c.self.inside.cursor.0 = subst (λ v. c.args.count ≤ length v.0.0) (sym c.self.view_is) c.requires in
    let front : texts_at c.split_at.result.0.now ≡ take c.args.count c.self.inside.cursor.0 =
    ap texts_at c.split_at.ensures.front ∙ sym (take-map (λ t. t.now) c.args.count path) ∙ ap (take c.args.count) c.path.ensures in
    grind (arith, common_steps, agree_cut)

pub invariant_of-self-then-is_above_last : goal.invariant_of-self-then-is_above_last
invariant_of-self-then-is_above_last c =
    let path = c.path.result.now in
    let fits : c.args.count ≤ length c.self.inside.cursor.0 = subst (λ v. c.args.count ≤ length v.0.0) (sym c.self.view_is) c.requires in
    let front : texts_at c.split_at.result.0.now ≡ take c.args.count c.self.inside.cursor.0 =
    ap texts_at c.split_at.ensures.front ∙ sym (take-map (λ t. t.now) c.args.count path) ∙ ap (take c.args.count) c.path.ensures in
    front_agrees c.self.inside.copies c.push_after.new.self (texts_at c.split_at.result.0.now) c.self.inside.cursor.0 c.args.count
    c.in_ok-push_after.ensures.ok front fits
