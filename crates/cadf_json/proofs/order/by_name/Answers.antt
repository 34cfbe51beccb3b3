use Rattle.cadf_json.proofs.Common.{◌≡◌, [], length, refl, sym, ap, ◌∙◌, subst, arith, Named, put_named}
use Rattle.std.specs.FinMap.Entries as entries
use Rattle.cadf_json.proofs.ByName.{Naming, name_cmp, put_named_push, naming_start, naming_more, naming_over}
use Rattle.cadf_json.proofs.Firsts.{some_member}
use Rattle.cadf_json.proofs.order.by_name.Goals as goal

pub members-init : goal.members-init
members-init c = λ ms h. naming_start c.args.texts.now (length c.args.members.now) _ c.args.members.now ms (ap (λ ps. put_named ps []) c.in_ok-named.ensures.items) h (omega arith)

pub first_member-first-requires : goal.first_member-first-requires
first_member-first-requires c =
    let t = c.args.texts.now in
    let rest = c.members.rest.now in
    let n = c.members.invariant c.requires.0 c.requires.1 in
    let l = some_member t rest n.left (grind arith) n.stands in
    (l.0, (l.1.0, (l.1.1.0, l.1.1.1.1)))

pub members-smaller : goal.members-smaller
members-smaller c =
    let t = c.args.texts.now in
    let rest = c.members.rest.now in
    let n = c.members.invariant c.requires.0 c.requires.1 in
    let l = some_member t rest n.left (grind arith) n.stands in
    (c.first_member-first.ensures l.0 l.1.0 l.1.1.0 l.1.1.1.1).shorter

pub members-preserved : goal.members-preserved
members-preserved c = λ ms h.
    let t = c.args.texts.now in
    let rest = c.members.rest.now in
    let f = c.first_member-first.result in
    let p : Named = record { name = c.of.result; nodes = f.nodes } in
    let n = c.members.invariant ms h in
    let l = some_member t rest n.left (grind arith) n.stands in
    subst (λ es. Naming t (length c.args.members.now) es f.rest.now ms) (sym (ap (λ ps. put_named ps []) c.in_ok-push.ensures.items ∙ put_named_push c.members.named.items p []))
    (subst (λ k. Naming t (length c.args.members.now) (entries.put name_cmp k p (put_named c.members.named.items [])) f.rest.now ms) (sym c.of.ensures)
    (naming_more t (length c.args.members.now) (put_named c.members.named.items []) rest ms l.0 l.1.0 l.1.1.0 f p n l.1.1.1.0
    (c.first_member-first.ensures l.0 l.1.0 l.1.1.0 l.1.1.1.1) refl))

pub returns : goal.returns
returns c = λ ms h.
    let none : length c.members.rest.now ≡ 0 = grind arith in
    naming_over c.args.texts.now (length c.args.members.now) (put_named c.members.named.items []) c.members.rest.now ms none (c.members.invariant ms h)
