use Rattle.cadf_json.proofs.Common.{◌≡◌, ◌++◌, [], ◌∷◌, false, IsUtf8, sym, ap, ◌∙◌, subst, arith, rules, string, object, members_text, without, replaced, texts_of, AreMembers}
use Rattle.cadf_json.proofs.Rewriting.{AreMembers-without, AreMembers-replaced}
use Rattle.cadf_json.proofs.TextBytes.{text_utf8}
use Rattle.cadf_json.proofs.Walking.{are_members_in}
use Rattle.cadf_json.proofs.view.View.rewritten_text.Goals as goal

pub from_utf8_unchecked-requires : goal.from_utf8_unchecked-requires
from_utf8_unchecked-requires c =
    let names = texts_of c.args.left_out.now in
    let own = subst AreMembers (sym c.members.ensures.members) (are_members_in c.args.self.now c.type_invariant.ensures) in
    let kept = AreMembers-without names c.members.result own in
    let ms = replaced c.args.name.now (string c.args.text.now) (without names c.members.result) in
    let whole = AreMembers-replaced c.args.name.now (string c.args.text.now) (without names c.members.result) c.utf8.text (omega arith) kept in
    let brace : c.push.new.self.items ≡ 123 ∷ [] = search rules in
    let spelled = c.in_ok-push_members.ensures ∙ ap (λ xs. xs ++ members_text false ms) brace in
    subst IsUtf8 (sym spelled) (text_utf8 (object ms) (whole.0, whole.1))
