use Rattle.cadf_json.proofs.Common.{common_steps, ◌≡◌, [], ◌∷◌, length, Some, IsUtf8, sym, ap, ◌∙◌, arith, rules, Token, tokens, parse_map, members, value, value-begin_object, object, of_json, converted, emptied_in}
use Rattle.cadf_json.proofs.Decoding.{flat_value}
use Rattle.cadf_json.proofs.Settling.{from_none}
use Rattle.cadf_json.proofs.Spelled.{spelled_is_value}
use Rattle.cadf_json.proofs.TakenApart.{float_in, value_in}
use Rattle.cadf_json.proofs.TokenTexts.{tokens_utf8}
use Rattle.cadf_json.proofs.Turns.{converted-object, whole_read}
use Rattle.cadf_json.proofs.apart.read_flat_apart.Goals as goal

pub pass_members-requires-clause-utf8 : goal.pass_members-requires-clause-utf8
pass_members-requires-clause-utf8 g c = grind (arith, common_steps, tokens_utf8)

pub settle-requires : goal.settle-requires
settle-requires g c = grind (arith, common_steps, from_none)

pub returns : goal.returns
returns g c =
    let bytes = c.args.bytes.now in
    let same : c.in-Ok.text.now ≡ bytes = search rules in
    let utf8 : IsUtf8 bytes = search rules in
    let rest = c.next.new.self in
    let got = c.in_ok-rising.ensures in
    let ms = got.0 in
    let begins : tokens bytes ≡ Token.begin_object ∷ rest = search rules in
    let none : c.pass_members.new.reader ≡ [] = search rules in
    let opened = ap (converted of_json) (ap (value 127) begins ∙ value-begin_object 127 rest (omega arith))
    ∙ converted-object (members (value 126) (length rest) rest) in
    let whole = opened ∙ ap (parse_map object) got.1.0 ∙ ap (λ r. Some (object ms, r)) none in
    let e = object (emptied_in c.args.name.now ms) in
    let s = c.in_ok-settle.ensures.ok e (from_none c.in_ok-rising.rising e c.requires got.1.2) in
    (ms, ((utf8, whole_read (value 127 (tokens bytes)) (object ms) whole, sym (float_in c.args.name.now ms) ∙ s.is_whole), c.of.ensures ∙ s.decodes, got.1.1))

pub of-requires : goal.of-requires
of-requires g c =
    let bytes = c.args.bytes.now in
    let same : c.in-Ok.text.now ≡ bytes = search rules in
    let utf8 : IsUtf8 bytes = search rules in
    let name = c.args.name.now in
    let rest = c.next.new.self in
    let got = c.in_ok-rising.ensures in
    let ms = got.0 in
    let begins : tokens bytes ≡ Token.begin_object ∷ rest = search rules in
    let none : c.pass_members.new.reader ≡ [] = search rules in
    let opened = ap (converted of_json) (ap (value 127) begins ∙ value-begin_object 127 rest (omega arith))
    ∙ converted-object (members (value 126) (length rest) rest) in
    let whole = whole_read (value 127 (tokens bytes)) (object ms) (opened ∙ ap (parse_map object) got.1.0 ∙ ap (λ r. Some (object ms, r)) none) in
    let e = object (emptied_in name ms) in
    let s = c.in_ok-settle.ensures.ok e (from_none c.in_ok-rising.rising e c.requires got.1.2) in
    let no_float = sym (float_in name ms) ∙ s.is_whole in
    flat_value _ e _ s (value_in name ms (spelled_is_value bytes (object ms) (utf8, whole, no_float)) no_float)
