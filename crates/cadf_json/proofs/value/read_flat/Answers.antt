use Rattle.cadf_json.proofs.Common.{◌≡◌, [], Some, Err, IsUtf8, sym, ap, ◌∙◌, arith, rules, tokens, has_float, NotWhole}
use Rattle.cadf_json.proofs.Decoding.{flat_value}
use Rattle.cadf_json.proofs.Settling.{from_none}
use Rattle.cadf_json.proofs.Spelled.{spelled_is_value}
use Rattle.cadf_json.proofs.Whole.{text_read}
use Rattle.cadf_json.proofs.value.read_flat.Goals as goal

pub settle-requires : goal.settle-requires
settle-requires c =
    let got = c.in_ok-rising.ensures.ok in
    let empty : c.reserve-2.new.self.items ≡ [] = search rules in
    (got.0, from_none c.in_ok-rising.rising got.0 empty got.1.1)

pub returns-in_err-settle-clause-not_whole : goal.returns-in_err-settle-clause-not_whole
returns-in_err-settle-clause-not_whole c h =
    let bytes = c.args.bytes.now in
    let same : c.in-Ok.text.now ≡ bytes = search rules in
    let utf8 : IsUtf8 bytes = search rules in
    let empty : c.reserve-2.new.self.items ≡ [] = search rules in
    let got = c.in_ok-rising.ensures.ok in
    let none : c.read_value.new.reader ≡ [] = grind arith in
    let whole = text_read bytes got.0 _ _ (c.in_ok-reader.ensures.ok ∙ ap tokens same) got.1.0 none in
    let failed : Err c.in_err-settle.field-0.0 ≡ Err NotWhole = search rules in
    (got.0, utf8, whole, c.in_err-settle.ensures.not_whole failed got.0 (from_none c.in_ok-rising.rising got.0 empty got.1.1))

pub returns-clause-ok : goal.returns-clause-ok
returns-clause-ok c =
    let bytes = c.args.bytes.now in
    let same : c.in-Ok.text.now ≡ bytes = search rules in
    let utf8 : IsUtf8 bytes = search rules in
    let empty : c.reserve-2.new.self.items ≡ [] = search rules in
    let got = c.in_ok-rising.ensures.ok in
    let none : c.read_value.new.reader ≡ [] = grind arith in
    let whole = text_read bytes got.0 _ _ (c.in_ok-reader.ensures.ok ∙ ap tokens same) got.1.0 none in
    let s = c.in_ok-settle.ensures.ok got.0 (from_none c.in_ok-rising.rising got.0 empty got.1.1) in
    let is = c.of.ensures ∙ s.decodes in
    (utf8, whole ∙ ap Some (sym is), ap has_float is ∙ s.is_whole)

pub of-requires : goal.of-requires
of-requires c =
    let bytes = c.args.bytes.now in
    let same : c.in-Ok.text.now ≡ bytes = search rules in
    let utf8 : IsUtf8 bytes = search rules in
    let empty : c.reserve-2.new.self.items ≡ [] = search rules in
    let got = c.in_ok-rising.ensures.ok in
    let none : c.read_value.new.reader ≡ [] = grind arith in
    let whole = text_read bytes got.0 _ _ (c.in_ok-reader.ensures.ok ∙ ap tokens same) got.1.0 none in
    let s = c.in_ok-settle.ensures.ok got.0 (from_none c.in_ok-rising.rising got.0 empty got.1.1) in
    flat_value _ got.0 _ s (spelled_is_value bytes got.0 (utf8, whole, s.is_whole))
