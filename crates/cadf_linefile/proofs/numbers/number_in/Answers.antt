use Rattle.cadf_linefile.proofs.Common.{common_steps, ◌≡◌, ◌<◌, ◌^◌, ◌∙◌, ap, subst, arith, then_some, bytes_eq, ParsesUnsigned}
use Rattle.cadf_linefile.proofs.NumberLemmas.{number_not_text, number_not_parsed, number_read}
use Rattle.cadf_linefile.proofs.numbers.number_in.Goals as goal

pub returns-in_err-ok : goal.returns-in_err-ok
returns-in_err-ok c = grind (arith, common_steps, number_not_text)

pub returns-in_err-number : goal.returns-in_err-number
returns-in_err-number c = grind (arith, common_steps, number_not_parsed)

pub returns : goal.returns
returns c =
    let word = c.args.word.now in
    let n = c.in_ok-number.number in
    let text : c.in_ok-ok.field-0.now ≡ word = grind (arith, common_steps) in
    let small : n < 2 ^ 64 = grind (arith, common_steps) in
    c.then_some.ensures
    ∙ ap (λ b. then_some b n) (c.eq.ensures ∙ ap (bytes_eq word) (c.as_bytes.ensures.value ∙ c.format.ensures.text))
    ∙ number_read word c.parse.result (subst (λ t. ParsesUnsigned 64 10 t c.parse.result) text c.parse.ensures.value.0) n small c.in_ok-number.ensures.value
