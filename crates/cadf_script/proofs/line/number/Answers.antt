use Rattle.cadf_script.proofs.Common.{common_steps, ◌≡◌, ◌∙◌, None, Ok, sym, subst, arith, IsUtf8, result_ok, ParsesUnsigned}
use Rattle.cadf_script.proofs.Numbers.{not_plain, not_text, is_number, not_number}
use Rattle.cadf_script.proofs.line.number.Goals as goal

pub returns-then-not-is_plain : goal.returns-then-not-is_plain
returns-then-not-is_plain c = not_plain c.args.word.now (sym c.is_plain.ensures ∙ c.if-not-is_plain.true)

pub returns-in_err-ok : goal.returns-in_err-ok
returns-in_err-ok c =
    let none : ¬ IsUtf8 c.args.word.now = grind (arith, common_steps) in
    rw c.from_residual.ensures (not_text c.args.word.now none)

pub returns-in_err-number : goal.returns-in_err-number
returns-in_err-number c =
    let text : c.in_ok-ok.field-0.now ≡ c.args.word.now = grind (arith, common_steps) in
    let none : None ≡ result_ok c.parse.result = grind (arith, common_steps) in
    rw c.from_residual-in_err-number.ensures (not_number c.args.word.now c.parse.result none
    (subst (λ t. ParsesUnsigned 32 10 t c.parse.result) text c.parse.ensures.value.0))

pub returns : goal.returns
returns c =
    let text : c.in_ok-ok.field-0.now ≡ c.args.word.now = grind (arith, common_steps) in
    let is : c.parse.result ≡ Ok c.in_ok-number.number = grind (arith, common_steps) in
    is_number c.args.word.now c.parse.result c.in_ok-number.number is (sym c.is_plain.ensures ∙ c.if-not-is_plain.false)
    (subst (λ t. ParsesUnsigned 32 10 t c.parse.result) text c.parse.ensures.value.0)
