use Rattle.cadf_json.proofs.Common.{sym, ap, ◌∙◌, have_fraction}
use Rattle.cadf_json.proofs.Decoding.{decoded, fraction_is}
use Rattle.cadf_json.proofs.order.settle.Goals as goal

pub returns-then-has_fraction-clause-not_whole : goal.returns-then-has_fraction-clause-not_whole
returns-then-has_fraction-clause-not_whole c h d read =
    sym (fraction_is _ d _ (c.in_ok-put_in_order.ensures d read)) ∙ ap have_fraction (sym c.as_slice.ensures.value) ∙ sym c.has_fraction.ensures ∙ c.if-has_fraction.true

pub returns-clause-ok : goal.returns-clause-ok
returns-clause-ok c d read =
    let stands = c.in_ok-put_in_order.ensures d read in
    let whole = sym (fraction_is _ d _ stands) ∙ ap have_fraction (sym c.as_slice.ensures.value) ∙ sym c.has_fraction.ensures ∙ c.if-has_fraction.false in
    record { stands = stands; is_whole = whole; decodes = decoded _ d _ stands whole }
