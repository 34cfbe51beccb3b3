use Rattle.cadf_tool.proofs.Common.{◌≡◌, length, get_or, arith, sym, ◌∙◌, ap, position_or_len_is, get_or_default, is_same}
use Rattle.cadf_tool.proofs.rehearse.place_of.Goals as goal

pub returns-then-are_same : goal.returns-then-are_same
returns-then-are_same c =
    let within = c.loop-place-test.true in
    let other : get_or c.args.sites.now c.loop-place.place c.args.site.now ≡ c.index-sites-place.result =
    get_or_default c.args.sites.now c.loop-place.place c.args.site.now c.index-sites-place.result within ∙ sym c.index-sites-place.is in
    sym (position_or_len_is (is_same c.args.site.now) c.args.sites.now c.loop-place.place c.args.site.now (omega (arith, within)) c.loop-place.invariant
    (λ h. ap (is_same c.args.site.now) other ∙ sym c.are_same.ensures ∙ c.if-are_same.true))

pub returns : goal.returns
returns c =
    sym (position_or_len_is (is_same c.args.site.now) c.args.sites.now (length c.args.sites.now) c.args.site.now (omega arith)
    (λ k h. c.loop-place.invariant k (omega arith)) (λ h. absurd (omega arith)))
