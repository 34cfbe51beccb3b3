use Rattle.cadf_siteseal.proofs.Common.{◌∙◌, ◌+◌, ◌++◌, Ok, drop, sym, ap, subst, option_map, both_texts, grown_text, item_text, IsPartProof}
use Rattle.cadf_siteseal.proofs.JudgedParts.{next_said}
use Rattle.cadf_siteseal.proofs.PartProofs.{rest_is}
use Rattle.cadf_siteseal.proofs.judged.grown_text.Goals as goal

pub item_text-requires : goal.item_text-requires
item_text-requires c =
    let next = c.loop-index.index + 1 in
    subst (λ xs. IsPartProof (drop next xs)) (sym c.items-items.ensures)
    (rest_is c.args.growth.now.unit _ c.args.growth.now.items next c.type_invariant.ensures.items)

pub loop-index-preserved : goal.loop-index-preserved
loop-index-preserved c =
    let a = c.args.earlier.now in
    let b = c.args.later.now in
    let list = option_map (λ x. x.now) c.args.list in
    let items = c.items-items.result.now in
    let rest = drop (c.loop-index.index + 1) items in
    ap (λ s. both_texts (Ok s) (grown_text a b list rest))
    (c.in_ok-extend_from_slice.ensures.items ∙ ap (λ s. c.loop-index.text.items ++ s) c.as_slice.ensures.value)
    ∙ next_said a b list items c.loop-index.index c.index-items-index.result c.loop-index.text.items c.in_ok-part.part.items c.loop-index-test.true
    ((λ i. item_text a b list (sym c.index-items-index.is i) rest) ∙ c.in_ok-part.ensures.ok)
    ∙ c.loop-index.invariant
