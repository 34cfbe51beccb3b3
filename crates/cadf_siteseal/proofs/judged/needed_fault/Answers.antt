use Rattle.cadf_siteseal.proofs.Common.{◌≡◌, ◌∙◌, lacking_name, least, shown_fault, spare_name}
use Rattle.cadf_siteseal.proofs.judged.needed_fault.Goals as goal

pub returns : goal.returns
returns c =
    let lacking : c.in_ok-lacking.lacking ≡ least (lacking_name c.args.later.now.items c.args.growth.now.items) c.args.earlier.now.items =
    c.in_ok-lacking.ensures ∙ (λ i. least (lacking_name (c.items-2.ensures i) (c.items-3.ensures i)) (c.items.ensures i)) in
    let spare : c.in_ok-spare.spare ≡ least (spare_name c.args.earlier.now.items c.args.later.now.items) c.args.growth.now.items =
    c.in_ok-spare.ensures ∙ (λ i. least (spare_name (c.items-4.ensures i) (c.items-5.ensures i)) (c.items-6.ensures i)) in
    c.shown_fault.ensures ∙ (λ i. shown_fault (c.items-7.ensures i) (lacking i) (spare i))
