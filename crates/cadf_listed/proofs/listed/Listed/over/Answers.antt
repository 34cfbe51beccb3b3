use Rattle.cadf_listed.proofs.Common.{◌∙◌, ◌++◌, ap, map, sym, subst, rising, AreRisingNames, fact_name, key_name}
use Rattle.cadf_listed.proofs.MarkedNames.{names_over}
use Rattle.cadf_listed.proofs.listed.Listed.over.Goals as goal

pub invariant_of-result : goal.invariant_of-result
invariant_of-result g c =
    let facts = c.args.facts.now.digests in
    let keys = c.args.keys.now.digests in
    let first = c.in_ok-push_names.ensures ∙ ap (λ ns. ns ++ map fact_name (rising facts)) c.in_ok-names.ensures.items in
    subst AreRisingNames (sym (c.in_ok-push_names-2.ensures ∙ ap (λ ns. ns ++ map key_name (rising keys)) first))
    (names_over facts keys c.type_invariant.ensures.digests c.type_invariant-2.ensures.digests)
