use Rattle.cadf_evidence.proofs.Common.{◌≡◌, sym, subst, arith, common_steps, rising, AreParts, IsSet, if_ok_then}
use Rattle.cadf_evidence.proofs.ProofForm.{growth_form}
use Rattle.cadf_evidence.proofs.SetsOfDigests.{digests_are_set}
use Rattle.cadf_evidence.proofs.made.growth_parts.Goals as goal

pub growth_of-requires-clause-later : goal.growth_of-requires-clause-later
growth_of-requires-clause-later c = grind (arith, common_steps, digests_are_set)

pub returns-clause-form : goal.returns-clause-form
returns-clause-form c =
    let old : c.as_slice.result.now ≡ c.args.earlier.items = grind (arith, common_steps) in
    let new : c.as_slice-2.result.now ≡ rising c.args.later.now.digests = grind (arith, common_steps) in
    if_ok_then c.growth_of.result _ _ (λ ps e. subst AreParts (sym e)
    (growth_form c.tree_has_the_set.ensures c.as_slice.result.now c.as_slice-2.result.now (subst IsSet (sym old) c.requires)
    (subst IsSet (sym new) (digests_are_set c.args.later.now.digests c.type_invariant.ensures.digests)))) c.growth_of.ensures
