use Rattle.cadf_evidence.proofs.Common.{◌≡◌, ◌∙◌, sym, subst, arith, common_steps, rising, if_ok_then, AreRising, presence_parts, AreParts}
use Rattle.cadf_evidence.proofs.ProofForm.{presence_form, asked_rise}
use Rattle.cadf_evidence.proofs.SetsOfDigests.{digests_are_set}
use Rattle.cadf_evidence.proofs.made.presence_parts.Goals as goal

pub presence_of-requires-clause-digests : goal.presence_of-requires-clause-digests
presence_of-requires-clause-digests c = grind (arith, common_steps, digests_are_set)

pub presence_of-requires-clause-asked : goal.presence_of-requires-clause-asked
presence_of-requires-clause-asked c =
    let same : c.as_slice-2.result.now ≡ rising c.args.asked.now.digests = grind (arith, common_steps) in
    subst AreRising (sym same) (asked_rise c.args.asked.now.digests)

pub returns-clause-form : goal.returns-clause-form
returns-clause-form c =
    let held : c.as_slice.result.now ≡ rising c.args.held.now.digests = grind (arith, common_steps) in
    let form = presence_form c.tree_has_the_set.ensures c.args.held.now.digests c.as_slice-2.result.now c.type_invariant-2.ensures.digests in
    if_ok_then c.presence_of.result _ _ (λ ps e. subst AreParts (sym (e ∙ (λ i. presence_parts (held i) c.as_slice-2.result.now))) form) c.presence_of.ensures
