use Rattle.cadf_evidence.proofs.Common.{◌≡◌, ◌∙◌, Ok, Some, None, subst, ap, arith, common_steps, map, length, nat_eq, rising, text_cmp, atom_digest, told, refusal, verdict_if, VerifyFaultIs, Key}
use Rattle.cadf_join.specs.Sets as set
use Rattle.cadf_evidence.proofs.AskedDigests.{refused, all_told, keys_around, keys_within}
use Rattle.cadf_evidence.proofs.verify.verified_keys.Goals as goal

pub returns-in-Some-2-clause-err : goal.returns-in-Some-2-clause-err
returns-in-Some-2-clause-err c =
    let alone = nat_eq (length c.args.proof.now.facts) 0 in
    let keys = c.args.keys.now.keys in
    let ds = map atom_digest keys in
    let ws = rising {R = text_cmp} (set.from_list ds) in
    let is : refusal Key c.args.seal.now.keys c.in-Some.parts.now alone ws ds c.args.absent ≡ Some c.in-Some-2.fault = grind (arith, common_steps) in
    subst (λ o. VerifyFaultIs c.in-Some-2.fault (verdict_if c.args.seal.now.keys o alone keys c.args.absent)) c.in-Some.ensures
    (refused Key c.args.seal.now.keys c.in-Some.parts.now alone ws keys c.args.absent (keys_around ds) (keys_within ds) c.in-Some-2.fault is)

pub returns-clause-ok : goal.returns-clause-ok
returns-clause-ok c =
    let alone = nat_eq (length c.args.proof.now.facts) 0 in
    let keys = c.args.keys.now.keys in
    let ds = map atom_digest keys in
    let ws = rising {R = text_cmp} (set.from_list ds) in
    let is : refusal Key c.args.seal.now.keys c.in-Some.parts.now alone ws ds c.args.absent ≡ None = grind (arith, common_steps) in
    let lines : told c.args.absent keys ≡ c.in_ok-told_keys.field-0 = grind (arith, common_steps) in
    subst (λ o. verdict_if c.args.seal.now.keys o alone keys c.args.absent ≡ Ok c.in_ok-told_keys.field-0) c.in-Some.ensures
    (all_told Key c.args.seal.now.keys c.in-Some.parts.now alone ws keys c.args.absent (keys_around ds) (keys_within ds) is ∙ ap Ok lines)
