use Rattle.cadf_evidence.proofs.Common.{◌≡◌, ◌∙◌, Ok, Some, None, ap, arith, common_steps, map, not, is_some, rising, atom_digest, fact_digests, told, refusal, Fact}
use Rattle.cadf_evidence.proofs.AskedDigests.{refused, all_told, digests_around, digests_within}
use Rattle.cadf_evidence.proofs.verify.verified.Goals as goal

pub returns-in-Some-clause-err : goal.returns-in-Some-clause-err
returns-in-Some-clause-err c =
    let alone = not (is_some c.args.proof.now.keys) in
    let facts = c.args.facts.now.atoms in
    let is : refusal Fact c.args.seal.now.facts c.args.proof.now.facts alone (fact_digests facts) (map atom_digest (rising facts)) c.args.absent ≡ Some c.in-Some.fault =
    grind (arith, common_steps) in
    refused Fact c.args.seal.now.facts c.args.proof.now.facts alone (fact_digests facts) (rising facts) c.args.absent (digests_around facts) (digests_within facts)
    c.in-Some.fault is

pub returns-clause-ok : goal.returns-clause-ok
returns-clause-ok c =
    let alone = not (is_some c.args.proof.now.keys) in
    let facts = c.args.facts.now.atoms in
    let is : refusal Fact c.args.seal.now.facts c.args.proof.now.facts alone (fact_digests facts) (map atom_digest (rising facts)) c.args.absent ≡ None =
    grind (arith, common_steps) in
    let lines : told c.args.absent (rising facts) ≡ c.in_ok-told.field-0 = grind (arith, common_steps) in
    all_told Fact c.args.seal.now.facts c.args.proof.now.facts alone (fact_digests facts) (rising facts) c.args.absent (digests_around facts) (digests_within facts) is
    ∙ ap Ok lines
