use Rattle.cadf_siteseal.proofs.Common.{◌≡◌, ◌∙◌, ◌∷◌, drop, sym, ap, is_name_text, name_is, text_of_lines, log_line, with_digest_line, IsProof, ProofModel, proof_body, proof_header, own, part_proof}
use Rattle.cadf_siteseal.proofs.site_parts.part_proof.Goals as goal

pub of_lines-requires-clause-named : goal.of_lines-requires-clause-named
of_lines-requires-clause-named c = ap is_name_text c.in_ok-copy.ensures ∙ name_is c.args.log.now c.type_invariant.ensures

pub returns : goal.returns
returns c =
    let proof : ProofModel = part_proof c.args.log.now (own (drop c.args.from c.args.items.now)) in
    let is : IsProof proof =
    record { log = name_is c.args.log.now c.type_invariant.ensures; parts = record { facts = c.requires.1.facts; keys = c.requires.1.keys } } in
    let body : proof_body c.of_lines.result ≡ proof_body proof =
    sym c.of_lines.ensures.lines
    ∙ (λ i. proof_header ∷ log_line (c.in_ok-copy.ensures i) ∷ (c.in_ok-told.ensures.lines ∙ c.requires.0) i) in
    c.proof_file_is_injective.ensures c.of_lines.result proof c.of_lines.ensures.holds is (ap (λ ls. text_of_lines (with_digest_line ls)) body)
