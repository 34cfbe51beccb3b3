use Rattle.cadf_siteseal.proofs.Common.{◌≡◌, ◌∙◌, ◌∷◌, [], ◌++◌, sym, ap, codes, is_name_text, name_is, text_of_lines, log_line, with_digest_line, IsSeal, SealModel, digest_line, number_line, seal_body, seal_header, seal_lines}
use Rattle.cadf_evidence.specs.SealLines.{told_lines}
use Rattle.cadf_siteseal.proofs.site_parts.seal_with.Goals as goal

pub of_lines-requires-clause-named : goal.of_lines-requires-clause-named
of_lines-requires-clause-named c = ap is_name_text c.in_ok-copy.ensures ∙ name_is c.args.log.now c.type_invariant.ensures

pub returns : goal.returns
returns c =
    let r = c.args.facts.now in
    let k = c.args.keys.now in
    let seal : SealModel = record { log = c.args.log.now; facts = r; keys = k } in
    let is : IsSeal seal = record { log = name_is c.args.log.now c.type_invariant.ensures; facts = c.requires.facts; keys = c.requires.keys } in
    let one : told_lines c.put.new.told ≡ number_line (codes "N ") r.count ∷ [] =
    c.in_ok-put.ensures.0 ∙ (λ i. c.nothing-told.ensures.lines i ++ (c.as_slice.ensures.value ∙ c.in_ok-count.ensures) i ∷ []) in
    let two : told_lines c.put-2.new.told ≡ number_line (codes "N ") r.count ∷ digest_line (codes "R ") r.hash ∷ [] =
    c.in_ok-put-2.ensures.0 ∙ (λ i. one i ++ (c.as_slice-2.ensures.value ∙ c.in_ok-hash.ensures) i ∷ []) in
    let three : told_lines c.put-3.new.told ≡ number_line (codes "N ") r.count ∷ digest_line (codes "R ") r.hash ∷ number_line (codes "M ") k.count ∷ [] =
    c.in_ok-put-3.ensures.0 ∙ (λ i. two i ++ (c.as_slice-3.ensures.value ∙ c.in_ok-key_count.ensures) i ∷ []) in
    let four : told_lines c.put-4.new.told ≡ seal_lines seal =
    c.in_ok-put-4.ensures.0 ∙ (λ i. three i ++ (c.as_slice-4.ensures.value ∙ c.in_ok-key_hash.ensures) i ∷ []) in
    let body : seal_body c.of_lines.result ≡ seal_body seal =
    sym c.of_lines.ensures.lines ∙ (λ i. seal_header ∷ log_line (c.in_ok-copy.ensures i) ∷ four i) in
    c.seal_file_is_injective.ensures c.of_lines.result seal c.of_lines.ensures.holds is (ap (λ ls. text_of_lines (with_digest_line ls)) body)
