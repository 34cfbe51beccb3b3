use Rattle.cadf_listed.proofs.Common.{◌∙◌, ◌++◌}
use Rattle.cadf_listed.proofs.MarkedNames.{line_of}
use Rattle.cadf_listed.proofs.lines.name_line.Goals as goal

pub returns : goal.returns
returns c =
    c.in_ok-extend_from_slice.ensures.items ∙ (λ i. c.in_ok-line.ensures.items i ++ (c.as_bytes.ensures.value ∙ c.in_ok-encode.ensures) i)
    ∙ line_of c.args.name.now c.mark_letter.result c.told-name c.mark_letter.ensures
