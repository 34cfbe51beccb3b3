use Rattle.cadf_sketch.proofs.Common.{◌∙◌, ap, drop, length-drop, arith, w64, from_be_bytes, take_all}
use Rattle.cadf_sketch.proofs.sketch_lines.cell_of_bytes.Goals as goal

pub returns : goal.returns
returns c =
    let bytes = c.args.bytes.now in
    let check = c.from_be_bytes.ensures
    ∙ ap (from_be_bytes w64) (c.copy_from_slice-2.ensures.after ∙ take_all 8 (drop 32 bytes) (omega (arith, length-drop 32 bytes, c.told-bytes))) in
    λ i. record { digest = c.copy_from_slice.ensures.after i; check = check i }
