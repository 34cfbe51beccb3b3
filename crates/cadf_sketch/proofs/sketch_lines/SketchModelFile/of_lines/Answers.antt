use Rattle.cadf_sketch.proofs.Common.{◌≡◌, true, subst, is_whole, told_lines, AreTold}
use Rattle.cadf_sketch.proofs.ToldLemmas.{parts_told}
use Rattle.cadf_sketch.proofs.sketch_lines.SketchModelFile.of_lines.Goals as goal

pub invariant_of-result : goal.invariant_of-result
invariant_of-result c =
    let told = c.in-Cells.is in
    parts_told c.args.name c.in-Cells.head c.in-Cells.tally c.in-Cells.cells.items (subst AreTold told c.requires.kept)
    (subst (λ t. is_whole (told_lines t) ≡ true) told c.requires.whole)

pub returns-clause-holds : goal.returns-clause-holds
returns-clause-holds c =
    let told = c.in-Cells.is in
    record {
      log = c.requires.named;
      parts = parts_told c.args.name c.in-Cells.head c.in-Cells.tally c.in-Cells.cells.items (subst AreTold told c.requires.kept)
          (subst (λ t. is_whole (told_lines t) ≡ true) told c.requires.whole);
    }
