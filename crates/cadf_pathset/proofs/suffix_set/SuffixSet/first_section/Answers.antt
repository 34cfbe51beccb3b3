use Rattle.cadf_pathset.proofs.Common.{common_steps, ◌∷◌, ◌∙◌, ap, arith, sym, option_copied, sections_of}
use Rattle.cadf_pathset.proofs.FirstSections.{none_passed, part_rises, sections_are, sections-none}
use Rattle.cadf_pathset.proofs.suffix_set.SuffixSet.first_section.Goals as goal

pub returns-in_err-text : goal.returns-in_err-text
returns-in_err-text c = grind (arith, common_steps, sections-none)

pub gallop-high-requires-clause-below : goal.gallop-high-requires-clause-below
gallop-high-requires-clause-below c =
    let n = c.first-number.ensures in
    none_passed c.in_ok-text.text.now c.args.self.now c.first-number.result n.few n.empty (sym c.text.ensures ∙ ap option_copied c.in_ok-text.was)

pub between-requires-clause-rising : goal.between-requires-clause-rising
between-requires-clause-rising c =
    let n = c.first-number.ensures in
    let g = c.gallop-high.ensures in
    part_rises c.in_ok-text.text.now c.args.self.now c.first-number.result n.few n.empty (sym c.text.ensures ∙ ap option_copied c.in_ok-text.was)
    c.gallop-high.result g.from g.below g.above

pub returns : goal.returns
returns c =
    let n = c.first-number.ensures in
    let g = c.gallop-high.ensures in
    (λ j. (c.in_ok-text.text.now, c.between.ensures j) ∷ sections_of (c.above.ensures j))
    ∙ sections_are c.in_ok-text.text.now c.args.self.now c.first-number.result n.few n.empty (sym c.text.ensures ∙ ap option_copied c.in_ok-text.was)
    c.gallop-high.result g.from g.below g.above
