use Rattle.cadf_pathset.proofs.Common.{ap, sym, ◌∙◌, sections_from}
use Rattle.cadf_pathset.proofs.FirstSections.{several, not_several}
use Rattle.cadf_pathset.proofs.suffix_set.SuffixSet.has_multiple.Goals as goal

pub returns-in-Some : goal.returns-in-Some
returns-in-Some c =
    c.is_some.ensures
    ∙ several c.args.self.now c.in-Some.first c.first_section-in-Some.result (sym (ap sections_from c.in-Some.is) ∙ c.first_section.ensures)
    c.first_section-in-Some.ensures

pub returns-in-None : goal.returns-in-None
returns-in-None c = not_several c.args.self.now (sym (ap sections_from c.in-None.is) ∙ c.first_section.ensures)
