use Rattle.cadf_pathset.proofs.Common.{◌∙◌, ap, subst, sym, IsStrictlySortedBy, suffixes_of, texts_cmp, texts_total, texts_same, rising_is_sorted}
use Rattle.cadf_join.specs.Sets as set
use Rattle.cadf_pathset.proofs.Behind.{rests_rise}
use Rattle.cadf_pathset.proofs.Narrowed.{section_between}
use Rattle.cadf_pathset.proofs.suffix_set.SuffixSet.section.Goals as goal

pub between-requires-clause-rising : goal.between-requires-clause-rising
between-requires-clause-rising c =
    subst (IsStrictlySortedBy texts_cmp) (sym (section_between c.args.text.now (set.rising c.args.self.now) _ _ c.gallop.ensures.below c.gallop.ensures.above
    c.binary_search-low.ensures.below c.binary_search-low.ensures.above))
    (rests_rise c.args.text.now (set.rising c.args.self.now) (rising_is_sorted texts_total texts_same c.args.self.now))

pub returns : goal.returns
unfolding suffixes_of
returns c =
    c.between.ensures
    ∙ ap set.from_list (section_between c.args.text.now (set.rising c.args.self.now) _ _ c.gallop.ensures.below c.gallop.ensures.above
    c.binary_search-low.ensures.below c.binary_search-low.ensures.above)
