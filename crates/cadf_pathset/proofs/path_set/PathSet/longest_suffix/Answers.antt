use Rattle.cadf_pathset.proofs.Common.{ap, ◌∙◌, Some, longest_of, texts_at}
use Rattle.cadf_join.specs.Sets as set
use Rattle.cadf_pathset.proofs.Behind.{rising_strip}
use Rattle.cadf_pathset.proofs.path_set.PathSet.longest_suffix.Goals as goal

pub returns-in_ok-to_strings-in-Some : goal.returns-in_ok-to_strings-in-Some
returns-in_ok-to_strings-in-Some c =
    ap Some c.in_ok-to_strings-in-Some.ensures ∙ c.in-Some.ensures
    ∙ ap longest_of (ap set.rising c.suffix_set-suffixes.ensures ∙ rising_strip (texts_at c.args.prefix.now) c.args.self.now)

pub returns-in-None : goal.returns-in-None
returns-in-None c =
    c.in-None.ensures ∙ ap longest_of (ap set.rising c.suffix_set-suffixes.ensures ∙ rising_strip (texts_at c.args.prefix.now) c.args.self.now)
