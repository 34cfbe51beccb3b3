use Rattle.cadf_pathset.proofs.Common.{common_steps, ◌≡◌, arith, option_copied, next_after, heads, texts_total, texts_same, rising_is_sorted}
use Rattle.cadf_pathset.proofs.Behind.{least_at, next_is, text_at_bound}
use Rattle.cadf_pathset.proofs.suffix_set.SuffixSet.next_child.Goals.{in-Some, in-None}
use Rattle.cadf_pathset.proofs.suffix_set.SuffixSet.next_child.Goals as goal

pub returns : goal.returns
returns c =
    let sorted = rising_is_sorted texts_total texts_same c.args.self.now in
    elim c.match-text.branch as (λ _. option_copied c.text.result ≡ next_after (heads c.args.self.now) (option_copied c.args.text)) [
      | in-Some w ↦ grind (arith, common_steps, text_at_bound, next_is)
      | in-None w ↦ grind (arith, common_steps, least_at, next_is)
    ]
