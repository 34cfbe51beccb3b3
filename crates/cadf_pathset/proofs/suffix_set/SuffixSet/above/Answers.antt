use Rattle.cadf_pathset.proofs.Common.{ap, arith, subst, sym, IsStrictlySortedBy, texts_cmp, texts_total, texts_same, rising_is_sorted, AreThere, IsThere}
use Rattle.cadf_join.specs.Sets as set
use Rattle.cadf_pathset.proofs.Halving.{drop_sorted}
use Rattle.cadf_pathset.proofs.Narrowed.{all_of_last, shown_count, shown_from}
use Rattle.cadf_pathset.proofs.suffix_set.SuffixSet.above.Goals as goal

pub split_at-requires : goal.split_at-requires
split_at-requires c = let all = shown_count c.self.inside.nodes.now c.self.inside.depth c.self.inside.numbers.now c.args.self.now c.self.invariant.1 c.self.view_is in omega (arith, all)

pub invariant_of-result : goal.invariant_of-result
invariant_of-result c =
    let s = c.self.inside in (
      subst (AreThere s.nodes.now) (sym c.split_at.ensures.back) (all_of_last (IsThere s.nodes.now) s.numbers.now c.args.number c.self.invariant.0),
      subst (IsStrictlySortedBy texts_cmp)
          (sym (shown_from s.nodes.now s.depth s.numbers.now c.args.self.now c.self.invariant.1 c.self.view_is c.args.number c.split_at.result.1.now c.split_at.ensures.back))
          (drop_sorted (set.rising c.args.self.now) c.args.number (rising_is_sorted texts_total texts_same c.args.self.now)),
    )

pub returns : goal.returns
returns c =
    let s = c.self.inside in
    ap set.from_list (shown_from s.nodes.now s.depth s.numbers.now c.args.self.now c.self.invariant.1 c.self.view_is c.args.number c.split_at.result.1.now c.split_at.ensures.back)
