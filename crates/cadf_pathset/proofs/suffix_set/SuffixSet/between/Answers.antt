use Rattle.cadf_pathset.proofs.Common.{ap, arith, subst, sym, IsStrictlySortedBy, texts_cmp}
use Rattle.cadf_join.specs.Sets as set
use Rattle.cadf_pathset.proofs.Narrowed.{between_view, left_there, shown, shown_count}
use Rattle.cadf_pathset.proofs.suffix_set.SuffixSet.between.Goals as goal

pub split_at-requires : goal.split_at-requires
split_at-requires c = let all = shown_count c.self.inside.nodes.now c.self.inside.depth c.self.inside.numbers.now c.args.self.now c.self.invariant.1 c.self.view_is in omega (arith, all)

pub invariant_of-result : goal.invariant_of-result
invariant_of-result c =
    let s = c.self.inside in
    let all = shown s.nodes.now s.depth s.numbers.now c.args.self.now c.self.invariant.1 c.self.view_is in (
      left_there s.nodes.now s.depth s.numbers.now (set.rising c.args.self.now) all c.args.high c.split_at.result.0.now c.split_at.ensures.front c.self.invariant.0
          c.next_depth.result c.args.low c.split_at-2.result.1.now c.split_at-2.ensures.back c.next_depth.ensures,
      subst (IsStrictlySortedBy texts_cmp) (sym (between_view s.nodes.now s.depth s.numbers.now (set.rising c.args.self.now) all c.args.high c.split_at.result.0.now
          c.split_at.ensures.front c.self.invariant.0 c.next_depth.result c.args.low c.split_at-2.result.1.now c.split_at-2.ensures.back c.next_depth.ensures))
          c.requires.rising,
    )

pub returns : goal.returns
returns c =
    let s = c.self.inside in
    ap set.from_list (between_view s.nodes.now s.depth s.numbers.now (set.rising c.args.self.now)
    (shown s.nodes.now s.depth s.numbers.now c.args.self.now c.self.invariant.1 c.self.view_is) c.args.high c.split_at.result.0.now
    c.split_at.ensures.front c.self.invariant.0 c.next_depth.result c.args.low c.split_at-2.result.1.now c.split_at-2.ensures.back c.next_depth.ensures)
