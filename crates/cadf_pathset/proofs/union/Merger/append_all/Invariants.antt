use Rattle.cadf_pathset.proofs.Common.{◌≡◌, ◌≤◌, ◌++◌, ◌+◌, ◌-◌, ◌*◌, ◌/◌, length, take, drop, true, texts_cmp, IsMerging, sorted_merge, AreThere, lists_at, lists_ahead}
use Rattle.cadf_pathset.proofs.union.Merger.append_all.Given as goal

abbrev pub invariant-loop-more : goal.invariant-loop-more
invariant-loop-more l = record {
  kept : take (length l.fn.nodes) l.nodes ≡ l.fn.nodes;
  within : l.at ≤ length l.numbers;
  short : l.run ≤ 8;
  there : AreThere l.nodes l.all.items;
  front : IsMerging l.nodes l.self;
  lists : lists_at l.nodes l.all.items ++ sorted_merge texts_cmp true (lists_at l.fn.nodes (drop l.at l.numbers)) (lists_ahead l.more l.self.cursor)
      ≡ sorted_merge texts_cmp true (lists_at l.fn.nodes l.numbers) l.fn.self.cursor.1;
}

abbrev pub decreases-loop-more : goal.decreases-loop-more
decreases-loop-more l = 2 * ((length l.numbers - l.at) + length (lists_ahead l.more l.self.cursor)) + l.run / 8
