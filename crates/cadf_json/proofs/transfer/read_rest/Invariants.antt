use Rattle.cadf_json.proofs.Common.{◌≡◌, ◌≤◌, ◌+◌, ◌-◌, ◌++◌, ℕ, List, length, Consumes}
use Rattle.cadf_json.proofs.transfer.read_rest.Given as goal

-- each read gave a byte or more, none failed, and no byte past the first above the limit was read
abbrev pub invariant-pieces : goal.invariant-pieces
invariant-pieces g l =
    (read : List ℕ) × Consumes (g.S.Source.left l.fn.source) (g.S.Source.left l.source) read × (l.bytes.items ≡ l.fn.start.items ++ read)
    × (length read ≤ l.limit + 1 - length l.fn.start.items)
    × (g.S.Source.reads l.source ≤ g.S.Source.reads l.fn.source + length read) × (g.S.Source.failures l.source ≡ g.S.Source.failures l.fn.source)

abbrev pub decreases-pieces : goal.decreases-pieces
decreases-pieces g l = l.limit + 1 - length l.bytes.items
