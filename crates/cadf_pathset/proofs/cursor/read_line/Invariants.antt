use Rattle.cadf_pathset.proofs.Common.{◌≡◌, ◌-◌, length, take, texts_at, place}
use Rattle.cadf_pathset.proofs.cursor.read_line.Given as goal

abbrev pub invariant-loop-path : goal.invariant-loop-path
invariant-loop-path l = texts_at l.path.items ≡ take (length l.path.items) (place l.nodes l.line)

abbrev pub decreases-loop-path : goal.decreases-loop-path
decreases-loop-path l = length l.line - length l.path.items
