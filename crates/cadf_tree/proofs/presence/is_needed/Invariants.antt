use Rattle.cadf_tree.proofs.Common.{◌≡◌, drop, list_any, needs}
use Rattle.cadf_tree.proofs.presence.is_needed.Given as goal

abbrev pub invariant-loop-digest : goal.invariant-loop-digest
invariant-loop-digest l = list_any (needs l.before l.part l.after) l.digests ≡ list_any (needs l.before l.part l.after) (drop l.digest-index l.digests)
