use Rattle.cadf_evidence.proofs.Common.{◌≡◌, ◌++◌, map, drop, AllByRecursion, atom_digest, IsDigest}
use Rattle.cadf_evidence.proofs.key_list.KeyList.digests.Given as goal

abbrev pub invariant-loop-key : goal.invariant-loop-key
invariant-loop-key l = (l.digests.items ++ map atom_digest (drop l.key-index l.keys) ≡ map atom_digest l.keys) × AllByRecursion IsDigest l.digests.items
