use Rattle.cadf_listed.proofs.Common.{◌≡◌, ◌++◌, map, rising, name}
use Rattle.cadf_listed.proofs.listed.push_names.Given as goal

abbrev pub invariant-loop-digest : goal.invariant-loop-digest
invariant-loop-digest l = l.names.items ++ map (name l.mark) l.digest-iterator ≡ l.fn.names.items ++ map (name l.mark) (rising l.inventory.digests)
