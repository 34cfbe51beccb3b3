use Rattle.cadf_rehearsal.proofs.Common.{◌≡◌, replicate}
use Rattle.cadf_join.specs.Sets as set
use Rattle.cadf_rehearsal.proofs.federation.Federation.new.Given as goal

abbrev pub invariant-loop : goal.invariant-loop
invariant-loop l = record {
  empty : l.sites.items ≡ replicate l.counter (record { log = l.log; atoms = set.empty });
}
