use Rattle.cadf_rehearsal.proofs.Common.{◌≡◌, length, reverse, take, Ok, atom_digest, after, world_of, IsOneLog}
use Rattle.cadf_rehearsal.proofs.federation.rehearse.Given as goal

abbrev pub invariant-loop-i : goal.invariant-loop-i
invariant-loop-i l = record {
  count : length l.federation.sites.items ≡ l.sites;
  one_log : IsOneLog l.log l.federation;
  so_far : after atom_digest l.log l.sites (reverse (take l.i l.turns)) ≡ Ok (world_of l.federation);
}
