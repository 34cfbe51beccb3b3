use Rattle.cadf_split.proofs.Common.{key, part_keys, subst, Listed}
use Rattle.cadf_split.proofs.CarrierKeys.{key_of_carrier}
use Rattle.cadf_split.proofs.PartMembers.{part_has, parts_apart, parts_together, key_listed, listed_key, part_key, part_grounded}
use Rattle.cadf_split.proofs.laws.parts_are_the_set.Goals as goal

pub returns : goal.returns
returns c = record {
  disjoint = λ unit. parts_apart (key unit);
  together = λ unit. parts_together (key unit);
  not_empty = λ unit k s. (
    λ l. listed_key (key unit) s k l,
    λ h. subst (λ x. Listed x (part_keys unit s)) (part_key (key unit) k s h.0 h.1) (key_listed (key unit) s h.0 (part_has (key unit) k s h.0 h.1)),
  );
  grounded = λ unit. part_grounded (key unit) (key_of_carrier unit);
  replica = λ unit k s h. record {
    grounded = part_grounded (key unit) (key_of_carrier unit) k s h.grounded;
    are_atoms = λ q g. h.are_atoms q (part_has (key unit) k s q g);
  };
}
