use Rattle.cadf_sketch.proofs.Common.{◌∙◌, ap, atom_digest, missing_by, missing_by_is, inventory_digest, sketch_of}
use Rattle.cadf_sketch.proofs.DigestLemmas.{same_inventory}
use Rattle.cadf_sketch.proofs.laws.read_is_what_was_sketched.Goals as goal

pub returns-clause-inventory : goal.returns-clause-inventory
unfolding sketch_of inventory_digest
returns-clause-inventory c = λ layout n m sent found share same. same_inventory m n found sent share same

pub returns-clause-missing : goal.returns-clause-missing
unfolding sketch_of inventory_digest
returns-clause-missing c = λ layout n m digest a b sent found share same are apart.
    ap (λ i. missing_by digest a i.digests) (same_inventory m n found sent share same) ∙ ap (missing_by digest a) are ∙ missing_by_is digest a b apart

pub returns-clause-answer : goal.returns-clause-answer
unfolding sketch_of inventory_digest
returns-clause-answer c = λ n layout held part answer sent share.
    answer.missing
    ∙ ap (λ i. record { log = held.log; atoms = missing_by atom_digest held.atoms i.digests })
    (same_inventory answer.theirs n answer.inventory sent share answer.digest)
