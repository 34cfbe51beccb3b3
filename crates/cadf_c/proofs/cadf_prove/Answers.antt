use Rattle.cadf_c.proofs.Common.{inl, refl, rules, sym, subst, ◌∷◌, Ok, w32, to_z-of_z, bytes_in, IsCall, proof_asked}
use Rattle.cadf_c.proofs.cadf_prove.Goals as goal

pub returns-in-Err : goal.returns-in-Err
returns-in-Err c =
    subst (λ s. IsCall (Ok (proof_asked c.args.keys)) (c.args.facts.now.bytes.now ∷ bytes_in c.args.inputs.now) s c.args.output.now c.refuse.new.output c.refuse.new.length)
    (sym (to_z-of_z w32 c.refuse.result (search rules))) (c.refuse.ensures.told _ _ (inl refl))
