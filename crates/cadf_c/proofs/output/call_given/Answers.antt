use Rattle.cadf_c.proofs.Common.{rules, sym, subst, w32, to_z-of_z, bytes_in, IsAsked, IsCall}
use Rattle.cadf_c.proofs.output.call_given.Goals as goal

pub returns-in-Err : goal.returns-in-Err
returns-in-Err c = λ asked given.
    subst (λ s. IsCall asked (bytes_in c.args.inputs.now) s c.args.output.now c.refuse.new.output c.refuse.new.length)
    (sym (to_z-of_z w32 c.refuse.result (search rules)))
    (c.refuse.ensures.told asked (bytes_in c.args.inputs.now) (subst (IsAsked asked) c.in-Err.is given))
