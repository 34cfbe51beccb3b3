use Rattle.cadf_evidence.proofs.Common.{◌≡◌, drop, option_map, first_unlisted}
use Rattle.cadf_evidence.proofs.growth.gone_fault.Given as goal

abbrev pub invariant-loop-part : goal.invariant-loop-part
invariant-loop-part l =
    first_unlisted l.set (option_map (λ x. x.now) l.list) (drop l.part-index l.parts) ≡ first_unlisted l.set (option_map (λ x. x.now) l.list) l.parts
