use Rattle.cadf_evidence.proofs.Common.{◌≡◌, ◌+◌, drop, first_fault}
use Rattle.cadf_evidence.proofs.verify.first_fault.Given as goal

abbrev pub invariant-loop-index : goal.invariant-loop-index
invariant-loop-index l = first_fault l.asked l.absent l.parts (l.index + 1) (drop l.index l.digests) ≡ first_fault l.asked l.absent l.parts 1 l.digests
