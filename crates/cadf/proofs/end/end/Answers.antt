use Rattle.cadf.proofs.Common.{inl}
use Rattle.cadf.proofs.Accepted.{made_is_accepted}
use Rattle.cadf.proofs.end.end.Goals as goal

pub run-requires : goal.run-requires
run-requires g c = made_is_accepted _ c.in-Ok.request c.in-Ok.ensures

pub returns-in-Ok : goal.returns-in-Ok
returns-in-Ok g c = inl (c.in-Ok.request, c.in-Ok.ensures, c.run.ensures)
