use Rattle.cadf_rehearsal.proofs.Schedule.{sites_are_plain, sites_within_plain}
use Rattle.cadf_rehearsal.proofs.laws.rehearsal_equals_full_exchange.Goals as goal

pub returns : goal.returns
returns c = record { exact = sites_are_plain; within = sites_within_plain }
