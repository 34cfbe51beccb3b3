use Rattle.cadf_split.proofs.ShownDays.{body_shown}
use Rattle.cadf_split.proofs.WindowOrder.{names_as_keys, earlier}
use Rattle.cadf_split.proofs.laws.windows_are_in_order_of_time.Goals as goal

pub returns : goal.returns
returns c = record { shown = body_shown; names = names_as_keys; time = earlier }
