use Rattle.cadf_json.proofs.PlainRuns.{mask_of_stops}
use Rattle.cadf_json.proofs.plain_run.stops.Goals as goal

pub returns : goal.returns
returns c = mask_of_stops c.args.bytes c.fits-bytes.0
