use Rattle.cadf_json.proofs.Common.{arith, length-take, length-drop, common_steps, nat_tests}
use Rattle.cadf_json.proofs.Known.{appends_more, take_further}
use Rattle.cadf_json.proofs.transfer.write_all.Goals as goal

pub loop-done-preserved : goal.loop-done-preserved
loop-done-preserved g c = grind (arith, common_steps, length-take, length-drop, take_further, appends_more, nat_tests)
