use Rattle.cadf_c.proofs.Names.{spelled, spells_none}
use Rattle.cadf_c.proofs.arguments.name_of_bytes.Goals as goal

pub returns-in-Ok : goal.returns-in-Ok
returns-in-Ok c =
    spelled c.args.bytes.now c.args.refusal c.read_name.result c.in-Ok.text.now c.in-Ok.ensures.cases.0 c.in-Ok.ensures.cases.1 c.read_name.ensures.ok
    c.read_name.ensures.named c.read_name.ensures.err

pub returns-in-Err : goal.returns-in-Err
returns-in-Err c = spells_none c.args.bytes.now c.args.refusal c.in-Err.ensures.cases.0
