use Rattle.cadf_script.proofs.Common.{no_bytes_fault_each}
use Rattle.cadf_script.proofs.line.document_of.Goals as goal

pub returns-in_default : goal.returns-in_default
returns-in_default c doc h =
    no_bytes_fault_each c.args.text.now doc c.in-Err.fault c.in_default.not-Memory h c.in-Err.ensures
