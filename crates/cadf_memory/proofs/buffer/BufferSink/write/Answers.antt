use Rattle.cadf_memory.proofs.Common.{arith}
use Rattle.cadf_memory.proofs.Stored.{stores}
use Rattle.cadf_memory.proofs.buffer.BufferSink.write.Goals as goal

pub invariant_of-self-2-clause-fits : goal.invariant_of-self-2-clause-fits
invariant_of-self-2-clause-fits c =
    let told = c.args.self.now.told in
    let more = c.in-Some.ensures in
    let start = c.min-start.ensures in
    let end = c.min-end.ensures in
    rw (c.copy_from_slice.ensures.after, c.then-self.ensures)
    (stores c.args.self.now.text.items c.args.self.now.before.items c.args.bytes.now c.args.self.now.output.now c.min-start.result c.min-end.result
    c.args.self.now.fits (λ h. omega arith) (λ h. omega arith) (λ h. omega arith) (λ h. omega arith))
