use Rattle.cadf_json.proofs.Common.{common_steps, ◌≡◌, ◌∙◌, ℕ, ◌++◌, length, take, ap, arith, rules, append_assoc, length-append, length-take}
use Rattle.cadf_json.proofs.Known.{consumes_more}
use Rattle.cadf_json.proofs.transfer.read_rest.Goals as goal

pub pieces-preserved : goal.pieces-preserved
pieces-preserved g c =
    let before = c.pieces.invariant in
    let piece = take c.in-Ok.count c.read.new.buffer in
    let grown : c.extend_from_slice.new.self.items ≡ c.pieces.bytes.items ++ piece = search rules in
    let bound = c.in-Ok.ensures.bound in (
      before.0 ++ piece,
      consumes_more _ _ _ before.0 piece before.1 c.in-Ok.ensures.bytes.0,
      grown ∙ (ap (λ b. b ++ piece) before.2 ∙ append_assoc c.args.start.items before.0 piece),
      omega (arith, before.3, ap length before.2, length-append {A = ℕ}, length-take {A = ℕ}, bound.0, bound.1),
      omega (arith, before.4, length-append {A = ℕ}, length-take {A = ℕ}, bound.0, c.in-Ok.ensures.reads),
      c.in-Ok.ensures.failures ∙ before.5,
    )

pub returns-then-is_err-clause-memory : goal.returns-then-is_err-clause-memory
returns-then-is_err-clause-memory g c =
    let before = c.pieces.invariant in
    let piece = take c.in-Ok.count c.read.new.buffer in
    let bound = c.in-Ok.ensures.bound in
    λ _. (
      before.0 ++ piece,
      consumes_more _ _ _ before.0 piece before.1 c.in-Ok.ensures.bytes.0,
      omega (arith, before.3, ap length before.2, length-append {A = ℕ}, length-take {A = ℕ}, bound.0, bound.1),
    )

pub returns-in-Ok-eq0-clause-failures : goal.returns-in-Ok-eq0-clause-failures
returns-in-Ok-eq0-clause-failures g c = grind (arith, common_steps)

pub returns-in-Err-clause-read_fault : goal.returns-in-Err-clause-read_fault
returns-in-Err-clause-read_fault g c = grind (arith, common_steps)

pub returns-in-Err-clause-failures : goal.returns-in-Err-clause-failures
returns-in-Err-clause-failures g c = grind (arith, common_steps)

pub returns-then-is_err-clause-failures : goal.returns-then-is_err-clause-failures
returns-then-is_err-clause-failures g c = grind (arith, common_steps)

pub returns-clause-too_large : goal.returns-clause-too_large
returns-clause-too_large g c = grind (arith, common_steps)

pub returns-clause-failures : goal.returns-clause-failures
returns-clause-failures g c = grind (arith, common_steps)

pub returns-in-Ok-eq0-clause-reads : goal.returns-in-Ok-eq0-clause-reads
returns-in-Ok-eq0-clause-reads g c = grind (arith, common_steps)

pub returns-in-Err-clause-reads : goal.returns-in-Err-clause-reads
returns-in-Err-clause-reads g c = grind (arith, common_steps)

pub returns-then-is_err-clause-reads : goal.returns-then-is_err-clause-reads
returns-then-is_err-clause-reads g c = grind (arith, common_steps)

pub returns-clause-reads : goal.returns-clause-reads
returns-clause-reads g c = grind (arith, common_steps)
