use Rattle.cadf_json.proofs.Common.{common_steps, ◌≡◌, ◌-◌, ◌<◌, length, None, arith, value, after_end_array, value-begin_array, HaveUtf8}
use Rattle.cadf_json.proofs.Passing.{passing_start, passing_more, passing_over}
use Rattle.cadf_json.proofs.ReadValues.{rest_utf8}
use Rattle.cadf_json.proofs.Texts.{has_float-IsWhole}
use Rattle.cadf_json.proofs.Turns.{converted-array}
use Rattle.cadf_json.proofs.apart.pass_list.Goals as goal

pub items-init : goal.items-init
items-init g c =
    let utf8 : HaveUtf8 c.next.new.self = grind (arith, common_steps) in
    (passing_start g.T.ItemVisitor.took (value (c.args.depth - 1)) c.next.new.self c.begin.new.self c.begin.ensures, utf8)

pub items-preserved : goal.items-preserved
items-preserved g c =
    let took = g.T.ItemVisitor.took in
    let p = value (c.args.depth - 1) in
    let l = c.items in
    let going : (after_end_array l.reader ≡ None) × (c.take_end_array.new.self ≡ l.reader) = grind arith in
    let r = c.read_next.new.reader in
    let less : length r < length l.reader = rw (← going.1) c.in_ok-read_next.ensures.shorter in
    let read = rw going.1 at c.in_ok-read_next.ensures.ok in
    let item = c.read_next.new.self in (
      passing_more took p c.next.new.self l.taker c.take.new.self l.reader r item l.invariant.0 going.0 read
          (has_float-IsWhole item c.in_ok-read_next.ensures.value.0) less (grind (arith, common_steps)),
      rest_utf8 (c.args.depth - 1) l.reader r item l.invariant.1 read,
    )

pub returns-clause-ok : goal.returns-clause-ok
returns-clause-ok g c =
    let l = c.items in
    let ds = passing_over g.T.ItemVisitor.took (value (c.args.depth - 1)) c.next.new.self l.taker l.reader c.take_end_array.new.self l.invariant.0 (grind arith) in
    grind (arith, common_steps, value-begin_array, converted-array)
