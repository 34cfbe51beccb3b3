use Rattle.cadf_json.proofs.Common.{◌≡◌, ◌≤◌, ◌+◌, ◌-◌, take, length, Appends}
use Rattle.cadf_json.proofs.transfer.write_all.Given as goal

-- a prefix of the bytes was written, and no write failed
abbrev pub invariant-loop-done : goal.invariant-loop-done
invariant-loop-done g l =
    (l.done ≤ length l.bytes)
    × Appends (g.S.Sink.written l.fn.sink) (g.S.Sink.written l.sink) (take l.done l.bytes)
    × (g.S.Sink.writes l.sink ≤ g.S.Sink.writes l.fn.sink + l.done)
    × (g.S.Sink.failures l.sink ≡ g.S.Sink.failures l.fn.sink)

abbrev pub decreases-loop-done : goal.decreases-loop-done
decreases-loop-done g l = length l.bytes - l.done
