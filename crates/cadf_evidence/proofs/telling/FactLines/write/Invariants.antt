use Rattle.cadf_evidence.proofs.Common.{◌≡◌, ◌++◌, ◌+◌, drop, alike_text, told_text}
use Rattle.cadf_evidence.proofs.AlikeLines.{IsLeft}
use Rattle.cadf_evidence.proofs.telling.FactLines.write.Given as goal

-- the lines from this one on are left to write
abbrev pub invariant-loop-alike : goal.invariant-loop-alike
invariant-loop-alike g l =
    IsLeft (g.S.Sink.written l.fn.sink) (g.S.Sink.written l.sink) (told_text l.lines) (told_text (drop l.alike-index l.lines))
    × (g.S.Sink.failures l.sink ≡ g.S.Sink.failures l.fn.sink)

-- those of these from this digest on, and the lines after them
abbrev pub invariant-loop-digest : goal.invariant-loop-digest
invariant-loop-digest g l =
    IsLeft (g.S.Sink.written l.fn.sink) (g.S.Sink.written l.sink) (told_text l.lines)
    (alike_text l.alike.head.items (drop l.digest-index l.alike.digests.items) ++ told_text (drop (l.alike-index + 1) l.lines))
    × (g.S.Sink.failures l.sink ≡ g.S.Sink.failures l.fn.sink)
