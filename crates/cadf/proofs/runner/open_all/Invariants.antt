use Rattle.cadf.proofs.Common.{map, take, source_state, texts, AreOpened}
use Rattle.cadf.proofs.runner.open_all.Given as goal

-- the files before the index are opened
abbrev pub invariant-loop-name : goal.invariant-loop-name
invariant-loop-name g l = AreOpened (g.O.Opener.state l.initial.opener) (g.O.Opener.state l.opener) (texts (take l.name-index l.names))
    (map (source_state g.O.File.Source) l.files.items)
