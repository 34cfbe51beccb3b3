use Rattle.cadf_tool.proofs.Common.{◌≡◌, ◌++◌, drop, string_bytes, lines_from}
use Rattle.cadf_tool.proofs.rehearse.lines.Given as goal

-- the lines so far, with those of the other sites, are all lines
abbrev pub invariant-loop-i : goal.invariant-loop-i
invariant-loop-i l = string_bytes l.text ++ lines_from l.sites l.i-counter (drop l.i-counter l.sites) ≡ lines_from l.sites 0 l.sites
