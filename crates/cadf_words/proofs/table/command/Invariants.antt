use Rattle.cadf_words.proofs.Common.{◌≡◌, take, fold, app_of}
use Rattle.cadf_words.proofs.Rows.{before_commands, with_command}
use Rattle.cadf_words.proofs.table.command.Given as goal

-- the command line has the commands before the index
abbrev pub invariant-loop-name : goal.invariant-loop-name
invariant-loop-name l = app_of l.command ≡ fold (with_command l.units) before_commands (take l.name-index l.name-items)
