use Rattle.cadf_words.proofs.Common.{◌≡◌, false, take, fold, app_of, new_app, out-Command}
use Rattle.cadf_words.proofs.Rows.{with_word}
use Rattle.cadf_words.proofs.table.subcommand.Given as goal

-- the command has the words before the index
abbrev pub invariant-loop-word : goal.invariant-loop-word
invariant-loop-word l = (app_of l.command ≡ fold (with_word l.units) (new_app l.name) (take l.word-index l.words))
    × ((out-Command l.command).has_globals ≡ false)
