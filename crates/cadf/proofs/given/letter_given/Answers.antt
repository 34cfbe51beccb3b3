use Rattle.cadf.proofs.Words.{letter_read, no_letter}
use Rattle.cadf.proofs.given.letter_given.Goals as goal

pub returns-in-Ok : goal.returns-in-Ok
returns-in-Ok c = letter_read c.in-Ok.letter c.args.word.now _ c.in-Ok.ensures.value c.check_letter.ensures.accepts c.check_letter.ensures.ok c.check_letter.ensures.err

pub returns-in-Err : goal.returns-in-Err
returns-in-Err c = no_letter c.args.word.now c.in-Err.ensures.value
