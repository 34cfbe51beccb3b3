use Rattle.cadf_script.proofs.Turns.{no_turn_word}
use Rattle.cadf_script.proofs.line.read_turn.Goals as goal

pub returns-in-None : goal.returns-in-None
returns-in-None c = no_turn_word c.args.line.now c.in-Some.word.now c.in-Some.words.now c.in-Some.ensures c.in-None.ensures
