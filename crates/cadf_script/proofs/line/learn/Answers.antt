use Rattle.cadf_script.proofs.Turns.{no_learn_text}
use Rattle.cadf_script.proofs.line.learn.Goals as goal

pub returns-in-None : goal.returns-in-None
returns-in-None c = no_learn_text c.args.words.now c.in-Some.text.now c.in-Some.site c.in-Some.ensures (rw c.in-None.is at c.in_ok-document.ensures)
