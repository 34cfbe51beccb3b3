use Rattle.cadf_memory.proofs.Common.{map, sym, subst, IsAnswered, accepted, answered, unread}
use Rattle.cadf_memory.proofs.laws.engines_make_files.Goals as goal

pub returns-clause-made : goal.returns-clause-made
returns-clause-made c q inputs text m =
    subst (IsAnswered q (map unread inputs)) (sym m.told) (answered q (map unread inputs) m.after m.value m.made m.are m.worked)

pub returns-clause-accepted : goal.returns-clause-accepted
returns-clause-accepted c q inputs text m = accepted q (map unread inputs) m.after m.value m.are
