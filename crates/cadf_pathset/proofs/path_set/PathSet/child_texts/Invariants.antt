use Rattle.cadf_pathset.proofs.Common.{◌≡◌, ◌++◌, length, map, string_bytes, heads, texts_at, sections_from, suffixes_after}
use Rattle.cadf_join.specs.Sets as set
use Rattle.cadf_pathset.proofs.Several.{text_in}
use Rattle.cadf_pathset.proofs.path_set.PathSet.child_texts.Given as goal

abbrev pub invariant-loop-next : goal.invariant-loop-next
invariant-loop-next l =
    map string_bytes l.texts.items ++ map text_in (sections_from l.next) ≡ set.rising (heads (suffixes_after l.self (texts_at l.prefix)))

abbrev pub decreases-loop-next : goal.decreases-loop-next
decreases-loop-next l = length (sections_from l.next)
