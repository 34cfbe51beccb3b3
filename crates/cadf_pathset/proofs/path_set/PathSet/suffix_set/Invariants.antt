use Rattle.cadf_pathset.proofs.Common.{◌≡◌, drop, texts_at, suffixes_after}
use Rattle.cadf_pathset.proofs.path_set.PathSet.suffix_set.Given as goal

abbrev pub invariant-loop-text : goal.invariant-loop-text
invariant-loop-text l = suffixes_after l.suffixes (texts_at (drop l.text-index l.prefix)) ≡ suffixes_after l.self (texts_at l.prefix)
