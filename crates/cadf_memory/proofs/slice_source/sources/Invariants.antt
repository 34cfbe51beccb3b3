use Rattle.cadf_memory.proofs.Common.{◌≡◌, ◌++◌, map, drop, slice_state, unread, bytes_in}
use Rattle.cadf_memory.proofs.slice_source.sources.Given as goal

-- a source of each input so far, and those to come
abbrev pub invariant-loop-input : goal.invariant-loop-input
invariant-loop-input l = map slice_state l.sources.items ++ map unread (bytes_in (drop l.input-index l.inputs)) ≡ map unread (bytes_in l.inputs)
