-- Bytes in memory that are read.
use Rattle.std.specs.Prelude.{ℕ, List, map, Some}
use Rattle.cadf_tool.specs.Inputs.{SourceState}
use Rattle.cadf_memory.specs.declared.slice_source.CadfBytes.{CadfBytes}
use Rattle.cadf_memory.specs.declared.slice_source.SliceSource.{SliceSource}

-- the bytes of each
abbrev pub bytes_in : List CadfBytes → List (List ℕ)
bytes_in inputs = map (λ (i : CadfBytes). i.bytes.now) inputs

-- a source that has these bytes left, and was not read
abbrev pub unread : List ℕ → SourceState
unread bytes = record { left = Some bytes; failures = 0; reads = 0 }

-- a source of bytes in memory; no read of it fails
abbrev pub slice_state : SliceSource → SourceState
slice_state s = record { left = Some s.left.now; failures = 0; reads = s.reads }
