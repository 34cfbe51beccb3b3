-- What a buffer holds.
use Rattle.std.specs.Prelude.{ℕ, List}
use Rattle.cadf_memory.specs.declared.buffer.Buffer.{Buffer}

-- that of the reference to the caller's bytes
abbrev pub buffer_name : Buffer → ℕ
buffer_name b = b.output.ghost_name

-- what the caller's bytes were before anything was written
abbrev pub buffer_before : Buffer → List ℕ
buffer_before b = b.before.items

-- all that was written, with what is only counted
abbrev pub buffer_text : Buffer → List ℕ
buffer_text b = b.text.items
