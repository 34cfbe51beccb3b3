-- A sink that counts its bytes, and the report of a limit exceeded.
use Rattle.std.specs.Prelude.{ℕ, ◌+◌, ◌-◌, ◌^◌, min, nat_lt, if◌then◌else◌, Option, Some, None, Result, Ok, Err}
use Rattle.cadf_tool.specs.declared.counting_sink.CountingSink.{CountingSink}
use Rattle.cadf_tool.specs.declared.counting_sink.OverLimit.{OverLimit}

abbrev pub counting_sink_inner : {W : Type 0} → CountingSink W → W
counting_sink_inner m = m.sink

abbrev pub counting_sink_taken : {W : Type 0} → CountingSink W → ℕ
counting_sink_taken m = m.taken

-- the count of bytes after a write, at most the greatest number of 64 bits
abbrev pub with_taken : {E : Type 0} → ℕ → Result ℕ E → ℕ
with_taken taken (Ok n) = min (taken + n) (2 ^ 64 - 1)
with_taken taken (Err e) = taken

-- the report that this many bytes were written, if they exceed the limit
abbrev pub report_of : ℕ → ℕ → Option OverLimit
report_of written limit = if nat_lt limit written then Some (record { written = written; limit = limit }) else None
