-- The output of a request: a counted buffer, and its end.
--     buffer_of s            the buffer
--     bytes_of s             how many bytes were written to it, at most 2^64-1
--     EndsBuffer of s r      all of them were flushed, and r is a report if they are more than an input may have; or a write failed
use Rattle.std.specs.Prelude.{◌≡◌, ℕ, ◌^◌, List, [], Option, Result, IfOk}
use Rattle.std.specs.Global.{Global}
use Rattle.std.specs.Io.KnownBytes.{Keeps}
use Rattle.std.specs.Io.Buffered.{writer_buffer, writer_contents}
use Rattle.std.specs.declared.io.buffered.BufWriter.{BufWriter}
use Rattle.cadf_json.specs.Std.{std_inner}
use Rattle.cadf_json.specs.declared.stream.Failed.{Failed}
use Rattle.cadf_tool.specs.CountingSink.{counting_sink_inner, counting_sink_taken, report_of}
use Rattle.cadf_tool.specs.declared.counting_sink.OverLimit.{OverLimit}
use Rattle.cadf.specs.declared.output.CountedBuffer.{CountedBuffer}

abbrev pub buffer_of : {W : Type 0} → CountedBuffer W → BufWriter W Global
buffer_of s = std_inner (counting_sink_inner s.sink)

abbrev pub bytes_of : {W : Type 0} → CountedBuffer W → ℕ
bytes_of s = counting_sink_taken s.sink

abbrev pub EndsBuffer : {W : Type 0} → (W → Option (List ℕ)) → CountedBuffer W → Result (Option OverLimit) Failed → Type 0
EndsBuffer {W} of s r = IfOk r (λ report. (report ≡ report_of (bytes_of s) (2 ^ 30))
    × ((after : BufWriter W Global) × (writer_buffer after ≡ []) × Keeps (writer_contents of (buffer_of s)) (writer_contents of after)))
