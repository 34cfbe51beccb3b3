-- Kinds of files each of which is the file of one model.
--     grammar_of k            the grammar: the digest line may come once the lines after the log line are whole
--     file_of k m             the file of a model
--     decided_of k            the fault that the bytes decide by themselves, before the source ends
--     verdict_of k            the model whose file the bytes are, or the first fault
--     AcceptsModels k Is      bytes are accepted if and only if they are the file of a model, within the limit
--     IsInjective k Is        models with equal files are equal
use Rattle.std.specs.Prelude.{◌≡◌, ◌↔◌, ◌≤◌, ℕ, List, length, drop, Bool, false, if◌then◌else◌, Option, Some, None, Result, Ok, Err}
use Rattle.std.specs.Str.{bytes_eq}
use Rattle.cadf_linefile.specs.declared.fault.Cause.{Cause}
use Rattle.cadf_linefile.specs.declared.fault.Cause.TheVariants.{Unended}
use Rattle.cadf_linefile.specs.declared.fault.FileFault.{FileFault}
use Rattle.cadf_linefile.specs.LineGrammar.{LineGrammar}
use Rattle.cadf_linefile.specs.Lines.{text_of_lines}
use Rattle.cadf_linefile.specs.Verdict as frame
use Rattle.cadf_linefile.specs.Verdict.{begins_digest, with_digest_line}

--     header                    the first line
--     cause_after before line   what is wrong with the line, if `before` are the lines between it and the log line
--     is_whole lines            the digest line may follow these lines after the log line
--     body m                    the lines of a model's file before its digest line
--     model_in lines            the model of a file's lines
pub record ModelKind (M : Type 0) : Type 0 where
  pub header : List ℕ
  pub cause_after : List (List ℕ) → List ℕ → Option Cause
  pub is_whole : List (List ℕ) → Bool
  pub body : M → List (List ℕ)
  pub model_in : List (List ℕ) → M

abbrev pub cause_of_end : Bool → Option Cause
cause_of_end whole = if whole then None else Some Unended

module _ {M : Type 0} (k : ModelKind M) where
  abbrev pub grammar_of : LineGrammar
  grammar_of = record {
    is_first = λ line. bytes_eq line k.header;
    cause_of_previous = λ before line. if begins_digest line then cause_of_end (k.is_whole (drop 2 before)) else None;
    cause_of = λ before line. k.cause_after (drop 2 before) line;
  }

  abbrev pub file_of : M → List ℕ
  file_of m = text_of_lines (with_digest_line (k.body m))

  abbrev pub decided_of : ℕ → List ℕ → Option FileFault
  decided_of limit bytes = frame.decided grammar_of limit bytes

  abbrev pub model_or_fault : Result (List (List ℕ)) FileFault → Result M FileFault
  model_or_fault (Ok lines) = Ok (k.model_in lines)
  model_or_fault (Err fault) = Err fault

  abbrev pub verdict_of : ℕ → Bool → List ℕ → Result M FileFault
  verdict_of limit failed bytes = model_or_fault (frame.verdict grammar_of limit failed bytes)

  -- ---- laws

  abbrev pub AcceptsModels : (M → Type 0) → Type 0
  AcceptsModels Is = (limit : ℕ) (bytes : List ℕ) (m : M) →
      (verdict_of limit false bytes ≡ Ok m) ↔ ((bytes ≡ file_of m) × (length bytes ≤ limit) × Is m)

  abbrev pub IsInjective : (M → Type 0) → Type 0
  IsInjective Is = (m n : M) → Is m → Is n → file_of m ≡ file_of n → m ≡ n
