-- How a source is read as a file of a kind each of which is the file of one model.
--     AnswersModel r verdict    the result is the verdict
--     ReadsModel k              what was read, and what it is
--     AreWhole k lines r        lines that were accepted are whole
--     IsModelOfLines k lines    the lines are those of the model
--     IsModelOfRead k lines     the model is that of the lines that were read
use Rattle.std.specs.Prelude.{◌≡◌, ◌⊎◌, ℕ, List, drop, Bool, true, false, Option, None, Result, Ok, Err}
use Rattle.std.specs.Io.KnownBytes.{Consumes, IsAtEnd}
use Rattle.cadf_json.specs.Streams.{counted}
use Rattle.cadf_linefile.specs.Answers.{UnlessMemory}
use Rattle.cadf_linefile.specs.declared.fault.FileFault.{FileFault}
use Rattle.cadf_linefile.specs.declared.fault.FileFault.TheVariants.{Trailing, ReadFault, Memory}
use Rattle.cadf_linefile.specs.ModelKind.{ModelKind, decided_of, verdict_of}

-- the result is the verdict
abbrev pub AnswersModel : {M : Type 0} → Result M FileFault → Result M FileFault → Type 0
AnswersModel (Ok model) verdict = verdict ≡ Ok model
AnswersModel (Err e) verdict = UnlessMemory (λ fault. verdict ≡ Err fault) e

-- Of a source that had `old` left to read and has `new`, some bytes were read, and at most one read failed. The result is the verdict on
-- them. Unless they decide a fault, the source was read to its end. A failed read is returned as such, except if bytes came after the
-- digest line.
pub record ReadsModel {M : Type 0} (k : ModelKind M) (limit : ℕ) (old new : Option (List ℕ)) (before after : ℕ) (answer : Result M FileFault)
    : Type 0 where
  pub failed : Bool
  pub bytes : List ℕ
  pub failures : after ≡ counted failed before
  pub consumed : Consumes old new bytes
  pub verdict : AnswersModel answer (verdict_of k limit failed bytes)
  pub failure : failed ≡ true → (answer ≡ Err ReadFault) ⊎ (answer ≡ Err Trailing)
  pub end : failed ≡ false → decided_of k limit bytes ≡ None → (answer ≡ Err Memory) ⊎ IsAtEnd new

-- what decoders of lines hold, by the lines that it encodes
module _ {M B : Type 0} (k : ModelKind M) (lines : B → List (List ℕ)) where
  -- lines that were accepted up to their digest line are whole
  abbrev pub AreWhole : Result B FileFault → Type 0
  AreWhole (Ok body) = k.is_whole (drop 2 (lines body)) ≡ true
  AreWhole (Err fault) = Unit {0}

  -- the lines are those of the model's file before its digest line
  abbrev pub IsModelOfLines : (M → Type 0) → B → M → Type 0
  IsModelOfLines Is body model = (lines body ≡ k.body model) × Is model

  -- the model is that of the lines; a fault is returned unchanged
  abbrev pub IsModelOfRead : (M → Type 0) → Result B FileFault → Result M FileFault → Type 0
  IsModelOfRead Is (Ok body) (Ok model) = IsModelOfLines Is body model
  IsModelOfRead Is (Ok body) (Err fault) = ⊥
  IsModelOfRead Is (Err fault) (Ok model) = ⊥
  IsModelOfRead Is (Err fault) (Err same) = same ≡ fault
