-- The result of reading a seal file, as a function of its bytes, of the limit and of whether a read failed.
--     cause_after before line   what is wrong with the line, if `before` are the lines between it and the log line
--     seal_verdict              the seal whose file the bytes are, or the first fault
use Rattle.std.specs.Prelude.{ℕ, nat_eq, List, [], ◌∷◌, length, codes, Bool, is_some, Option, Some, unwrap_or, Result}
use Rattle.cadf_linefile.specs.declared.fault.Cause.{Cause}
use Rattle.cadf_linefile.specs.declared.fault.Cause.TheVariants.{Shape}
use Rattle.cadf_linefile.specs.declared.fault.FileFault.{FileFault}
use Rattle.cadf_linefile.specs.LineGrammar.{shape_unless}
use Rattle.cadf_linefile.specs.Verdict.{log_in_line}
use Rattle.cadf_linefile.specs.ModelKind.{ModelKind, verdict_of}
use Rattle.cadf_tree.specs.declared.tree.Root.{Root}
use Rattle.cadf_evidence.specs.Marked.{number_after, digest_after}
use Rattle.cadf_evidence.specs.SealFile.{SealModel, seal_header, seal_body}

-- ---- the grammar

abbrev pub cause_after : List (List ℕ) → List ℕ → Option Cause
cause_after [] line = shape_unless (is_some (number_after (codes "N ") line))
cause_after (a ∷ []) line = shape_unless (is_some (digest_after (codes "R ") line))
cause_after (a ∷ b ∷ []) line = shape_unless (is_some (number_after (codes "M ") line))
cause_after (a ∷ b ∷ c ∷ []) line = shape_unless (is_some (digest_after (codes "S ") line))
cause_after (a ∷ b ∷ c ∷ d ∷ more) line = Some Shape

abbrev pub is_whole : List (List ℕ) → Bool
is_whole lines = nat_eq (length lines) 4

-- ---- the seal of a file's lines

abbrev pub root_in : List ℕ → List ℕ → List ℕ → List ℕ → Root
root_in n count r hash = record { count = unwrap_or (number_after n count) 0; hash = unwrap_or (digest_after r hash) [] }

abbrev pub seal_model_in : List (List ℕ) → SealModel
seal_model_in (first ∷ log ∷ a ∷ b ∷ c ∷ d ∷ more) =
    record { log = unwrap_or (log_in_line log) []; facts = root_in (codes "N ") a (codes "R ") b; keys = root_in (codes "M ") c (codes "S ") d }
seal_model_in lines = record { log = []; facts = record { count = 0; hash = [] }; keys = record { count = 0; hash = [] } }

-- ---- the verdict

-- the digest line follows the second root
abbrev pub seal_kind : ModelKind SealModel
seal_kind = record { header = seal_header; cause_after = cause_after; is_whole = is_whole; body = seal_body; model_in = seal_model_in }

abbrev pub seal_verdict : ℕ → Bool → List ℕ → Result SealModel FileFault
seal_verdict = verdict_of seal_kind
