-- The result of reading a sketch file, as a function of its bytes, of the limit and of whether a read failed.
--     numbers_in k text         k + 1 numbers of 64 bits, separated by one space
--     head_in, tally_in, cell_in   the value that the line encodes, if it is such a line
--     cause_after before line   what is wrong with the line, if `before` are the lines between it and the log line
--     is_whole lines            these lines, which follow the log line, include all cells
--     sketch_decided            the fault that the bytes decide by themselves, before the source ends
--     sketch_verdict            the sketch whose file the bytes are, or the first fault
use Rattle.std.specs.Prelude.{◌+◌, ◌*◌, ◌^◌, ◌==◌, ℕ, zero, suc, nat_eq, nat_lt, List, [], ◌∷◌, length, take, drop, codes, decimal}
use Rattle.std.specs.Prelude.{Bool, false, ◌&&◌, is_some, if◌then◌else◌, Option, Some, None, option_map, unwrap_or, Result}
use Rattle.std.specs.Int.{w64, from_be_bytes}
use Rattle.std.specs.List.{filter_map, starts_with, position_or_len}
use Rattle.std.specs.Str.{bytes_eq}
use Rattle.std.specs.Str.Parse.{digits_value}
use Rattle.hex.specs.Hex.{decode_sized}
use Rattle.cadf_join.specs.Contents.{Text}
use Rattle.cadf_linefile.specs.declared.fault.Cause.{Cause}
use Rattle.cadf_linefile.specs.declared.fault.Cause.TheVariants.{Shape}
use Rattle.cadf_linefile.specs.declared.fault.FileFault.{FileFault}
use Rattle.cadf_linefile.specs.LineGrammar.{LineGrammar, shape_unless}
use Rattle.cadf_linefile.specs.ModelKind.{ModelKind, grammar_of, decided_of, verdict_of}
use Rattle.cadf_linefile.specs.Numbers.{number_in, first_word, words_after}
use Rattle.cadf_linefile.specs.Verdict.{log_in_line}
use Rattle.cadf_inventory.specs.InventoryVerdict.{if_spelled, digest_of}
use Rattle.cadf_sketch.specs.Layouts.{LayoutModel, layout_of}
use Rattle.cadf_sketch.specs.Sketches.{SketchModel}
use Rattle.cadf_sketch.specs.SketchFile.{sketch_header, sketch_body}
use Rattle.cadf_sketch.specs.declared.cell.Cell.{Cell}
use Rattle.cadf_sketch.specs.declared.layout.Head.{Head}
use Rattle.cadf_sketch.specs.declared.tally.Tally.{Tally}

-- ---- numbers

abbrev pub put_before : Option ℕ → Option (List ℕ) → Option (List ℕ)
put_before None ns = None
put_before (Some n) None = None
put_before (Some n) (Some ns) = Some (n ∷ ns)

abbrev pub numbers_in : ℕ → List ℕ → Option (List ℕ)
numbers_in zero text = put_before (number_in text) (Some [])
numbers_in (suc k) text = put_before (number_in (first_word text)) (numbers_in k (words_after text))

-- ---- lines

abbrev pub laid_out : Option ℕ → Option ℕ → Option LayoutModel
laid_out None salt = None
laid_out (Some cells) None = None
laid_out (Some cells) (Some salt) = layout_of cells salt

abbrev pub headed : Option LayoutModel → Option Text → Option Head
headed None digest = None
headed (Some layout) None = None
headed (Some layout) (Some digest) = Some (record { layout = layout; digest = digest })

unfoldable pub head_in_words : List ℕ → Option Head
head_in_words text = headed (laid_out (number_in (first_word text)) (number_in (first_word (words_after text)))) (digest_of (words_after (words_after text)))

abbrev pub head_in : List ℕ → Option Head
head_in line = if starts_with nat_eq line (codes "S ") then head_in_words (drop 2 line) else None

abbrev pub tally_in_numbers : Option (List ℕ) → Option Tally
tally_in_numbers None = None
tally_in_numbers (Some []) = None
tally_in_numbers (Some (n ∷ ns)) = Some (record { digests = n; ones = ns })

unfoldable pub counts_in_words : List ℕ → Option Tally
counts_in_words text = tally_in_numbers (numbers_in 64 text)

abbrev pub tally_in : List ℕ → Option Tally
tally_in line = if starts_with nat_eq line (codes "C ") then counts_in_words (drop 2 line) else None

abbrev pub cell_of_bytes : List ℕ → Cell
cell_of_bytes bytes = record { digest = take 32 bytes; check = from_be_bytes w64 (drop 32 bytes) }

unfoldable pub cell_in : List ℕ → Option Cell
cell_in line = option_map cell_of_bytes (if_spelled line (decode_sized line 40))

-- ---- the grammar

-- the number of cells that the head line states
abbrev pub cells_of_head : Option Head → ℕ
cells_of_head None = 0
cells_of_head (Some h) = 3 * h.layout.size

-- the cause at the line of a cell, if `before` cells of `all` precede it
abbrev pub cause_of_cell : ℕ → ℕ → List ℕ → Option Cause
cause_of_cell before all line = shape_unless (nat_lt before all && is_some (cell_in line))

abbrev pub cause_after : List (List ℕ) → List ℕ → Option Cause
cause_after [] line = shape_unless (is_some (head_in line))
cause_after (head ∷ []) line = shape_unless (is_some (tally_in line))
cause_after (head ∷ counts ∷ cells) line = cause_of_cell (length cells) (cells_of_head (head_in head)) line

abbrev pub is_whole : List (List ℕ) → Bool
is_whole [] = false
is_whole (head ∷ []) = false
is_whole (head ∷ counts ∷ cells) = nat_eq (length cells) (cells_of_head (head_in head))

-- ---- the sketch of a file's lines

abbrev pub no_head : Head
no_head = record { layout = record { size = 0; salt = 0 }; digest = [] }

abbrev pub no_tally : Tally
no_tally = record { digests = 0; ones = [] }

abbrev pub sketch_of_parts : Text → Head → Tally → List Cell → SketchModel
sketch_of_parts log head tally cells = record { log = log; layout = head.layout; digest = head.digest; tally = tally; cells = cells }

abbrev pub sketch_model_in : List (List ℕ) → SketchModel
sketch_model_in (first ∷ log ∷ head ∷ counts ∷ cells) =
    sketch_of_parts (unwrap_or (log_in_line log) []) (unwrap_or (head_in head) no_head) (unwrap_or (tally_in counts) no_tally) (filter_map cell_in cells)
sketch_model_in lines = sketch_of_parts [] no_head no_tally []

-- ---- the verdict

-- the digest line follows the last cell
abbrev pub sketch_kind : ModelKind SketchModel
sketch_kind =
    record { header = sketch_header; cause_after = cause_after; is_whole = is_whole; body = sketch_body; model_in = sketch_model_in }

abbrev pub sketch_grammar : LineGrammar
sketch_grammar = grammar_of sketch_kind

abbrev pub sketch_decided : ℕ → List ℕ → Option FileFault
sketch_decided = decided_of sketch_kind

abbrev pub sketch_verdict : ℕ → Bool → List ℕ → Result SketchModel FileFault
sketch_verdict = verdict_of sketch_kind
