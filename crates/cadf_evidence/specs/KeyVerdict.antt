-- The result of reading the file of a list of keys, as a function of its bytes, of the limit and of whether a read failed.
--     key_in line              the key whose canonical text the line is
--     key_cause before line    what is wrong with a line after these lines
--     IsPutKey qs line rs         the line may follow, and rs are these keys with its own
--     keys_verdict             the log and the keys whose file the bytes are, or the first fault
use Rattle.std.specs.Prelude.{◌≡◌, ℕ, List, [], ◌∷◌, ◌++◌, map, length, ◌-◌, take, drop, nat_eq, Bool, true, ◌&&◌, if◌then◌else◌, Option, Some, None, is_some, option_and_then, option_map, unwrap_or, Result}
use Rattle.std.specs.List.{filter_map}
use Rattle.std.specs.Str.{bytes_eq}
use Rattle.cadf_event.specs.LogName.{name_of}
use Rattle.cadf_inventory.specs.InventoryVerdict.{cause_of_digest}
use Rattle.cadf_join.specs.Contents.{Text, Texts}
use Rattle.cadf_line.specs.AtomLine.{line}
use Rattle.cadf_line.specs.RulingTexts.{is_value_letter}
use Rattle.cadf_linefile.specs.declared.fault.Cause.{Cause}
use Rattle.cadf_linefile.specs.declared.fault.FileFault.{FileFault}
use Rattle.cadf_linefile.specs.ModelKind.{ModelKind, verdict_of, AcceptsModels}
use Rattle.cadf_linefile.specs.Verdict.{log_in_line}
use Rattle.cadf_evidence.specs.KeyList.{KeyListModel, keys_header, keys_body, IsKeyList}

-- ---- a line

-- the name whose canonical text comes before the closing bracket
unfoldable pub name_before_end : List ℕ → Option Text
name_before_end text = if bytes_eq (drop (length text - 1) text) (93 ∷ []) then name_of (take (length text - 1) text) else None

-- the letter of values that the byte is
abbrev pub letter_in : ℕ → Option Text
letter_in byte = if is_value_letter (byte ∷ []) then Some (byte ∷ []) else None

abbrev pub key_with : Option Text → Option Text → Option Texts
key_with letter name = option_and_then (λ l. option_map (λ n. l ∷ n ∷ []) name) letter

-- the letter is in quotation marks, after a bracket and before a comma
abbrev pub opens : ℕ → ℕ → ℕ → ℕ → Bool
opens a b c d = nat_eq a 91 && (nat_eq b 34 && (nat_eq c 34 && nat_eq d 44))

abbrev pub key_in : List ℕ → Option Texts
key_in (a ∷ b ∷ letter ∷ c ∷ d ∷ text) = if opens a b c d then key_with (letter_in letter) (name_before_end text) else None
key_in text = None

-- the line itself, if it is that of a key
abbrev pub key_line_in : List ℕ → Option Text
key_line_in text = if is_some (key_in text) then Some text else None

-- it is above the last line
unfoldable pub key_cause : List (List ℕ) → List ℕ → Option Cause
key_cause before text = cause_of_digest before (key_line_in text)

abbrev pub IsPutKey : List Texts → List ℕ → List Texts → Type 0
IsPutKey qs text rs = (key_cause (map line qs) text ≡ None) × ((q : Texts) × (key_in text ≡ Some q) × (rs ≡ qs ++ q ∷ []))

-- ---- the verdict

abbrev pub keys_of_lines : List (List ℕ) → List Texts
keys_of_lines lines = filter_map key_in lines

abbrev pub keys_model_in : List (List ℕ) → KeyListModel
keys_model_in (first ∷ log ∷ more) = record { log = unwrap_or (log_in_line log) []; keys = keys_of_lines more }
keys_model_in lines = record { log = []; keys = [] }

-- any number of keys may precede the digest line
abbrev pub keys_kind : ModelKind KeyListModel
keys_kind = record { header = keys_header; cause_after = key_cause; is_whole = λ _. true; body = keys_body; model_in = keys_model_in }

abbrev pub keys_verdict : ℕ → Bool → List ℕ → Result KeyListModel FileFault
keys_verdict = verdict_of keys_kind

-- bytes are accepted if and only if they are the file of a list, within the limit
abbrev pub AcceptsKeyLists : Type 0
AcceptsKeyLists = AcceptsModels keys_kind IsKeyList
