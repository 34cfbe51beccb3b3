-- The result of reading the file of a list, as a function of its bytes, of the limit and of whether a read failed.
--     name_in line            the name that the line encodes
--     list_cause names l      what is wrong with a line after the lines of these names
--     IsPut ns line ms        the line may follow, and ms are these names with its own
--     list_verdict            the log and the names whose file the bytes are, or the first fault
use Rattle.std.specs.Prelude.{◌≡◌, ℕ, List, [], ◌∷◌, ◌++◌, nat_eq, ◌&&◌}
use Rattle.std.specs.Prelude.{Bool, true, if◌then◌else◌, Option, Some, None, unwrap_or, option_map, Result}
use Rattle.std.specs.List.{filter_map}
use Rattle.cadf_event.specs.LogName.{is_unbroken}
use Rattle.cadf_join.specs.Contents.{Text}
use Rattle.cadf_join.specs.Sets as set
use Rattle.cadf_linefile.specs.declared.fault.Cause.{Cause}
use Rattle.cadf_linefile.specs.declared.fault.FileFault.{FileFault}
use Rattle.cadf_linefile.specs.ModelKind.{ModelKind, verdict_of, AcceptsModels}
use Rattle.cadf_linefile.specs.Verdict.{log_in_line}
use Rattle.cadf_inventory.specs.InventoryVerdict.{digest_of, cause_of_digest}
use Rattle.cadf_listed.specs.ListFile.{ListedModel, name, is_mark, list_body, IsListed}

-- a mark, a space, and 32 bytes as 64 lower-case hexadecimal digits
abbrev pub name_in : List ℕ → Option Text
name_in (mark ∷ blank ∷ text) = if is_mark mark && nat_eq blank 32 then option_map (name mark) (digest_of text) else None
name_in line = None

-- the names of those lines that encode one
abbrev pub names_in : List (List ℕ) → List Text
names_in lines = filter_map name_in lines

-- each is above the last one
unfoldable pub list_cause : List Text → List ℕ → Option Cause
list_cause names line = cause_of_digest names (name_in line)

abbrev pub IsPut : List Text → List ℕ → List Text → Type 0
IsPut ns line ms = (list_cause ns line ≡ None) × ((n : Text) × (name_in line ≡ Some n) × (ms ≡ ns ++ n ∷ []))

abbrev pub list_model_in : List (List ℕ) → ListedModel
list_model_in (first ∷ log ∷ more) = record { log = unwrap_or (log_in_line log) []; names = set.from_list (names_in more) }
list_model_in lines = record { log = []; names = set.empty }

-- after its first line and its log line, the file has the lines of names, of which any number may precede the digest line
abbrev pub list_kind : List ℕ → ModelKind ListedModel
list_kind header = record {
  header = header;
  cause_after = λ before line. list_cause (names_in before) line;
  is_whole = λ lines. true;
  body = list_body header;
  model_in = list_model_in;
}

abbrev pub list_verdict : List ℕ → ℕ → Bool → List ℕ → Result ListedModel FileFault
list_verdict header = verdict_of (list_kind header)

-- bytes are accepted if and only if they are the file of a list, within the limit
abbrev pub AcceptsLists : Type 0
AcceptsLists = (header : List ℕ) → is_unbroken header ≡ true → AcceptsModels (list_kind header) IsListed
