-- A list of keys that are asked for, and its file.
--     keys_body l           the lines before the digest line: the version, the log, and the keys' lines in their order
--     keys_file l           the file
--     IsKey q               a key: the letter of a kind of values, and a name
--     AreRisingKeys qs      each is a key, and their lines rise by bytes
--     IsKeyList l           the invariant of a list: a log with a name, and rising keys
use Rattle.std.specs.Prelude.{◌≡◌, ℕ, List, [], ◌∷◌, map, codes, true, refl}
use Rattle.std.specs.Coded.{Coded, coded_ℕ, coded_list, coded×, code_by}
use Rattle.std.specs.List.{AllByRecursion}
use Rattle.std.specs.List.Sorted.{IsStrictlySortedBy}
use Rattle.cadf_join.specs.Contents.{Text, Texts, text_cmp}
use Rattle.cadf_event.specs.LogName.{is_name_text}
use Rattle.cadf_line.specs.AtomLine.{line}
use Rattle.cadf_line.specs.RulingTexts.{is_value_letter}
use Rattle.cadf_linefile.specs.Lines.{text_of_lines}
use Rattle.cadf_linefile.specs.Verdict.{log_line, with_digest_line}

-- a key is a list of two texts, its letter and its name
pub record KeyListModel : Type 0 where
  pub log : Text
  pub keys : List Texts

abbrev pub coded_key : Coded Texts
coded_key = coded_list (coded_list coded_ℕ)

abbrev pub coded_keys : Coded KeyListModel
coded_keys =
    code_by (Text × List Texts) (coded× (coded_list coded_ℕ) (coded_list coded_key)) (λ l. (l.log, l.keys)) (λ p. record { log = p.0; keys = p.1 }) (λ _. refl)

-- ---- the file

abbrev pub keys_header : List ℕ
keys_header = codes "CADF-KEYS 1"

abbrev pub keys_body : KeyListModel → List (List ℕ)
keys_body l = keys_header ∷ log_line l.log ∷ map line l.keys

abbrev pub keys_file : KeyListModel → List ℕ
keys_file l = text_of_lines (with_digest_line (keys_body l))

-- ---- the invariant

abbrev pub IsKey : Texts → Type 0
IsKey (letter ∷ name ∷ []) = (is_value_letter letter ≡ true) × (is_name_text name ≡ true)
IsKey q = ⊥

abbrev pub AreRisingKeys : List Texts → Type 0
AreRisingKeys qs = AllByRecursion IsKey qs × IsStrictlySortedBy text_cmp (map line qs)

pub record IsKeyList (l : KeyListModel) : Type 0 where
  pub log : is_name_text l.log ≡ true
  pub keys : AreRisingKeys l.keys

-- lists with equal files are equal
abbrev pub KeysFileIsInjective : Type 0
KeysFileIsInjective = (l m : KeyListModel) → IsKeyList l → IsKeyList m → keys_file l ≡ keys_file m → l ≡ m
