-- A list of facts and keys of a log, and its file.
--     name mark d            the name of a fact or of a key: its mark, and its digest
--     fact_name, key_name    the names of the fact and of the key of a digest
--     list_over facts keys   the list of an inventory of facts and one of keys
--     facts_of l, keys_of l  the digests of the facts of a list, and of its keys, ascending
--     name_line n            the line of a name
--     list_body header l     the lines before the digest line: the version, the log, and the names in their order
--     list_file header l     the file of a list of the kind that has this first line
--     AreRisingDigests ds    each is a digest, and they rise
--     AreRisingNames ns      each is a mark and a digest, and they rise
--     IsListed l             the invariant of a list: a log with a name, and names that are a mark and a digest
use Rattle.std.specs.Prelude.{◌≡◌, ℕ, List, [], ◌∷◌, ◌++◌, map, codes, Bool, true, ◌||◌, nat_eq, cond, if◌then◌else◌, Option, Some, None, refl}
use Rattle.std.specs.Coded.{Coded, coded_ℕ, coded_list, coded×, code_by}
use Rattle.std.specs.List.{AllByRecursion, filter_map}
use Rattle.std.specs.List.Sorted.{IsStrictlySortedBy}
use Rattle.hex.specs.Hex.{encode_lower}
use Rattle.cadf_join.specs.Contents.{Text, text_cmp, text_set_code}
use Rattle.cadf_join.specs.Sets as set
use Rattle.cadf_event.specs.LogName.{is_name_text, is_unbroken}
use Rattle.cadf_line.specs.Digest.{IsDigest}
use Rattle.cadf_linefile.specs.Lines.{text_of_lines}
use Rattle.cadf_linefile.specs.Verdict.{log_line, with_digest_line}
use Rattle.cadf_set.specs.Inventory.{InventoryModel}

-- a set of names, in the order of their bytes
abbrev pub Names : Type 0
Names = set.FinSet text_cmp

pub record ListedModel : Type 0 where
  pub log : Text
  pub names : Names

abbrev pub coded_listed : Coded ListedModel
coded_listed =
    code_by (Text × Names) (coded× (coded_list coded_ℕ) text_set_code) (λ l. (l.log, l.names))
    (λ p. record { log = p.0; names = p.1 }) (λ _. refl)

-- the letter F before the digest of a fact, the letter K before that of a key
abbrev pub name : (mark : ℕ) → Text → Text
name mark d = mark ∷ d

abbrev pub fact_name : Text → Text
fact_name d = name 70 d

abbrev pub key_name : Text → Text
key_name d = name 75 d

abbrev pub is_mark : ℕ → Bool
is_mark mark = nat_eq mark 70 || nat_eq mark 75

-- ---- the facts and the keys

abbrev pub list_over : InventoryModel → InventoryModel → ListedModel
list_over facts keys =
    record { log = facts.log; names = set.from_list (map fact_name (set.rising facts.digests) ++ map key_name (set.rising keys.digests)) }

abbrev pub digest_with : ℕ → Text → Option Text
digest_with mark [] = None
digest_with mark (m ∷ d) = if nat_eq m mark then Some d else None

abbrev pub digests_with : ℕ → List Text → List Text
digests_with mark ns = filter_map (digest_with mark) ns

abbrev pub facts_of : ListedModel → List Text
facts_of l = digests_with 70 (set.rising l.names)

abbrev pub keys_of : ListedModel → List Text
keys_of l = digests_with 75 (set.rising l.names)

-- ---- the file

-- the mark itself, of a mark
abbrev pub mark_letter : ℕ → ℕ
mark_letter mark = cond (nat_eq mark 75) 75 70

abbrev pub name_line : Text → List ℕ
name_line [] = []
name_line (mark ∷ d) = mark_letter mark ∷ 32 ∷ encode_lower d

abbrev pub sealed_header : List ℕ
sealed_header = codes "CADF-SEALED 1"

abbrev pub erased_header : List ℕ
erased_header = codes "CADF-ERASED 1"

abbrev pub list_body : List ℕ → ListedModel → List (List ℕ)
list_body header l = header ∷ log_line l.log ∷ map name_line (set.rising l.names)

abbrev pub list_file : List ℕ → ListedModel → List ℕ
list_file header l = text_of_lines (with_digest_line (list_body header l))

-- ---- the invariant

abbrev pub IsName : Text → Type 0
IsName [] = ⊥
IsName (mark ∷ d) = (is_mark mark ≡ true) × IsDigest d

abbrev pub AreRisingDigests : List Text → Type 0
AreRisingDigests ds = AllByRecursion IsDigest ds × IsStrictlySortedBy text_cmp ds

abbrev pub AreRisingNames : List Text → Type 0
AreRisingNames ns = AllByRecursion IsName ns × IsStrictlySortedBy text_cmp ns

abbrev pub AreNames : Names → Type 0
AreNames s = (n : Text) → set.contains s n ≡ true → IsName n

pub record IsListed (l : ListedModel) : Type 0 where
  pub log : is_name_text l.log ≡ true
  pub names : AreNames l.names

-- lists of a kind with equal files are equal
abbrev pub ListFileIsInjective : Type 0
ListFileIsInjective = (header : List ℕ) → is_unbroken header ≡ true → (l m : ListedModel) → IsListed l → IsListed m
    → list_file header l ≡ list_file header m → l ≡ m
