-- Files of a log by a unit of time: the line of the unit, and then the lines of items, each of which may follow those before it.
--     ItemKind I S        a kind of such files
--     unit_line, unit_in  the line of a unit, and the unit that a line encodes
--     items_in k unit ls  the items that the lines encode
--     state_after k s is  what is kept of the items, if s was kept before them
--     item_cause k s o    what is wrong with the item of a line after those of which s is kept. None: it is no such line
--     site_kind k         the kind of file, of a model with a log, a unit and items
--     AllFollow k Is ..   each item is as Is says, and may follow those before it
--     IsSite k Is m       the invariant of such a model
use Rattle.std.specs.Prelude.{◌≡◌, ℕ, zero, suc, List, [], ◌∷◌, ◌++◌, map, codes, Bool, true, false, is_some, if◌then◌else◌, Option, Some, None, unwrap_or, refl}
use Rattle.std.specs.Coded.{Coded, coded_ℕ, coded_list, coded×, code_by}
use Rattle.std.specs.List.{filter_map}
use Rattle.std.specs.Str.{bytes_eq}
use Rattle.cadf_join.specs.Contents.{Text}
use Rattle.cadf_event.specs.LogName.{is_name_text}
use Rattle.cadf_linefile.specs.declared.fault.Cause.{Cause}
use Rattle.cadf_linefile.specs.declared.fault.Cause.TheVariants.{Shape}
use Rattle.cadf_linefile.specs.LineGrammar.{shape_unless}
use Rattle.cadf_linefile.specs.ModelKind.{ModelKind}
use Rattle.cadf_linefile.specs.Verdict.{log_line, log_in_line}
use Rattle.cadf_split.specs.Windows.{unit_word}
use Rattle.cadf_split.specs.declared.unit.Unit.{Unit as TimeUnit}
use Rattle.cadf_split.specs.declared.unit.Unit.TheVariants.{Month, Day, Hour}

--     header        the first line
--     line i        the line of an item
--     item_in u l   the item that the line encodes, by this unit
--     start         what is kept of no items
--     next s i      what is kept with a further item
--     cause s i     what is wrong with the item after those of which s is kept
pub record ItemKind (I S : Type 0) : Type 0 where
  pub header : List ℕ
  pub line : I → List ℕ
  pub item_in : TimeUnit → List ℕ → Option I
  pub start : S
  pub next : S → I → S
  pub cause : S → I → Option Cause

pub record SiteModel (I : Type 0) : Type 0 where
  pub log : Text
  pub unit : TimeUnit
  pub items : List I

-- ---- codes

abbrev unit_number : TimeUnit → ℕ
unit_number Month = 0
unit_number Day = 1
unit_number Hour = 2

abbrev numbered_unit : ℕ → TimeUnit
numbered_unit zero = Month
numbered_unit (suc zero) = Day
numbered_unit (suc (suc n)) = Hour

pub unit_by_number : (u : TimeUnit) → numbered_unit (unit_number u) ≡ u
unit_by_number Month = refl
unit_by_number Day = refl
unit_by_number Hour = refl

abbrev pub coded_unit : Coded TimeUnit
coded_unit = code_by ℕ coded_ℕ unit_number numbered_unit unit_by_number

abbrev pub coded_site : {I : Type 0} → Coded I → Coded (SiteModel I)
coded_site {I = I} item =
    code_by (Text × (TimeUnit × List I)) (coded× (coded_list coded_ℕ) (coded× coded_unit (coded_list item)))
    (λ m. (m.log, (m.unit, m.items))) (λ p. record { log = p.0; unit = p.1.0; items = p.1.1 }) (λ _. refl)

-- ---- the line of the unit

abbrev pub unit_line : TimeUnit → List ℕ
unit_line unit = codes "B " ++ unit_word unit

abbrev pub unit_in : List ℕ → Option TimeUnit
unit_in line =
    if bytes_eq line (codes "B month") then Some Month
    else if bytes_eq line (codes "B day") then Some Day
    else if bytes_eq line (codes "B hour") then Some Hour
    else None

abbrev pub unit_of : List ℕ → TimeUnit
unit_of line = unwrap_or (unit_in line) Month

-- one line at least
abbrev pub are_some : List (List ℕ) → Bool
are_some [] = false
are_some (l ∷ ls) = true

module _ {I S : Type 0} (k : ItemKind I S) where
  abbrev pub items_in : TimeUnit → List (List ℕ) → List I
  items_in unit ls = filter_map (k.item_in unit) ls

  abbrev pub state_after : S → List I → S
  state_after s [] = s
  state_after s (i ∷ is) = state_after (k.next s i) is

  abbrev pub item_cause : S → Option I → Option Cause
  item_cause s None = Some Shape
  item_cause s (Some i) = k.cause s i

  abbrev pub line_cause : TimeUnit → List (List ℕ) → List ℕ → Option Cause
  line_cause unit ls line = item_cause (state_after k.start (items_in unit ls)) (k.item_in unit line)

  abbrev pub cause_after : List (List ℕ) → List ℕ → Option Cause
  cause_after [] line = shape_unless (is_some (unit_in line))
  cause_after (u ∷ ls) line = line_cause (unit_of u) ls line

  -- ---- the file

  abbrev pub site_lines : TimeUnit → List I → List (List ℕ)
  site_lines unit is = unit_line unit ∷ map k.line is

  abbrev pub site_body : SiteModel I → List (List ℕ)
  site_body m = k.header ∷ log_line m.log ∷ site_lines m.unit m.items

  abbrev pub site_model_in : List (List ℕ) → SiteModel I
  site_model_in (first ∷ log ∷ u ∷ more) = record { log = unwrap_or (log_in_line log) []; unit = unit_of u; items = items_in (unit_of u) more }
  site_model_in lines = record { log = []; unit = Month; items = [] }

  abbrev pub site_kind : ModelKind (SiteModel I)
  site_kind = record { header = k.header; cause_after = cause_after; is_whole = are_some; body = site_body; model_in = site_model_in }

  -- ---- the invariant

  abbrev pub AllFollow : (TimeUnit → I → Type 0) → TimeUnit → S → List I → Type 0
  AllFollow Is unit s [] = Unit {0}
  AllFollow Is unit s (i ∷ is) = (Is unit i × (k.cause s i ≡ None)) × AllFollow Is unit (k.next s i) is

  pub record IsSite (Is : TimeUnit → I → Type 0) (m : SiteModel I) : Type 0 where
    pub log : is_name_text m.log ≡ true
    pub items : AllFollow Is m.unit k.start m.items
