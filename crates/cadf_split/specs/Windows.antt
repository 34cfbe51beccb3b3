-- The windows of time, and the part of an atom.
--     window unit instant             the window of UTC that contains an instant: its century, the year in that, the month, the day and the hour,
--                                     as five numbers, with 0 for each that the unit hasn't
--     shared_key                      the key of the atoms that are no event's: five zeros. No window has it, since months count from 1
--     key unit q                      the key of the part of an atom: the window of its body's instant, or `shared_key`
--     name unit k                     the name of a part
use Rattle.std.specs.Prelude.{ℕ, ◌/◌, ◌%◌, cond, List, [], ◌∷◌, ◌++◌, codes, ℤ, pos, neg_ℤ, ◌≤ℤ◌, unsigned_abs}
use Rattle.std.specs.Int.{int_div_euclid, int_rem_euclid}
use Rattle.cadf_time.specs.Time.{two_digits, year_of, month_of, day_in_month, nanos_of_day}
use Rattle.cadf_join.specs.Contents.{Text, Texts, Contents}
use Rattle.cadf_line.specs.Atoms.{is_text, begins_with, event_letter}
use Rattle.cadf_scan.specs.Instants.{body_instant}
use Rattle.cadf_split.specs.declared.unit.Unit.{Unit}
use Rattle.cadf_split.specs.declared.unit.Unit.TheVariants.{Month, Day, Hour}
use Rattle.cadf_split.specs.Parts.{part_by, keys_by}

-- the numbers that the unit has, and 0 for the others
abbrev pub numbers : Unit → (year month day hour : ℕ) → Text
numbers Month year month day hour = year / 100 ∷ year % 100 ∷ month ∷ 0 ∷ 0 ∷ []
numbers Day year month day hour = year / 100 ∷ year % 100 ∷ month ∷ day ∷ 0 ∷ []
numbers Hour year month day hour = year / 100 ∷ year % 100 ∷ month ∷ day ∷ hour ∷ []

-- the day that contains the instant, and the hour of that day; both are rounded down, before 1970 too
abbrev pub day_number : ℤ → ℤ
day_number instant = int_div_euclid instant (pos nanos_of_day)

-- a day of the years 0 to 9999: from 0000-01-01 to 9999-12-31
abbrev pub IsShownDay : ℤ → Type 0
IsShownDay day = (neg_ℤ (pos 719_528) ≤ℤ day) × (day ≤ℤ pos 2_932_896)

abbrev pub hour_of : ℤ → ℕ
hour_of instant = unsigned_abs (int_rem_euclid instant (pos nanos_of_day)) / 3_600_000_000_000

unfoldable pub window : Unit → ℤ → Text
window unit instant =
    let day = day_number instant in
    numbers unit (year_of day) (month_of day) (day_in_month day) (hour_of instant)

abbrev pub shared_key : Text
shared_key = 0 ∷ 0 ∷ 0 ∷ 0 ∷ 0 ∷ []

-- the body of an event's atom is its third text
abbrev pub window_of : Unit → Texts → Text
window_of unit (letter ∷ id ∷ body ∷ rest) = window unit (body_instant body)
window_of unit _ = shared_key

abbrev pub key : Unit → Texts → Text
key unit q = cond (begins_with event_letter q) (window_of unit q) shared_key

abbrev pub part : Unit → Text → Contents → Contents
part unit k s = part_by (key unit) k s

-- the keys of the parts that have an atom: `shared_key` first, then the windows in order of time
abbrev pub part_keys : Unit → Contents → List Text
part_keys unit s = keys_by (key unit) s

-- ---- names

abbrev pub month_text : (century year month : ℕ) → Text
month_text century year month = two_digits century ++ (two_digits year ++ (45 ∷ two_digits month))

abbrev pub day_text : (century year month day : ℕ) → Text
day_text century year month day = month_text century year month ++ (45 ∷ two_digits day)

abbrev pub window_name : Unit → Text → Text
window_name Month (century ∷ year ∷ month ∷ day ∷ hour ∷ []) = month_text century year month
window_name Day (century ∷ year ∷ month ∷ day ∷ hour ∷ []) = day_text century year month day
window_name Hour (century ∷ year ∷ month ∷ day ∷ hour ∷ []) = day_text century year month day ++ (84 ∷ two_digits hour)
window_name unit _ = []

abbrev pub name : Unit → Text → Text
name unit k = cond (is_text k shared_key) (codes "shared") (window_name unit k)

abbrev pub unit_word : Unit → Text
unit_word Month = codes "month"
unit_word Day = codes "day"
unit_word Hour = codes "hour"
