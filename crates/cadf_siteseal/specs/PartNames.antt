-- Names of the parts of a site, and their order.
--     pattern unit       the form of a window's name: a 0 for each digit, and the marks between them
--     has_form p t       the text has a digit for each 0 of the pattern, and its marks
--     is_window unit t   the text has the form of the name of a window of the unit, whether or not there is such a day
--     is_part unit t     it is such a name, or `shared`
--     comes_before a b   the part of the name a comes before that of b: `shared` first, then the windows in order of time
--     is_after o t       the part of the name t comes after that of o, if there is one
use Rattle.std.specs.Prelude.{ℕ, List, [], ◌∷◌, length, nat_eq, nat_lt, codes, Bool, true, ◌&&◌, ◌||◌, not, if◌then◌else◌, Option, None, Some}
use Rattle.std.specs.Ordering.{is_lt}
use Rattle.cadf_join.specs.Contents.{Text, text_cmp}
use Rattle.cadf_line.specs.Atoms.{is_text}
use Rattle.cadf_split.specs.declared.unit.Unit.{Unit as TimeUnit}
use Rattle.cadf_split.specs.declared.unit.Unit.TheVariants.{Month, Day, Hour}

abbrev pub shared : Text
shared = codes "shared"

abbrev pub pattern : TimeUnit → List ℕ
pattern Month = codes "0000-00"
pattern Day = codes "0000-00-00"
pattern Hour = codes "0000-00-00T00"

abbrev pub fits : ℕ → ℕ → Bool
fits p x = if nat_eq p 48 then not (nat_lt x 48) && nat_lt x 58 else nat_eq x p

abbrev pub all_fit : List ℕ → List ℕ → Bool
all_fit [] t = true
all_fit (p ∷ ps) [] = true
all_fit (p ∷ ps) (x ∷ xs) = fits p x && all_fit ps xs

abbrev pub has_form : List ℕ → Text → Bool
has_form p t = nat_eq (length p) (length t) && all_fit p t

abbrev pub is_window : TimeUnit → Text → Bool
is_window unit t = has_form (pattern unit) t

abbrev pub is_part : TimeUnit → Text → Bool
is_part unit t = is_text t shared || is_window unit t

abbrev pub comes_before : Text → Text → Bool
comes_before a b = if is_text a shared then not (is_text b shared) else not (is_text b shared) && is_lt (text_cmp a b)

abbrev pub is_after : Option Text → Text → Bool
is_after None t = true
is_after (Some a) t = comes_before a t
