-- How the cells of a sketch are laid out: the number of cells in each of three tables, and the salt.
--     IsLayout l             from 1 to 2^22 cells a table, and an odd salt
--     are_cells n            a sketch can have that many cells in all
--     default_cells          the number of cells in all, if none is given
--     is_salt n              the number can be a salt
--     layout_with cells salt the layout of that many cells in all
--     layout_of cells salt   that layout, if both numbers are allowed
use Rattle.std.specs.Prelude.{◌≡◌, ◌<◌, ◌≤◌, ◌*◌, ◌/◌, ◌%◌, ◌^◌, ◌&&◌, ℕ, Bool, nat_eq, nat_le, if◌then◌else◌, Option, Some, None, refl}
use Rattle.std.specs.Coded.{Coded, coded_ℕ, coded×, code_by}

pub record LayoutModel : Type 0 where
  pub size : ℕ
  pub salt : ℕ

abbrev pub coded_layout : Coded LayoutModel
coded_layout = code_by (ℕ × ℕ) (coded× coded_ℕ coded_ℕ) (λ l. (l.size, l.salt)) (λ p. record { size = p.0; salt = p.1 }) (λ _. refl)

pub record IsLayout (l : LayoutModel) : Type 0 where
  pub some : 0 < l.size
  pub most : l.size ≤ 2 ^ 22
  pub odd : l.salt % 2 ≡ 1

-- a multiple of 3, from 3 to 3 * 2^22
abbrev pub are_cells : ℕ → Bool
are_cells n = nat_eq (n % 3) 0 && nat_le 3 n && nat_le n (3 * 2 ^ 22)

abbrev pub default_cells : ℕ
default_cells = 198

abbrev pub is_salt : ℕ → Bool
is_salt n = nat_eq (n % 2) 1

abbrev pub is_layout : ℕ → ℕ → Bool
is_layout cells salt = are_cells cells && is_salt salt

abbrev pub layout_with : ℕ → ℕ → LayoutModel
layout_with cells salt = record { size = cells / 3; salt = salt }

abbrev pub layout_of : ℕ → ℕ → Option LayoutModel
layout_of cells salt = if is_layout cells salt then Some (layout_with cells salt) else None
