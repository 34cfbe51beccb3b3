-- The cells after digests were XORed into them.
use Rattle.cadf_sketch.proofs.Common.{common_steps, ◌≡◌, ◌∙◌, ◌<◌, ◌≤◌, ◌+◌, ◌*◌, ℕ, Bool, true, cond, List, [], ◌∷◌, length, replicate, refl, sym, subst, arith, ◌||◌, nat_eq, filter, length-set, get_or-replicate, length-replicate, LayoutModel, toggled, toggled_all, mixed_at, mixed, mixed_all, cell_at, place_in, stands, nothing, Cell}

length-mixed_at : (cells : List Cell) (place : ℕ) (d : List ℕ) → length (mixed_at cells place d) ≡ length cells
length-mixed_at cells place d = length-set cells place (mixed (cell_at cells place) d)

pub length-toggled : (cells : List Cell) (d : List ℕ) (layout : LayoutModel) → length (toggled cells d layout) ≡ length cells
unfolding toggled
length-toggled cells d layout = grind (arith, common_steps)

pub length-toggled_all : (cells : List Cell) (ds : List (List ℕ)) (layout : LayoutModel) → length (toggled_all cells ds layout) ≡ length cells
length-toggled_all cells [] layout = refl
length-toggled_all cells (d ∷ ds) layout = length-toggled_all (toggled cells d layout) ds layout ∙ length-toggled cells d layout

-- ---- one place of the cells

place_bounds : (table : ℕ) (d : List ℕ) (layout : LayoutModel) → 0 < layout.size
    → (table * layout.size ≤ place_in table d layout) × (place_in table d layout < table * layout.size + layout.size)
unfolding place_in
place_bounds table d layout some = grind (arith, common_steps)

at_mixed : (e : Bool) (cells : List Cell) (p q : ℕ) (d : List ℕ) → nat_eq q p ≡ e → q < length cells
    → cell_at (mixed_at cells p d) q ≡ cond e (mixed (cell_at cells q) d) (cell_at cells q)
at_mixed e cells p q d is within = grind (arith, common_steps)

-- at most one of three places is the one asked for
pick : (a b c : Bool) (cell : Cell) (d : List ℕ) → (a ≡ true → b ≡ true → ⊥) → (a ≡ true → c ≡ true → ⊥) → (b ≡ true → c ≡ true → ⊥)
    → cond c (mixed (cond b (mixed (cond a (mixed cell d) cell) d) (cond a (mixed cell d) cell)) d)
    (cond b (mixed (cond a (mixed cell d) cell) d) (cond a (mixed cell d) cell))
    ≡ cond (a || b || c) (mixed cell d) cell
pick a b c cell d x y z = grind (arith, common_steps)

-- a place of two tables
apart : (low high x q : ℕ) → nat_eq q low ≡ true → nat_eq q high ≡ true → low < x → x ≤ high → ⊥
apart low high x q l h below above = grind (arith, common_steps)

pub at_turned : (cells : List Cell) (d : List ℕ) (layout : LayoutModel) (q : ℕ) → 0 < layout.size → q < length cells
    → cell_at (toggled cells d layout) q ≡ cond (stands d q layout) (mixed (cell_at cells q) d) (cell_at cells q)
unfolding toggled
at_turned cells d layout q some within = grind (arith, common_steps, length-mixed_at, place_bounds, at_mixed, pick, apart)

mixed_rest : (b : Bool) (cell : Cell) (d : List ℕ) (ds : List (List ℕ)) → mixed_all (cond b (mixed cell d) cell) ds ≡ mixed_all cell (cond b (d ∷ ds) ds)
mixed_rest b cell d ds = grind (arith, common_steps)

-- a cell is the XOR of the digests that have it as one of their cells
pub at_turned_all : (cells : List Cell) (ds : List (List ℕ)) (layout : LayoutModel) (q : ℕ) → 0 < layout.size → q < length cells
    → cell_at (toggled_all cells ds layout) q ≡ mixed_all (cell_at cells q) (filter (λ d. stands d q layout) ds)
at_turned_all cells [] layout q some within = refl
at_turned_all cells (d ∷ ds) layout q some within = grind (arith, common_steps, length-toggled, at_turned, mixed_rest, (at_turned_all (toggled cells d layout) ds layout q some (subst (λ (n : ℕ). q < n) (sym (length-toggled cells d layout)) within)))

pub at_sketched : (ds : List (List ℕ)) (layout : LayoutModel) (q : ℕ) → 0 < layout.size → q < 3 * layout.size
    → cell_at (toggled_all (replicate (3 * layout.size) nothing) ds layout) q ≡ mixed_all nothing (filter (λ d. stands d q layout) ds)
at_sketched ds layout q some within = grind (arith, common_steps, at_turned_all, length-replicate, get_or-replicate)
