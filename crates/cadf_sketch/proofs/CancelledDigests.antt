-- XORing digests into cells: equal digests cancel, and the order doesn't matter.
use Rattle.cadf_sketch.proofs.Common.{common_steps, ◌≡◌, ◌∙◌, ◌<◌, ℕ, suc, Bool, cond, List, [], ◌∷◌, length, replicate, refl, ap, sym, subst, arith, inl, inr, bit_xor, AllByRecursion, Ordering, Less, Equal, Greater, match_ordering, insert_key, ext_get_or, xor_comm, xor_assoc, xor_self, xor_zero_r, Listed, text_same, Text, text_cmp, IsDigest, LayoutModel, check, each_xor, mixed, cell_at, stands, toggled, toggled_all, nothing, Cell}
use Rattle.cadf_sketch.proofs.CellLemmas.{length-toggled, at_turned}

-- ---- bytes

bits_twice : (x y : ℕ) → bit_xor (bit_xor x y) y ≡ x
bits_twice x y = xor_assoc x y y ∙ ap (bit_xor x) (xor_self y) ∙ xor_zero_r x

bits_swap : (x y z : ℕ) → bit_xor (bit_xor x y) z ≡ bit_xor (bit_xor x z) y
bits_swap x y z = xor_assoc x y z ∙ ap (bit_xor x) (xor_comm y z) ∙ sym (xor_assoc x z y)

xor_twice : (a b : List ℕ) → length a ≡ length b → each_xor (each_xor a b) b ≡ a
xor_twice [] b h = refl
xor_twice (x ∷ a) [] h = absurd (omega arith)
xor_twice (x ∷ a) (y ∷ b) h =
    let shorter : length a ≡ length b = omega arith in
    let rest = xor_twice a b shorter in
    λ i. bits_twice x y i ∷ rest i

xor_swap : (a b c : List ℕ) → each_xor (each_xor a b) c ≡ each_xor (each_xor a c) b
xor_swap (x ∷ a) [] (z ∷ c) = refl
xor_swap (x ∷ a) (y ∷ b) (z ∷ c) = let rest = xor_swap a b c in λ i. bits_swap x y z i ∷ rest i
xor_swap _ _ _ = refl

length-xor : (a b : List ℕ) → length a ≡ length b → length (each_xor a b) ≡ length a
length-xor [] b h = refl
length-xor (x ∷ a) [] h = absurd (omega arith)
length-xor (x ∷ a) (y ∷ b) h =
    let shorter : length a ≡ length b = omega arith in
    ap (λ n. suc n) (length-xor a b shorter)

-- ---- one cell

mixed_swap : (cell : Cell) (d e : List ℕ) → mixed (mixed cell d) e ≡ mixed (mixed cell e) d
mixed_swap cell d e = λ i. record { digest = xor_swap cell.digest d e i; check = bits_swap cell.check (check d) (check e) i }

mixed_twice : (cell : Cell) (d : List ℕ) → length cell.digest ≡ length d → mixed (mixed cell d) d ≡ cell
mixed_twice cell d h = λ i. record { digest = xor_twice cell.digest d h i; check = bits_twice cell.check (check d) i }

swap_either : (a b : Bool) (cell : Cell) (d e : List ℕ)
    → cond b (mixed (cond a (mixed cell d) cell) e) (cond a (mixed cell d) cell) ≡ cond a (mixed (cond b (mixed cell e) cell) d) (cond b (mixed cell e) cell)
swap_either a b cell d e = grind (arith, common_steps, mixed_swap)

twice_either : (a : Bool) (cell : Cell) (d : List ℕ) → length cell.digest ≡ length d
    → cond a (mixed (cond a (mixed cell d) cell) d) (cond a (mixed cell d) cell) ≡ cell
twice_either a cell d h = grind (arith, common_steps, mixed_twice)

-- ---- all cells

at_two : (cells : List Cell) (d e : List ℕ) (layout : LayoutModel) (q : ℕ) → 0 < layout.size → q < length cells
    → cell_at (toggled (toggled cells d layout) e layout) q
    ≡ cond (stands e q layout) (mixed (cond (stands d q layout) (mixed (cell_at cells q) d) (cell_at cells q)) e)
    (cond (stands d q layout) (mixed (cell_at cells q) d) (cell_at cells q))
at_two cells d e layout q some within = grind (arith, common_steps, at_turned, length-toggled)

length_two : (cells : List Cell) (d e : List ℕ) (layout : LayoutModel) → length (toggled (toggled cells d layout) e layout) ≡ length cells
length_two cells d e layout = length-toggled (toggled cells d layout) e layout ∙ length-toggled cells d layout

toggled_swap : (cells : List Cell) (d e : List ℕ) (layout : LayoutModel) → 0 < layout.size
    → toggled (toggled cells d layout) e layout ≡ toggled (toggled cells e layout) d layout
toggled_swap cells d e layout some =
    ext_get_or (record { digest = []; check = 0 }) (toggled (toggled cells d layout) e layout) (toggled (toggled cells e layout) d layout)
    (length_two cells d e layout ∙ sym (length_two cells e d layout))
    (λ q h.
    let within : q < length cells = subst (λ (n : ℕ). q < n) (length_two cells d e layout) h in
    at_two cells d e layout q some within ∙ swap_either (stands d q layout) (stands e q layout) (cell_at cells q) d e
    ∙ sym (at_two cells e d layout q some within))

-- each cell has 32 bytes
abbrev pub AreWide : List Cell → Type 0
AreWide cells = (q : ℕ) → q < length cells → length (cell_at cells q).digest ≡ 32

pub toggled_twice : (cells : List Cell) (d : List ℕ) (layout : LayoutModel) → 0 < layout.size → AreWide cells → length d ≡ 32
    → toggled (toggled cells d layout) d layout ≡ cells
toggled_twice cells d layout some wide long =
    ext_get_or (record { digest = []; check = 0 }) (toggled (toggled cells d layout) d layout) cells (length_two cells d d layout)
    (λ q h.
    let within : q < length cells = subst (λ (n : ℕ). q < n) (length_two cells d d layout) h in
    at_two cells d d layout q some within ∙ twice_either (stands d q layout) (cell_at cells q) d (wide q within ∙ sym long))

wide_either : (a : Bool) (cell : Cell) (d : List ℕ) → length cell.digest ≡ 32 → length d ≡ 32 → length (cond a (mixed cell d) cell).digest ≡ 32
wide_either a cell d h long = grind (arith, common_steps, length-xor)

wide-toggled : (cells : List Cell) (d : List ℕ) (layout : LayoutModel) → 0 < layout.size → AreWide cells → length d ≡ 32 → AreWide (toggled cells d layout)
wide-toggled cells d layout some wide long q h = grind (arith, common_steps, length-toggled, at_turned, wide_either)

pub wide-toggled_all : (cells : List Cell) (ds : List Text) (layout : LayoutModel) → 0 < layout.size → AreWide cells → AllByRecursion IsDigest ds
    → AreWide (toggled_all cells ds layout)
wide-toggled_all cells [] layout some wide each = wide
wide-toggled_all cells (d ∷ ds) layout some wide each = grind (arith, common_steps, wide-toggled, (wide-toggled_all (toggled cells d layout) ds layout some (wide-toggled cells d layout some wide each.0.size) each.1))

pub wide-nothing : (count : ℕ) → AreWide (replicate count nothing)
wide-nothing count q h = grind (arith, common_steps)

pub toggled_all_push : (cells : List Cell) (d : Text) (ds : List Text) (layout : LayoutModel) → 0 < layout.size
    → toggled_all (toggled cells d layout) ds layout ≡ toggled (toggled_all cells ds layout) d layout
toggled_all_push cells d [] layout some = refl
toggled_all_push cells d (e ∷ ds) layout some = grind (arith, common_steps, toggled_swap, (toggled_all_push (toggled cells e layout) d ds layout some))

-- a digest among others, at its place in their order
pub toggled_all_insert : (cells : List Cell) (xs : List Text) (d : Text) (layout : LayoutModel) → 0 < layout.size → (Listed d xs → ⊥)
    → toggled_all cells (insert_key text_cmp xs d) layout ≡ toggled (toggled_all cells xs layout) d layout
toggled_all_insert cells [] d layout some new = refl
toggled_all_insert cells (x ∷ xs) d layout some new =
    by (toggled_all_insert (toggled cells x layout) xs d layout some (λ l. new (inr l))) (text_cmp d x) refl
  where
    by : toggled_all (toggled cells x layout) (insert_key text_cmp xs d) layout ≡ toggled (toggled_all (toggled cells x layout) xs layout) d layout
        → (r : Ordering) → text_cmp d x ≡ r
        → toggled_all cells (match_ordering r (d ∷ x ∷ xs) (x ∷ xs) (x ∷ insert_key text_cmp xs d)) layout ≡ toggled (toggled_all cells (x ∷ xs) layout) d layout
    by rest Less is = toggled_all_push cells d (x ∷ xs) layout some
    by rest Equal is = absurd (new (inl (text_same d x is)))
    by rest Greater is = rest

pub length-insert : (xs : List Text) (d : Text) → (Listed d xs → ⊥) → length (insert_key text_cmp xs d) ≡ suc (length xs)
length-insert [] d new = refl
length-insert (x ∷ xs) d new = by (length-insert xs d (λ l. new (inr l))) (text_cmp d x) refl
  where
    by : length (insert_key text_cmp xs d) ≡ suc (length xs) → (r : Ordering) → text_cmp d x ≡ r
        → length (match_ordering r (d ∷ x ∷ xs) (x ∷ xs) (x ∷ insert_key text_cmp xs d)) ≡ suc (suc (length xs))
    by rest Less is = refl
    by rest Equal is = absurd (new (inl (text_same d x is)))
    by rest Greater is = ap (λ n. suc n) rest
