-- The places that are yet to be checked.
use Rattle.cadf_sketch.proofs.Common.{common_steps, ◌≡◌, ◌<◌, ◌++◌, ℕ, Bool, true, false, List, [], ◌∷◌, arith, ◌||◌, nat_eq, list_any, list_any-append, eqb-true, and_second, LayoutModel, cell_at, is_lone, toggled, Awaits, three_places, Cell}
use Rattle.cadf_sketch.proofs.CellLemmas.{at_turned, length-toggled}

or_true : (b : Bool) → (b || true) ≡ true
or_true b = grind (arith, common_steps)

or_three : (a b c : Bool) → (a || (b || (c || false))) ≡ (a || b || c)
or_three a b c = grind (arith, common_steps)

-- an element other than the last is before it
before_last : (places : List ℕ) (place q : ℕ) → (nat_eq q place ≡ true → ⊥) → list_any (nat_eq q) (places ++ place ∷ []) ≡ true
    → list_any (nat_eq q) places ≡ true
before_last places place q other h = grind (arith, common_steps)

pub awaits_taken : (layout : LayoutModel) (cells : List Cell) (pending : List ℕ) (place : ℕ) → 0 < layout.size
    → is_lone (cell_at cells place) place layout ≡ true → Awaits layout cells (pending ++ place ∷ [])
    → Awaits layout (toggled cells (cell_at cells place).digest layout) (pending ++ three_places (cell_at cells place).digest layout)
awaits_taken layout cells pending place some is awaits q h lone =
    grind (arith, common_steps, length-toggled, list_any-append, or_three, at_turned, or_true, before_last, and_second, eqb-true)
