-- Peeling: digests are removed from the cells of a sketch, each found in a cell that seems to have it alone.
--     Peels layout start taken rest      removing the digests `taken` in turn leads from the cells start to the cells rest
--     Awaits layout cells pending        each place whose cell has a lone digest is among the pending
--     ArePlaces count pending            the pending places are below the count
--     HasNoLone layout cells             no cell has a lone digest
use Rattle.std.specs.Prelude.{◌≡◌, ◌<◌, ℕ, List, [], ◌∷◌, ◌++◌, length, true, false, nat_eq}
use Rattle.std.specs.List.{All, list_any}
use Rattle.cadf_sketch.specs.Layouts.{LayoutModel}
use Rattle.cadf_sketch.specs.Cells.{cell_at, is_lone, toggled, place_in}
use Rattle.cadf_sketch.specs.declared.cell.Cell.{Cell}

pub data Peels (layout : LayoutModel) (start : List Cell) : List (List ℕ) → List Cell → Type 0 where
  none : Peels layout start [] start
  more : {taken : List (List ℕ)} {cells : List Cell} (place : ℕ) → Peels layout start taken cells → place < length cells
      → is_lone (cell_at cells place) place layout ≡ true
      → Peels layout start (taken ++ (cell_at cells place).digest ∷ []) (toggled cells (cell_at cells place).digest layout)

abbrev pub HasNoLone : LayoutModel → List Cell → Type 0
HasNoLone layout cells = (place : ℕ) → place < length cells → is_lone (cell_at cells place) place layout ≡ false

-- the places of the digest's three cells
abbrev pub three_places : List ℕ → LayoutModel → List ℕ
three_places d layout = place_in 0 d layout ∷ place_in 1 d layout ∷ place_in 2 d layout ∷ []

abbrev pub ArePlaces : ℕ → List ℕ → Type 0
ArePlaces count pending = All (λ p. p < count) pending

abbrev pub Awaits : LayoutModel → List Cell → List ℕ → Type 0
Awaits layout cells pending =
    (q : ℕ) → q < length cells → is_lone (cell_at cells q) q layout ≡ true → list_any (nat_eq q) pending ≡ true
