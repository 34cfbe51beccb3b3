-- How a run of removals begins and continues.
use Rattle.cadf_sketch.proofs.Common.{common_steps, ◌≡◌, ◌<◌, ℕ, List, [], ◌∷◌, ◌++◌, length, true, sym, subst, arith, LayoutModel, cell_at, is_lone, toggled, Peels, none, more, Cell}

pub peels_none : (layout : LayoutModel) (start : List Cell) (taken : List (List ℕ)) → taken ≡ [] → Peels layout start taken start
peels_none layout start taken e = subst (λ ds. Peels layout start ds start) (sym e) none

pub peels_more : (layout : LayoutModel) (place : ℕ) (start cells cells' : List Cell) (taken taken' : List (List ℕ)) (cell : Cell)
    → cell ≡ cell_at cells place → place < length cells → is_lone cell place layout ≡ true
    → taken' ≡ taken ++ cell.digest ∷ [] → cells' ≡ toggled cells cell.digest layout
    → Peels layout start taken cells → Peels layout start taken' cells'
peels_more layout place start cells cells' taken taken' cell at within lone t c chain =
    subst (λ ds. Peels layout start ds cells') (sym t) (subst (Peels layout start (taken ++ cell.digest ∷ [])) (sym c)
    (subst (λ (x : Cell). Peels layout start (taken ++ x.digest ∷ []) (toggled cells x.digest layout)) (sym at)
    (more place chain within (subst (λ (x : Cell). is_lone x place layout ≡ true) at lone))))

-- the same of an equal layout and of equal cells
pub peels_same : (l layout : LayoutModel) (cells start : List Cell) (taken : List (List ℕ)) (rest : List Cell) → l ≡ layout → cells ≡ start
    → Peels l cells taken rest → Peels layout start taken rest
peels_same l layout cells start taken rest same from chain = grind (arith, common_steps)
