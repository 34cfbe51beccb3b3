-- The lines of a sketch, by their places, and the line of its counts.
use Rattle.cadf_sketch.proofs.Common.{◌≡◌, ◌∙◌, ◌-◌, ◌<◌, ◌≤◌, ℕ, suc, [], length, map, get_or, sym, ap, arith, get_or-map, length-map, cell_line, cell_lines, SketchModel, Cell}

-- the lines of cells come after two others
pub cell_there : (s : SketchModel) (place : ℕ) (none : Cell) → 2 ≤ place → place < length (cell_lines s)
    → cell_line (get_or s.cells (place - 2) none) ≡ get_or (cell_lines s) place []
cell_there s place none after there =
    let at : suc (suc (place - 2)) ≡ place = omega arith in
    let all : place < suc (suc (length (map cell_line s.cells))) = there in
    let within : place - 2 < length s.cells = omega (arith, after, all, length-map s.cells cell_line) in
    sym (get_or-map cell_line s.cells (place - 2) none [] within) ∙ ap (λ i. get_or (cell_lines s) i []) at
