-- Decoding one further line of a sketch's file, and the sketch of all lines.
use Rattle.cadf_sketch.proofs.Common.{common_steps, ◌≡◌, ℕ, ◌+◌, ◌*◌, ◌<◌, ◌≤◌, List, [], ◌∷◌, ◌++◌, length, map, true, Some, None, sym, ap, ◌∙◌, subst, arith, ◌&&◌, is_some, nat_eq, AllByRecursion, eqb-true, lt-ltb, length-append, Text, head_line, counts_line, cell_line, IsHead, IsCell, HasParts, head_in, tally_in, shape_unless, cells_of_head, cause_of_cell, cause_after, is_whole, sketch_of_parts, AreCellsOf, IsCellPut, Cell, Head, Tally}
use Rattle.cadf_sketch.proofs.LineLemmas.{head-again, head-only, tally-only, cell-only}

-- ---- one further line

pub head_told : (l : List ℕ) (h : Head) → Some h ≡ head_in l → (cause_after [] l ≡ None) × (head_line h ∷ [] ≡ l ∷ []) × IsHead h
head_told l h e =
    let p = head-only l h (sym e) in
    (ap (λ o. shape_unless (is_some o)) (sym e), ap (λ x. x ∷ []) (sym p.0), p.1)

pub tally_told : (h : Head) (l : List ℕ) (t : Tally) → IsHead h → Some t ≡ tally_in l
    → (cause_after (head_line h ∷ []) l ≡ None) × (head_line h ∷ counts_line t ∷ [] ≡ head_line h ∷ l ∷ []) × AreCellsOf h t []
tally_told h l t is e =
    let p = tally-only l t (sym e) in (
      ap (λ o. shape_unless (is_some o)) (sym e),
      ap (λ x. head_line h ∷ x ∷ []) (sym p.0),
      record { head = is; tally = p.1; cells = tt; within = omega arith },
    )

lines_size : (cs : List Cell) → length (map cell_line cs) ≡ length cs
lines_size cs = grind (arith, common_steps)

abbrev pub lines_told : Head → Tally → List Cell → List (List ℕ)
lines_told h t cs = head_line h ∷ counts_line t ∷ map cell_line cs

pub cell_cause : (h : Head) (t : Tally) (cs : List Cell) (l : List ℕ) → IsHead h
    → cause_after (lines_told h t cs) l ≡ cause_of_cell (length cs) (3 * h.layout.size) l
cell_cause h t cs l is = λ i. cause_of_cell (lines_size cs i) (cells_of_head (head-again h is i)) l

map_more : (cs : List Cell) (c : Cell) → map cell_line (cs ++ c ∷ []) ≡ map cell_line cs ++ cell_line c ∷ []
map_more cs c = grind (arith, common_steps)

cells_more : (cs : List Cell) (c : Cell) → AllByRecursion IsCell cs → IsCell c → AllByRecursion IsCell (cs ++ c ∷ [])
cells_more cs c each is = grind (arith, common_steps)

pub cell_told : (h : Head) (t : Tally) (old new : List Cell) (l : List ℕ) → AreCellsOf h t old → IsCellPut h old new l
    → (cause_after (lines_told h t old) l ≡ None) × (lines_told h t new ≡ lines_told h t old ++ l ∷ []) × AreCellsOf h t new
cell_told h t old new l are put =
    let p = cell-only l put.cell put.read in (
      cell_cause h t old l are.head
          ∙ (λ i. shape_unless (lt-ltb (length old) (3 * h.layout.size) put.more i && is_some (put.read i))),
      ap (lines_told h t) put.put
          ∙ ap (λ ls. head_line h ∷ counts_line t ∷ ls) (map_more old put.cell ∙ ap (λ x. map cell_line old ++ x ∷ []) (sym p.0)),
      record {
        head = are.head;
        tally = are.tally;
        cells = subst (AllByRecursion IsCell) (sym put.put) (cells_more old put.cell are.cells p.1);
        within = one_more (ap length put.put ∙ length-append old (put.cell ∷ [])) put.more;
      },
    )
  where
    one_more : {n m : ℕ} → m ≡ n + 1 → n < 3 * h.layout.size → m ≤ 3 * h.layout.size
    one_more e f = omega (arith, e, f)

-- ---- all lines

pub whole_told : (h : Head) (t : Tally) (cs : List Cell) → IsHead h → is_whole (lines_told h t cs) ≡ nat_eq (length cs) (3 * h.layout.size)
whole_told h t cs is = λ i. nat_eq (lines_size cs i) (cells_of_head (head-again h is i))

pub all_cells : (h : Head) (t : Tally) (cs : List Cell) → AreCellsOf h t cs → is_whole (lines_told h t cs) ≡ true → length cs ≡ 3 * h.layout.size
all_cells h t cs are whole = eqb-true (length cs) (3 * h.layout.size) (sym (whole_told h t cs are.head) ∙ whole)

pub parts_told : (log : Text) (h : Head) (t : Tally) (cs : List Cell) → AreCellsOf h t cs → is_whole (lines_told h t cs) ≡ true
    → HasParts (sketch_of_parts log h t cs)
parts_told log h t cs are whole = record { head = are.head; tally = are.tally; cells = are.cells; count = all_cells h t cs are whole }
