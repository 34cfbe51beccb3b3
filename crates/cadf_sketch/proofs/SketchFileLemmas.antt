-- The verdict on a sketch's file accepts exactly the files of sketches, and a file determines its sketch.
use Rattle.cadf_sketch.proofs.Common.{common_steps, ◌≡◌, ℕ, suc, ◌+◌, ◌*◌, List, [], ◌∷◌, ◌++◌, length, map, true, false, Option, Some, None, refl, sym, ap, ◌∙◌, arith, true≢false, rules, is_some, decimal, flat_map, filter_map, w64, to_be_bytes, lt-ltb, Text, IsNameText, is_name_text, is_unbroken, unbroken_quoted, both_unbroken, log_line, with_digest_line, begins_digest, AreAfter, are_unbroken, both, and_true, AcceptsModels, Plain, lines_of, Follows, Ends, IsModelKind, accepts-models, models-tell, name_is, unbroken_digest, good_log, plain_digest, unbroken_digest_of, SketchModel, sketch_header, head_of, head_line, counts_line, cell_line, cell_lines, sketch_body, AreWords64, IsHead, IsTally, HasParts, IsSketch, SketchFileIsInjective, head_in, tally_in, cell_in, shape_unless, cells_of_head, sketch_of_parts, sketch_model_in, sketch_kind, Cell, Head, Tally, shape_none, there, decimal_unbroken}
use Rattle.cadf_sketch.proofs.LineLemmas.{head-again, head-only, tally-again, tally-only, cell-again, cell-only}
use Rattle.cadf_sketch.proofs.SketchInvariant.{AreCells}

abbrev After : List Plain → List Plain → Type 0
After before xs = AreAfter (Follows sketch_kind) (Ends sketch_kind) before xs

-- ---- such lines are those of a sketch

lines_more : (cs : List Plain) (z : Plain) → length (lines_of (cs ++ z ∷ [])) ≡ suc (length (lines_of cs))
lines_more cs z = grind (arith, common_steps)

pub record AreRest (lines : List (List ℕ)) (before all : ℕ) : Type 0 where
  pub cells : List Cell
  pub is : lines ≡ map cell_line cells
  pub each : AreCells cells
  pub count : before + length cells ≡ all

rest_cells : (x y : Plain) (cs xs : List Plain) → After (x ∷ y ∷ cs) xs
    → AreRest (lines_of xs) (length (lines_of cs)) (cells_of_head (head_in x.0))
rest_cells x y cs [] h = grind (arith, common_steps)
rest_cells x y cs (z ∷ zs) h =
    let p = both _ _ (shape_none _ h.0) in
    let c = there (cell_in z.0) p.1 in
    let o = cell-only z.0 c.0 c.1 in
    let r = rest_cells x y (cs ++ z ∷ []) zs h.1 in
    record {
      cells = c.0 ∷ r.cells;
      is = λ i. o.0 i ∷ r.is i;
      each = (o.1, r.each);
      count = one_more (length (lines_of cs)) (length r.cells) _ _ (lines_more cs z) r.count;
    }
  where
    one_more : (n k m all : ℕ) → m ≡ suc n → m + k ≡ all → n + suc k ≡ all
    one_more n k m all e f = omega (arith, e, f)

pub record AreOfSketch (lines : List (List ℕ)) : Type 0 where
  pub head : Head
  pub tally : Tally
  pub cells : List Cell
  pub is : lines ≡ head_line head ∷ counts_line tally ∷ map cell_line cells
  pub is_head : IsHead head
  pub is_tally : IsTally tally
  pub each : AreCells cells
  pub count : length cells ≡ 3 * head.layout.size

sketch_lines : (xs : List Plain) → After [] xs → AreOfSketch (lines_of xs)
sketch_lines [] h = absurd (true≢false (sym h))
sketch_lines (x ∷ []) h = absurd (true≢false (sym h.1))
sketch_lines (x ∷ y ∷ zs) h =
    let a = there (head_in x.0) (shape_none _ h.0) in
    let b = there (tally_in y.0) (shape_none _ h.1.0) in
    let p = head-only x.0 a.0 a.1 in
    let q = tally-only y.0 b.0 b.1 in
    let r = rest_cells x y [] zs h.1.1 in
    record {
      head = a.0;
      tally = b.0;
      cells = r.cells;
      is = λ i. p.0 i ∷ q.0 i ∷ r.is i;
      is_head = p.1;
      is_tally = q.1;
      each = r.each;
      count = none_plus (length r.cells) ∙ r.count ∙ ap cells_of_head a.1;
    }
  where
    none_plus : (n : ℕ) → n ≡ 0 + n
    none_plus n = omega arith

-- ---- and the lines of a sketch are of that kind

abbrev plain_cell : Cell → Plain
plain_cell c = (cell_line c, plain_digest (c.digest ++ to_be_bytes w64 c.check))

abbrev plain_cells : List Cell → List Plain
plain_cells [] = []
plain_cells (c ∷ cs) = plain_cell c ∷ plain_cells cs

abbrev pub plains : SketchModel → List Plain
plains s = (head_line (head_of s), refl) ∷ (counts_line s.tally, refl) ∷ plain_cells s.cells

plain_lines : (cs : List Cell) → lines_of (plain_cells cs) ≡ map cell_line cs
plain_lines [] = refl
plain_lines (c ∷ cs) = ap (λ ls. cell_line c ∷ ls) (plain_lines cs)

plains_are : (s : SketchModel) → lines_of (plains s) ≡ cell_lines s
plains_are s = ap (λ ls. head_line (head_of s) ∷ counts_line s.tally ∷ ls) (plain_lines s.cells)

cells_follow : (x y : Plain) (cs : List Plain) (cells : List Cell) (all : ℕ) → AreCells cells → cells_of_head (head_in x.0) ≡ all
    → length (lines_of cs) + length cells ≡ all → After (x ∷ y ∷ cs) (plain_cells cells)
cells_follow x y cs [] all each count is = grind (arith, common_steps)
cells_follow x y cs (c ∷ cells) all each count is =
    grind (arith, common_steps, lines_of, cell-again, lt-ltb, lines_more, (cells_follow x y (cs ++ plain_cell c ∷ []) cells all each.1 count))

plains_follow : (s : SketchModel) → IsSketch s → After [] (plains s)
plains_follow s is =
    let p = is.parts in
    let head = head-again (head_of s) p.head in (
      ap (λ o. shape_unless (is_some o)) head,
      (
        ap (λ o. shape_unless (is_some o)) (tally-again s.tally p.tally),
        cells_follow (head_line (head_of s), refl) (counts_line s.tally, refl) [] s.cells (3 * s.layout.size) p.cells (ap cells_of_head head)
            (none_plus (length s.cells) ∙ p.count),
      ),
    )
  where
    none_plus : (n : ℕ) → 0 + n ≡ n
    none_plus n = omega arith

-- ---- no line contains a line feed

after_unbroken : (ns : List ℕ) → AreWords64 ns → is_unbroken (flat_map (λ m. 32 ∷ decimal m) ns) ≡ true
after_unbroken [] h = refl
after_unbroken (n ∷ ns) h = both_unbroken (32 ∷ decimal n) (flat_map (λ m. 32 ∷ decimal m) ns) (decimal_unbroken n h.0) (after_unbroken ns h.1)

head_unbroken : (h : Head) → IsHead h → is_unbroken (head_line h) ≡ true
head_unbroken h is = grind (arith, common_steps, both_unbroken, decimal_unbroken, unbroken_digest_of)

counts_unbroken : (t : Tally) → IsTally t → is_unbroken (counts_line t) ≡ true
counts_unbroken t is = both_unbroken (decimal t.digests) _ (decimal_unbroken t.digests is.digests) (after_unbroken t.ones is.ones)

cells_unbroken : (cs : List Cell) (l : List ℕ) → is_unbroken l ≡ true → are_unbroken (map cell_line cs ++ l ∷ []) ≡ true
cells_unbroken [] l h = and_true (is_unbroken l) true h refl
cells_unbroken (c ∷ cs) l h = and_true (is_unbroken (cell_line c)) _ (unbroken_digest_of (c.digest ++ to_be_bytes w64 c.check)) (cells_unbroken cs l h)

pub unbroken_sketch : (s : SketchModel) → HasParts s → are_unbroken (with_digest_line (sketch_body s)) ≡ true
unbroken_sketch s p = search (rules, and_true, unbroken_quoted, head_unbroken, counts_unbroken, cells_unbroken, unbroken_digest)

-- ---- the lines determine the sketch

digest_no_cell : (l : List ℕ) → begins_digest l ≡ true → cell_in l ≡ None
digest_no_cell l is = by (cell_in l) refl
  where
    by : (o : Option Cell) → cell_in l ≡ o → o ≡ None
    by None e = refl
    by (Some c) e = absurd (true≢false (sym is ∙ ap begins_digest (cell-only l c e).0 ∙ plain_digest (c.digest ++ to_be_bytes w64 c.check)))

cells_again : (cs : List Cell) (l : List ℕ) → AreCells cs → begins_digest l ≡ true → filter_map cell_in (map cell_line cs ++ l ∷ []) ≡ cs
cells_again [] l each is = rw (digest_no_cell l is) refl
cells_again (c ∷ cs) l each is = rw (cell-again c each.0) (ap (λ xs. c ∷ xs) (cells_again cs l each.1 is))

pub sketch_again : (s : SketchModel) → IsSketch s → sketch_model_in (with_digest_line (sketch_body s)) ≡ s
sketch_again s is = search (rules, good_log, head-again, tally-again, cells_again)

-- ---- accepted bytes are the file of a sketch

sketch_found : (name : Text) (xs : List Plain) → is_name_text name ≡ true → After [] xs
    → (s : SketchModel) × (sketch_header ∷ log_line name ∷ lines_of xs ≡ sketch_body s) × IsSketch s
sketch_found name xs named h =
    let o = sketch_lines xs h in (
      sketch_of_parts name o.head o.tally o.cells,
      ap (λ ls. sketch_header ∷ log_line name ∷ ls) o.is,
      record { log = named; parts = record { head = o.is_head; tally = o.is_tally; cells = o.each; count = o.count } },
    )

pub sketch_is_kind : IsModelKind sketch_kind IsSketch (λ s. s.log) plains
sketch_is_kind = record {
  named = λ s is. is.log;
  lines = λ s. ap (λ ls. sketch_header ∷ log_line s.log ∷ ls) (plains_are s);
  unbroken = λ s is. unbroken_sketch s is.parts;
  follow = plains_follow;
  again = sketch_again;
  found = sketch_found;
}

pub accepts-sketches : AcceptsModels sketch_kind IsSketch
accepts-sketches = accepts-models sketch_is_kind

pub sketch-file-tells : SketchFileIsInjective
sketch-file-tells = models-tell sketch_is_kind

-- the invariants of a sketch's log and parts
pub sketch_is : (s : SketchModel) → IsNameText s.log → HasParts s → IsSketch s
sketch_is s name parts = record { log = name_is s.log name; parts = parts }
