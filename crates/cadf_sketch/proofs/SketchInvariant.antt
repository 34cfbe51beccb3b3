-- The sketch of an inventory satisfies the invariant of sketches.
use Rattle.cadf_sketch.proofs.Common.{common_steps, ◌≡◌, ℕ, zero, suc, ◌+◌, ◌*◌, ◌/◌, ◌%◌, ◌^◌, ◌<◌, List, [], ◌∷◌, length, replicate, refl, sym, ap, ◌∙◌, arith, slice_index, bit_xor, AllByRecursion, zip2, xor_of_8, xor_lt, mod_below, length-replicate, InventoryModel, AreDigests, Text, IsDigest, each_digest, digests_push, inventory_digest, LayoutModel, IsLayout, word, check, each_xor, nothing, mixed, mixed_at, cell_at, toggled, toggled_all, Peels, none, more, differing, SketchModel, cells_of, sketch_of, AreWords64, IsTally, IsCell, HasParts, with_bits, tallied, tallied_all, tally_of, Cell, Tally, sha_digest}
use Rattle.cadf_sketch.proofs.TallyLemmas.{length-with_bits}
use Rattle.cadf_sketch.proofs.CellLemmas.{length-toggled_all}

-- ---- the XOR of two digests

xor_size : (xs ys : List ℕ) → length xs ≡ length ys → length (zip2 bit_xor xs ys) ≡ length xs
xor_size [] ys e = refl
xor_size (x ∷ xs) [] e = absurd (cc)
xor_size (x ∷ xs) (y ∷ ys) e = ap suc (xor_size xs ys (cc))

xor_fits : (xs ys : List ℕ) → ((i : ℕ) → slice_index xs i < 256) → ((i : ℕ) → slice_index ys i < 256) → (i : ℕ) → slice_index (zip2 bit_xor xs ys) i < 256
xor_fits [] ys f g i = f i
xor_fits (x ∷ xs) [] f g i = g i
xor_fits (x ∷ xs) (y ∷ ys) f g zero = xor_of_8 x y (f zero) (g zero)
xor_fits (x ∷ xs) (y ∷ ys) f g (suc i) = xor_fits xs ys (λ k. f (suc k)) (λ k. g (suc k)) i

xor_digest : (a b : List ℕ) → IsDigest a → IsDigest b → IsDigest (each_xor a b)
xor_digest a b p q = record { size = xor_size a b (p.size ∙ sym q.size) ∙ p.size; bytes = xor_fits a b p.bytes q.bytes }

-- ---- cells

check_fits : (d : List ℕ) → check d < 2 ^ 64
unfolding check
check_fits d = mod_below (word d 0 * word d 8 + word d 16 * word d 24 + 1) (2 ^ 64) (omega arith)

mixed_cell : (c : Cell) (d : List ℕ) → IsCell c → IsDigest d → IsCell (mixed c d)
mixed_cell c d p q = record { digest = xor_digest c.digest d p.digest q; check = xor_lt 64 c.check (check d) p.check (check_fits d) }

abbrev pub AreCells : List Cell → Type 0
AreCells cells = AllByRecursion IsCell cells

mixed_cells : (cells : List Cell) (place : ℕ) (d : List ℕ) → AreCells cells → IsDigest d → AreCells (mixed_at cells place d)
mixed_cells cells place d p q = grind (arith, common_steps, mixed_cell)

toggled_cells : (cells : List Cell) (d : List ℕ) (l : LayoutModel) → AreCells cells → IsDigest d → AreCells (toggled cells d l)
unfolding toggled
toggled_cells cells d l p q = grind (arith, common_steps, mixed_cells)

all_turned : (cells : List Cell) (ds : List (List ℕ)) (l : LayoutModel) → AreCells cells → AllByRecursion IsDigest ds → AreCells (toggled_all cells ds l)
all_turned cells [] l p q = p
all_turned cells (d ∷ ds) l p q = all_turned (toggled cells d l) ds l (toggled_cells cells d l p q.0) q.1

cell_is : (cells : List Cell) (place : ℕ) → AreCells cells → place < length cells → IsCell (cell_at cells place)
cell_is cells place p below = grind (arith, common_steps)

-- each value removed from cells is a digest
taken_are : (l : LayoutModel) (start : List Cell) (taken : List Text) (rest : List Cell) → AreCells start → Peels l start taken rest
    → AllByRecursion IsDigest taken × AreCells rest
taken_are l start [] start' p none = (tt, p)
taken_are l start taken rest p (more {taken = before} {cells = cells} place chain within lone) = grind (arith, common_steps, cell_is, digests_push, toggled_cells, (taken_are l start before cells p chain))

-- the same for the cells of a sketch into which an inventory was XORed
pub peeled_are : (own : InventoryModel) (sketch : SketchModel) (taken : List Text) (rest : List Cell) → AreDigests own.digests → HasParts sketch
    → Peels sketch.layout (differing own sketch) taken rest → AllByRecursion IsDigest taken
peeled_are own sketch taken rest are parts chain = grind (arith, common_steps, taken_are, all_turned, each_digest)

zeros_fit : (n i : ℕ) → slice_index (replicate n 0) i < 256
zeros_fit n i = grind (arith, common_steps)

nothing_cell : IsCell nothing
nothing_cell = record { digest = record { size = refl; bytes = zeros_fit 32 }; check = omega arith }

empty_cells : (n : ℕ) → AreCells (replicate n nothing)
empty_cells zero = tt
empty_cells (suc n) = (nothing_cell, empty_cells n)

-- ---- counts

bits_fit : (ns : List ℕ) (w : ℕ) → AreWords64 (with_bits ns w)
bits_fit [] w = tt
bits_fit (n ∷ ns) w = (mod_below (n + w / 2 ^ length ns % 2) (2 ^ 64) (omega arith), bits_fit ns w)

tallied_fits : (t : Tally) (d : List ℕ) → IsTally t → IsTally (tallied t d)
unfolding tallied
tallied_fits t d p = grind (arith, common_steps, mod_below, length-with_bits, bits_fit)

all_tallied : (t : Tally) (ds : List (List ℕ)) → IsTally t → IsTally (tallied_all t ds)
all_tallied t [] p = p
all_tallied t (d ∷ ds) p = all_tallied (tallied t d) ds (tallied_fits t d p)

zero_words : (n : ℕ) → AreWords64 (replicate n 0)
zero_words zero = tt
zero_words (suc n) = (omega arith, zero_words n)

tally_fits : (ds : List (List ℕ)) → IsTally (tally_of ds)
unfolding tally_of
tally_fits ds = all_tallied (record { digests = 0; ones = replicate 64 0 }) ds (record { digests = omega arith; size = refl; ones = zero_words 64 })

-- ---- the sketch of an inventory

pub sketch_parts : (n : InventoryModel) (l : LayoutModel) → AreDigests n.digests → IsLayout l → l.salt < 2 ^ 64 → HasParts (sketch_of n l)
unfolding sketch_of cells_of inventory_digest
sketch_parts n l are layout salt =
    grind (arith, common_steps, sha_digest, tally_fits, all_turned, empty_cells, each_digest, length-toggled_all, length-replicate)
