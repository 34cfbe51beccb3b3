-- The cells of a sketch, in three tables of a layout l. A digest is in one cell of each table.
--     word d from          the big-endian number in the eight bytes of the digest from that offset on
--     check d              the checksum of a digest
--     place_in table d l    the digest's place in the table
--     cell_at cells place  the cell at that place
--     mixed cell d         the cell with the digest XORed in, which adds or removes it
--     toggled cells d l  the cells with the digest XORed into its three cells
--     toggled_all           the same with each of the digests in turn
--     mixed_all cell ds    the cell with each of the digests XORed in
--     stands d place l  one of the digest's three cells is at that place
--     is_lone cell place l  the cell seems to have one digest alone: its check is that of its digest, which has a cell at that place
use Rattle.std.specs.Prelude.{ℕ, ◌+◌, ◌*◌, ◌%◌, ◌^◌, Bool, ◌&&◌, ◌||◌, nat_eq, ◌/◌, List, [], ◌∷◌, set, get_or, replicate, slice_range, bit_xor}
use Rattle.std.specs.Int.{w64, from_be_bytes}
use Rattle.std.specs.Simd.Lanes.{zip2}
use Rattle.cadf_sketch.specs.Layouts.{LayoutModel}
use Rattle.cadf_sketch.specs.declared.cell.Cell.{Cell}

unfoldable pub word : List ℕ → ℕ → ℕ
word d from = from_be_bytes w64 (slice_range d from (from + 8))

-- the products of the words two by two, and 1, added modulo 2^64
unfoldable pub check : List ℕ → ℕ
check d = (word d 0 * word d 8 + word d 16 * word d 24 + 1) % 2 ^ 64

-- the upper half of the product of a word and the salt, scaled to the size of a table
unfoldable pub place_in : ℕ → List ℕ → LayoutModel → ℕ
place_in table d l = table * l.size + ((l.salt * word d (8 * table)) % 2 ^ 64 / 2 ^ 32 * l.size) / 2 ^ 32

abbrev pub each_xor : List ℕ → List ℕ → List ℕ
each_xor a b = zip2 bit_xor a b

abbrev pub nothing : Cell
nothing = record { digest = replicate 32 0; check = 0 }

abbrev pub mixed : Cell → List ℕ → Cell
mixed cell d = record { digest = each_xor cell.digest d; check = bit_xor cell.check (check d) }

abbrev pub cell_at : List Cell → ℕ → Cell
cell_at cells place = get_or cells place (record { digest = []; check = 0 })

abbrev pub mixed_at : List Cell → ℕ → List ℕ → List Cell
mixed_at cells place d = set cells place (mixed (cell_at cells place) d)

unfoldable pub toggled : List Cell → List ℕ → LayoutModel → List Cell
toggled cells d l = mixed_at (mixed_at (mixed_at cells (place_in 0 d l) d) (place_in 1 d l) d) (place_in 2 d l) d

abbrev pub toggled_all : List Cell → List (List ℕ) → LayoutModel → List Cell
toggled_all cells [] l = cells
toggled_all cells (d ∷ ds) l = toggled_all (toggled cells d l) ds l

abbrev pub stands : List ℕ → ℕ → LayoutModel → Bool
stands d place l = nat_eq place (place_in 0 d l) || nat_eq place (place_in 1 d l) || nat_eq place (place_in 2 d l)

abbrev pub is_lone : Cell → ℕ → LayoutModel → Bool
is_lone cell place l = nat_eq (check cell.digest) cell.check && stands cell.digest place l

-- the cell with each of the digests XORed in
abbrev pub mixed_all : Cell → List (List ℕ) → Cell
mixed_all cell [] = cell
mixed_all cell (d ∷ ds) = mixed_all (mixed cell d) ds
