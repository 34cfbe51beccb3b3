-- Counts over a set's digests, from which the holder of another set estimates how many digests the two don't share.
--     tallied t d             the counts with one digest added
--     tally_of ds             the counts of the digests
--     has_bit bit d           the digest has the bit of that number, from 0, set
--     cells_to_ask ours theirs    the cells to ask for: twice the estimate plus 30, rounded up to a multiple of 3, at most 3 * 2^22
use Rattle.std.specs.Prelude.{ℕ, zero, suc, ◌+◌, ◌-◌, ◌*◌, ◌/◌, ◌%◌, ◌^◌, min, Bool, nat_eq, List, [], ◌∷◌, length, get_or, replicate}
use Rattle.cadf_sketch.specs.Cells.{word}
use Rattle.cadf_sketch.specs.declared.tally.Tally.{Tally}

-- adds each bit of the word to its count, modulo 2^64, the highest bit first
abbrev pub with_bits : List ℕ → ℕ → List ℕ
with_bits [] w = []
with_bits (n ∷ ns) w = ((n + w / 2 ^ length ns % 2) % 2 ^ 64) ∷ with_bits ns w

unfoldable pub tallied : Tally → List ℕ → Tally
tallied t d = record { digests = (t.digests + 1) % 2 ^ 64; ones = with_bits t.ones (word d 0) }

abbrev pub tallied_all : Tally → List (List ℕ) → Tally
tallied_all t [] = t
tallied_all t (d ∷ ds) = tallied_all (tallied t d) ds

unfoldable pub tally_of : List (List ℕ) → Tally
tally_of ds = tallied_all (record { digests = 0; ones = replicate 64 0 }) ds

-- of the first 64 bits; the first is the highest of the first byte
abbrev pub has_bit : ℕ → List ℕ → Bool
has_bit bit d = nat_eq (word d 0 / 2 ^ (63 - bit) % 2) 1

-- ---- the guess

-- the distance, at most 2^24, of two sums: over each set's digests, +1 if the bit is set and -1 if not
abbrev pub apart_at : Tally → Tally → ℕ → ℕ
apart_at t u bit = min ((2 * get_or t.ones bit 0 + u.digests - (2 * get_or u.ones bit 0 + t.digests))
    + (2 * get_or u.ones bit 0 + t.digests - (2 * get_or t.ones bit 0 + u.digests))) (2 ^ 24)

abbrev pub squares : Tally → Tally → ℕ → ℕ
squares t u zero = 0
squares t u (suc bit) = squares t u bit + apart_at t u bit * apart_at t u bit

-- the mean of the squares, an estimate of how many digests the sets don't share
abbrev pub guess : Tally → Tally → ℕ
guess t u = squares t u 64 / 64

unfoldable pub cells_to_ask : Tally → Tally → ℕ
cells_to_ask ours theirs = min ((2 * guess ours theirs + 32) / 3 * 3) (3 * 2 ^ 22)
