-- The first bytes of a text as a number.
use Rattle.std.specs.Prelude.{◌≡◌, ℕ, zero, suc, ◌+◌, ◌*◌, ◌^◌, ◌<◌, List, [], ◌∷◌, get_or}

-- the first n bytes as a number, the first byte highest, with zeros for those that aren't there
abbrev pub first_bytes : ℕ → List ℕ → ℕ
first_bytes zero s = 0
first_bytes (suc n) [] = 0
first_bytes (suc n) (b ∷ s) = b * 256 ^ n + first_bytes n s

-- each is a byte
abbrev pub AreBytes : List ℕ → Type 0
AreBytes s = (i : ℕ) → get_or s i 0 < 256

-- the number is that of the text's first eight bytes
abbrev pub IsFront : ℕ → List ℕ → Type 0
IsFront n s = (n ≡ first_bytes 8 s) × AreBytes s
