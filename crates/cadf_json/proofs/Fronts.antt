-- First bytes as numbers: what is less as a number is less as a text.
use Rattle.cadf_json.proofs.Common.{common_steps, ◌≡◌, ℕ, zero, suc, ◌+◌, ◌*◌, ◌^◌, ◌<◌, List, [], ◌∷◌, get_or, refl, sym, ap, arith, Ordering, Less, Equal, Greater, nat_cmp, mul-le, add-mul, pow-succ', ordering_then, slice_cmp, first_bytes, AreBytes, IsFront}
use Rattle.cadf_json.proofs.Orders.{greater-from_less}

pub front_bytes : (s : List ℕ) → get_or s 0 0 * 256 ^ 7 + get_or s 1 0 * 256 ^ 6 + get_or s 2 0 * 256 ^ 5 + get_or s 3 0 * 256 ^ 4 + get_or s 4 0 * 256 ^ 3
    + get_or s 5 0 * 256 ^ 2
    + get_or s 6 0 * 256
    + get_or s 7 0
    ≡ first_bytes 8 s
front_bytes [] = refl
front_bytes (a ∷ []) = omega arith
front_bytes (a ∷ b ∷ []) = omega arith
front_bytes (a ∷ b ∷ c ∷ []) = omega arith
front_bytes (a ∷ b ∷ c ∷ d ∷ []) = omega arith
front_bytes (a ∷ b ∷ c ∷ d ∷ e ∷ []) = omega arith
front_bytes (a ∷ b ∷ c ∷ d ∷ e ∷ f ∷ []) = omega arith
front_bytes (a ∷ b ∷ c ∷ d ∷ e ∷ f ∷ g ∷ []) = omega arith
front_bytes (a ∷ b ∷ c ∷ d ∷ e ∷ f ∷ g ∷ h ∷ s) = omega arith

later : (b : ℕ) (s : List ℕ) → AreBytes (b ∷ s) → AreBytes s
later b s h i = h (suc i)

-- a byte counts more than all that follows it
next_byte : (b f W : ℕ) → b < 256 → f < W → b * W + f < 256 * W
next_byte b f W small less =
    let most = mul-le (b + 1) W 256 W (omega (arith, small)) (omega arith) in
    let sum = add-mul b 1 W in
    omega (arith, most, sum, less)

higher_byte : (x y f g W : ℕ) → y < x → g < W → y * W + g < x * W + f
higher_byte x y f g W less small =
    let most = mul-le (y + 1) W x W (omega (arith, less)) (omega arith) in
    let sum = add-mul y 1 W in
    omega (arith, most, sum, small)

front_below : (n : ℕ) (s : List ℕ) → AreBytes s → first_bytes n s < 256 ^ n
front_below zero s h = omega arith
front_below (suc n) [] h =
    let more = front_below n [] h in
    let sum = pow-succ' 256 n in
    omega (arith, more, sum)
front_below (suc n) (b ∷ s) h = rw (pow-succ' 256 n) (next_byte b (first_bytes n s) (256 ^ n) (h 0) (front_below n s (later b s h)))

front_less : (n : ℕ) (a b : List ℕ) → AreBytes a → AreBytes b → first_bytes n a < first_bytes n b → slice_cmp nat_cmp a b ≡ Less
front_less zero a b u v h = absurd (omega (arith, h))
front_less (suc n) [] [] u v h = absurd (omega (arith, h))
front_less (suc n) [] (y ∷ b) u v h = refl
front_less (suc n) (x ∷ a) [] u v h = absurd (omega (arith, h))
front_less (suc n) (x ∷ a) (y ∷ b) u v h = by (nat_cmp x y) refl (front_less n a b (later x a u) (later y b v))
  where
    by : (o : Ordering) → nat_cmp x y ≡ o → (first_bytes n a < first_bytes n b → slice_cmp nat_cmp a b ≡ Less) → ordering_then o (slice_cmp nat_cmp a b) ≡ Less
    by Less is more = refl
    by Equal is more =
        let same : x ≡ y = grind (arith, common_steps) in
        let first = ap (λ z. z * 256 ^ n) same in
        more (omega (arith, h, first))
    by Greater is more =
        let less : y < x = grind (arith, common_steps) in
        let higher = higher_byte x y (first_bytes n a) (first_bytes n b) (256 ^ n) less (front_below n b (later y b v)) in
        absurd (omega (arith, h, higher))

-- the order of two texts whose fronts differ
pub by_fronts : (a b : List ℕ) (m n : ℕ) (o : Ordering) → IsFront m a → IsFront n b → o ≡ nat_cmp m n → (o ≡ Equal → ⊥) → o ≡ slice_cmp nat_cmp a b
by_fronts a b m n Less f g is other =
    let less : first_bytes 8 a < first_bytes 8 b = grind (arith, common_steps) in
    sym (front_less 8 a b f.1 g.1 less)
by_fronts a b m n Equal f g is other = absurd (other refl)
by_fronts a b m n Greater f g is other =
    let less : first_bytes 8 b < first_bytes 8 a = grind (arith, common_steps) in
    sym (greater-from_less a b (front_less 8 b a g.1 f.1 less))
