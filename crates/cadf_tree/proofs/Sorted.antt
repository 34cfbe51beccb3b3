-- Digests in the order of their bytes rise by bits.
use Rattle.cadf_tree.proofs.Common.{common_steps, ◌≡◌, ◌∙◌, ◌+◌, ◌-◌, ◌*◌, ◌/◌, ◌%◌, ◌^◌, ◌<◌, ◌≤◌, ◌++◌, ℕ, zero, suc, Bool, true, false, cond, List, [], ◌∷◌, length, get_or, refl, ap, sym, subst, arith, not, nat_lt, nat_eq, if◌then◌else◌, Ordering, Less, Equal, Greater, nat_cmp, ordering_then, slice_cmp, filter, AllByRecursion, IsStrictlySortedBy, ltb-true, ltb-false, eqb-true, le-div, div-mul-le_self, div-div-eq-div-mul, one-le-pow, Text, IsDigest, IsSet, all_leaves, divided, tree_of, bit, zeros, ones, alike, parting_from, parting, IsBefore, Rises, AreApart}
use Rattle.cadf_tree.proofs.OnePass.{Share, part_at_most, share_parting, zeros_none, all_in, beside_leaves}

-- ---- the bits of a byte, by their weight

abbrev pub byte_bit : ℕ → ℕ → Bool
byte_bit k x = nat_eq (x / 2 ^ k % 2) 1

pub record BytePart (x y : ℕ) : Type 0 where
  pub k : ℕ
  pub small : k < 8
  pub same : (i : ℕ) → k < i → i < 8 → byte_bit i x ≡ byte_bit i y
  pub low : byte_bit k x ≡ false
  pub high : byte_bit k y ≡ true

div_mono : (q x y : ℕ) → 0 < q → x ≤ y → x / q ≤ y / q
div_mono q x y pos h = le-div (x / q) y q pos (omega (arith, div-mul-le_self x q, h))

half_again : (x n : ℕ) → x / 2 ^ suc n ≡ x / 2 ^ n / 2
half_again x n =
    let two : 2 ^ suc n ≡ 2 ^ n * 2 = omega arith in
    ap (λ z. x / z) two ∙ sym (div-div-eq-div-mul x (2 ^ n) 2)

parity_low : (u v : ℕ) → u ≤ v → u / 2 ≡ v / 2 → (u ≡ v → ⊥) → nat_eq (u % 2) 1 ≡ false
parity_low u v le e ne =
    let even : u % 2 ≡ 0 = omega (arith, le, e, ne) in
    ap (λ z. nat_eq z 1) even

parity_high : (u v : ℕ) → u ≤ v → u / 2 ≡ v / 2 → (u ≡ v → ⊥) → nat_eq (v % 2) 1 ≡ true
parity_high u v le e ne =
    let odd : v % 2 ≡ 1 = omega (arith, le, e, ne) in
    ap (λ z. nat_eq z 1) odd

ne_from : (u v : ℕ) → nat_eq u v ≡ false → u ≡ v → ⊥
ne_from u v f e =
    let both : true ≡ false = sym (ap (λ z. nat_eq z v) e ∙ nat_self v) ∙ f in
    absurd (cc)
  where
    nat_self : (v : ℕ) → nat_eq v v ≡ true
    nat_self v = grind (arith, common_steps)

last_bit : (n x y : ℕ) → x / 2 ^ n ≡ y / 2 ^ n → ((i : ℕ) → suc n ≤ i → i < 8 → byte_bit i x ≡ byte_bit i y) → (i : ℕ) → n ≤ i → i < 8 → byte_bit i x ≡ byte_bit i y
last_bit n x y e f i low high = by (nat_lt n i) refl
  where
    by : (z : Bool) → nat_lt n i ≡ z → byte_bit i x ≡ byte_bit i y
    by true z = f i (ltb-true _ _ z) high
    by false z =
        let same : i ≡ n = omega (arith, low, ltb-false _ _ z) in
        ap (λ m. byte_bit m x) same ∙ ap (λ u. nat_eq (u % 2) 1) e ∙ ap (λ m. byte_bit m y) (sym same)

byte_step : (n x y : ℕ) → suc n ≤ 8 → x < y → x / 2 ^ suc n ≡ y / 2 ^ suc n → ((i : ℕ) → suc n ≤ i → i < 8 → byte_bit i x ≡ byte_bit i y)
    → (x / 2 ^ n ≡ y / 2 ^ n → BytePart x y) → (z : Bool) → nat_eq (x / 2 ^ n) (y / 2 ^ n) ≡ z → BytePart x y
byte_step n x y room less e f next true z = next (eqb-true _ _ z)
byte_step n x y room less e f next false z =
    let mono = div_mono (2 ^ n) x y (one-le-pow n 2 (omega arith)) (omega (arith, less)) in
    let halved = sym (half_again x n) ∙ e ∙ half_again y n in
    record {
      k = n;
      small = omega (arith, room);
      same = f;
      low = parity_low (x / 2 ^ n) (y / 2 ^ n) mono halved (ne_from _ _ z);
      high = parity_high (x / 2 ^ n) (y / 2 ^ n) mono halved (ne_from _ _ z);
    }

byte_by : (n x y : ℕ) → n ≤ 8 → x < y → x / 2 ^ n ≡ y / 2 ^ n → ((i : ℕ) → n ≤ i → i < 8 → byte_bit i x ≡ byte_bit i y) → BytePart x y
byte_by zero x y room less e f = absurd (omega (arith, less, e))
byte_by (suc n) x y room less e f =
    byte_step n x y room less e f (λ same. byte_by n x y (omega (arith, room)) less same (last_bit n x y same f)) (nat_eq (x / 2 ^ n) (y / 2 ^ n)) refl

byte_parts : (x y : ℕ) → x < y → x < 256 → y < 256 → BytePart x y
byte_parts x y less low high = byte_by 8 x y (omega arith) less (omega (arith, low, high)) (λ i least most. absurd (omega (arith, least, most)))

-- ---- the first bit at which digests differ

differ_by : (n i : ℕ) (a b : Text) → (parting_from n (suc i) a b < n + suc i → alike (bit (parting_from n (suc i) a b) a) (bit (parting_from n (suc i) a b) b) ≡ false)
    → (z : Bool) → alike (bit i a) (bit i b) ≡ z → (if z then parting_from n (suc i) a b else i) < suc n + i
    → alike (bit (if z then parting_from n (suc i) a b else i) a) (bit (if z then parting_from n (suc i) a b else i) b) ≡ false
differ_by n i a b f true z low = f (omega (arith, low))
differ_by n i a b f false z low = z

differ_from : (n i : ℕ) (a b : Text) → parting_from n i a b < n + i → alike (bit (parting_from n i a b) a) (bit (parting_from n i a b) b) ≡ false
unfolding parting_from
differ_from zero i a b low = absurd (omega (arith, low))
differ_from (suc n) i a b low = differ_by n i a b (differ_from n (suc i) a b) (alike (bit i a) (bit i b)) refl low

differ : (a b : Text) → parting a b < 256 → alike (bit (parting a b) a) (bit (parting a b) b) ≡ false
unfolding parting
differ a b low = differ_from 256 0 a b low

alike_itself : (x y : Bool) → x ≡ y → alike x y ≡ true
alike_itself true y e = sym e
alike_itself false y e = ap not (sym e)

before_at : (a b : Text) (p : ℕ) → p < 256 → Share p a b → bit p a ≡ false → bit p b ≡ true → IsBefore a b
before_at a b p small share low high = record {
  some = omega (arith, most, small);
  low = subst (λ z. bit z a ≡ false) (sym same) low;
  high = subst (λ z. bit z b ≡ true) (sym same) high;
}
  where
    most : parting a b ≤ p
    most = part_at_most a b p low high

    earlier : parting a b < p → ⊥
    earlier h =
        let both : true ≡ false = sym (alike_itself _ _ (share (parting a b) h)) ∙ differ a b (omega (arith, h, small)) in
        absurd (cc)

    by : (z : Bool) → nat_lt (parting a b) p ≡ z → parting a b ≡ p
    by true z = absurd (earlier (ltb-true _ _ z))
    by false z = omega (arith, most, ltb-false _ _ z)

    same : parting a b ≡ p
    same = by (nat_lt (parting a b) p) refl

-- ---- a byte that differs

module _ (a b : Text) (p : ℕ) (within : p < 32) (bytes : (i : ℕ) → i < p → get_or a i 0 ≡ get_or b i 0) (part : BytePart (get_or a p 0) (get_or b p 0)) where
  bit_at : (d : Text) → bit (8 * p + (7 - part.k)) d ≡ byte_bit part.k (get_or d p 0)
  unfolding bit
  bit_at d = λ i. byte_bit (weight i) (get_or d (byte i) 0)
    where
      byte : (8 * p + (7 - part.k)) / 8 ≡ p
      byte = omega (arith, part.small)

      weight : 7 - (8 * p + (7 - part.k)) % 8 ≡ part.k
      weight = omega (arith, part.small)

  share_before : Share (8 * p + (7 - part.k)) a b
  unfolding bit
  share_before j low = by (nat_lt (j / 8) p) refl
    where
      by : (z : Bool) → nat_lt (j / 8) p ≡ z → byte_bit (7 - j % 8) (get_or a (j / 8) 0) ≡ byte_bit (7 - j % 8) (get_or b (j / 8) 0)
      by true z = ap (byte_bit (7 - j % 8)) (bytes (j / 8) (ltb-true _ _ z))
      by false z =
          let same : j / 8 ≡ p = omega (arith, low, ltb-false _ _ z, part.small) in
          ap (λ m. byte_bit (7 - j % 8) (get_or a m 0)) same
          ∙ part.same (7 - j % 8) (omega (arith, low, ltb-false _ _ z, part.small)) (omega arith)
          ∙ ap (λ m. byte_bit (7 - j % 8) (get_or b m 0)) (sym same)

  pub before_by : IsBefore a b
  before_by =
      before_at a b (8 * p + (7 - part.k)) (omega (arith, within, part.small)) share_before (bit_at a ∙ part.low) (bit_at b ∙ part.high)

-- ---- the order of bytes

pub record IsBelow (a b : Text) : Type 0 where
  pub place : ℕ
  pub within : place < length a
  pub same : (i : ℕ) → i < place → get_or a i 0 ≡ get_or b i 0
  pub less : get_or a place 0 < get_or b place 0

less_by : (x y : ℕ) → nat_cmp x y ≡ Less → x < y
less_by x y e = grind (arith, common_steps)

equal_by : (x y : ℕ) → nat_cmp x y ≡ Equal → x ≡ y
equal_by x y e = grind (arith, common_steps)

not_less_equal : Equal ≡ Less → ⊥
not_less_equal e = absurd (cc)

not_less_greater : Greater ≡ Less → ⊥
not_less_greater e = absurd (cc)

same_more : (x y : ℕ) (xs ys : Text) (p : ℕ) → x ≡ y → ((i : ℕ) → i < p → get_or xs i 0 ≡ get_or ys i 0) → (i : ℕ) → i < suc p → get_or (x ∷ xs) i 0 ≡ get_or (y ∷ ys) i 0
same_more x y xs ys p e f zero low = e
same_more x y xs ys p e f (suc i) low = f i (omega (arith, low))

below_by : (x y : ℕ) (xs ys : Text) (o : Ordering) → nat_cmp x y ≡ o → (slice_cmp nat_cmp xs ys ≡ Less → IsBelow xs ys) → ordering_then o (slice_cmp nat_cmp xs ys) ≡ Less
    → IsBelow (x ∷ xs) (y ∷ ys)
below_by x y xs ys Less e f h = record { place = 0; within = omega arith; same = λ i low. absurd (omega (arith, low)); less = less_by x y e }
below_by x y xs ys Equal e f h =
    let rest = f h in
    record { place = suc rest.place; within = omega (arith, rest.within); same = same_more x y xs ys rest.place (equal_by x y e) rest.same; less = rest.less }
below_by x y xs ys Greater e f h = absurd (not_less_greater h)

below : (a b : Text) → length a ≡ length b → slice_cmp nat_cmp a b ≡ Less → IsBelow a b
below [] [] size h = absurd (not_less_equal h)
below [] (y ∷ ys) size h = absurd (omega (arith, size))
below (x ∷ xs) [] size h = absurd (omega (arith, size))
below (x ∷ xs) (y ∷ ys) size h = below_by x y xs ys (nat_cmp x y) refl (below xs ys (omega (arith, size))) h

before : (a b : Text) → IsDigest a → IsDigest b → slice_cmp nat_cmp a b ≡ Less → IsBefore a b
before a b m n h =
    let at = below a b (m.size ∙ sym n.size) h in
    before_by a b at.place (omega (arith, at.within, m.size)) at.same (byte_parts _ _ at.less (m.bytes at.place) (n.bytes at.place))

all_before : (a : Text) (ds : List Text) → IsDigest a → AllByRecursion IsDigest ds → AllByRecursion (λ y. slice_cmp nat_cmp a y ≡ Less) ds → AllByRecursion (IsBefore a) ds
all_before a [] m f h = tt
all_before a (d ∷ ds) m f h = (before a d m f.0 h.0, all_before a ds m f.1 h.1)

rises : (ds : List Text) → AllByRecursion IsDigest ds → IsStrictlySortedBy (slice_cmp nat_cmp) ds → Rises ds
unfolding IsStrictlySortedBy
rises [] f h = tt
rises (d ∷ ds) f h = (all_before d ds f.0 f.1 h.0, rises ds f.1 h.1)

-- ---- no two have the same bits

pub all_kept : (P : Text → Type 0) (p : Text → Bool) (ds : List Text) → AllByRecursion P ds → AllByRecursion P (filter p ds)
all_kept P p [] h = tt
all_kept P p (d ∷ ds) h = by (p d) (all_kept P p ds h.1)
  where
    by : (b : Bool) → AllByRecursion P (filter p ds) → AllByRecursion P (cond b (d ∷ filter p ds) (filter p ds))
    by true rest = (h.0, rest)
    by false rest = rest

pub rises_kept : (p : Text → Bool) (ds : List Text) → Rises ds → Rises (filter p ds)
rises_kept p [] h = tt
rises_kept p (d ∷ ds) h = by (p d) (rises_kept p ds h.1)
  where
    by : (b : Bool) → Rises (filter p ds) → Rises (cond b (d ∷ filter p ds) (filter p ds))
    by true rest = (all_kept (IsBefore d) p ds h.0, rest)
    by false rest = rest

-- the first i bits of each are those of w
abbrev pub AllHave : ℕ → (ℕ → Bool) → List Text → Type 0
AllHave i w ds = AllByRecursion (λ d. (j : ℕ) → j < i → bit j d ≡ w j) ds

abbrev pub with_bit : ℕ → Bool → (ℕ → Bool) → ℕ → Bool
with_bit i b w j = cond (nat_lt j i) (w j) b

have_more : (i : ℕ) (b : Bool) (w : ℕ → Bool) (d : Text) → ((j : ℕ) → j < i → bit j d ≡ w j) → bit i d ≡ b → (j : ℕ) → j < suc i → bit j d ≡ with_bit i b w j
have_more i b w d h e j low = by (nat_lt j i) refl
  where
    by : (z : Bool) → nat_lt j i ≡ z → bit j d ≡ cond z (w j) b
    by true z = h j (ltb-true _ _ z)
    by false z =
        let same : j ≡ i = omega (arith, low, ltb-false _ _ z) in
        ap (λ m. bit m d) same ∙ e

not_true : (x : Bool) → not x ≡ true → x ≡ false
not_true true e = sym e
not_true false e = refl

pub zeros_have : (i : ℕ) (w : ℕ → Bool) (ds : List Text) → AllHave i w ds → AllHave (suc i) (with_bit i false w) (zeros i ds)
zeros_have i w [] h = tt
zeros_have i w (d ∷ ds) h = by (bit i d) refl (zeros_have i w ds h.1)
  where
    by : (b : Bool) → bit i d ≡ b → AllHave (suc i) (with_bit i false w) (zeros i ds) → AllHave (suc i) (with_bit i false w) (cond (not b) (d ∷ zeros i ds) (zeros i ds))
    by true e rest = rest
    by false e rest = (have_more i false w d h.0 e, rest)

pub ones_have : (i : ℕ) (w : ℕ → Bool) (ds : List Text) → AllHave i w ds → AllHave (suc i) (with_bit i true w) (ones i ds)
ones_have i w [] h = tt
ones_have i w (d ∷ ds) h = by (bit i d) refl (ones_have i w ds h.1)
  where
    by : (b : Bool) → bit i d ≡ b → AllHave (suc i) (with_bit i true w) (ones i ds) → AllHave (suc i) (with_bit i true w) (cond b (d ∷ ones i ds) (ones i ds))
    by true e rest = (have_more i true w d h.0 e, rest)
    by false e rest = rest

pub one_at_most : (i w : ℕ) (v : ℕ → Bool) (ds : List Text) → i ≡ 256 → AllHave i v ds → Rises ds → length ds ≤ 1
one_at_most i w v [] full h r = omega arith
one_at_most i w v (d ∷ []) full h r = omega arith
one_at_most i w v (d ∷ e ∷ ds) full h r =
    let low : parting d e < i = omega (arith, r.0.0.some, full) in
    let both : false ≡ true = sym r.0.0.low ∙ h.0 (parting d e) low ∙ sym (h.1.0 (parting d e) low) ∙ r.0.0.high in
    absurd (cc)

are_apart : (n i : ℕ) (v : ℕ → Bool) (ds : List Text) → n + i ≡ 256 → AllHave i v ds → Rises ds → AreApart n i ds
unfolding AreApart
are_apart zero i v ds full h r = one_at_most i 0 v ds (omega (arith, full)) h r
are_apart (suc n) i v ds full h r = (
  are_apart n (suc i) (with_bit i false v) (zeros i ds) (omega (arith, full)) (zeros_have i v ds h) (rises_kept (λ d. not (bit i d)) ds r),
  are_apart n (suc i) (with_bit i true v) (ones i ds) (omega (arith, full)) (ones_have i v ds h) (rises_kept (λ d. bit i d) ds r),
)

pub none_have : (v : ℕ → Bool) (ds : List Text) → AllHave 0 v ds
none_have v [] = tt
none_have v (d ∷ ds) = ((λ j low. absurd (omega (arith, low))), none_have v ds)

pub set_rises : (ds : List Text) → IsSet ds → Rises ds
set_rises ds h = rises ds h.digests h.rising

pub set_apart : (ds : List Text) → IsSet ds → AreApart 256 0 ds
set_apart ds h = are_apart 256 0 (λ j. false) ds (omega arith) (none_have (λ j. false) ds) (set_rises ds h)

-- ---- the leaves of the tree

after_one : (i : ℕ) (w : ℕ → Bool) (d e : Text) → ((j : ℕ) → j < i → bit j d ≡ w j) → ((j : ℕ) → j < i → bit j e ≡ w j) → IsBefore d e → bit i d ≡ true → bit i e ≡ true
after_one i w d e f g h high = by (nat_lt i (parting d e)) refl
  where
    early : parting d e < i → ⊥
    early low =
        let both : false ≡ true = sym h.low ∙ f (parting d e) low ∙ sym (g (parting d e) low) ∙ h.high in
        absurd (cc)

    at : parting d e ≡ i → ⊥
    at same =
        let both : false ≡ true = sym h.low ∙ ap (λ j. bit j d) same ∙ high in
        absurd (cc)

    not_late : parting d e ≤ i → (z : Bool) → nat_lt (parting d e) i ≡ z → ⊥
    not_late most true z = early (ltb-true _ _ z)
    not_late most false z = at (omega (arith, most, ltb-false _ _ z))

    by : (z : Bool) → nat_lt i (parting d e) ≡ z → bit i e ≡ true
    by true z = sym (share_parting d e i (ltb-true _ _ z)) ∙ high
    by false z = absurd (not_late (ltb-false _ _ z) (nat_lt (parting d e) i) refl)

all_high : (i : ℕ) (w : ℕ → Bool) (d : Text) (ds : List Text) → ((j : ℕ) → j < i → bit j d ≡ w j) → AllHave i w ds → AllByRecursion (IsBefore d) ds → bit i d ≡ true
    → AllByRecursion (λ e. bit i e ≡ true) ds
all_high i w d [] f h b high = tt
all_high i w d (e ∷ ds) f h b high = (after_one i w d e f h.0 b.0 high, all_high i w d ds f h.1 b.1 high)

pub halves_are : (i : ℕ) (w : ℕ → Bool) (ds : List Text) → AllHave i w ds → Rises ds → zeros i ds ++ ones i ds ≡ ds
halves_are i w [] h r = refl
halves_are i w (d ∷ ds) h r = by (bit i d) refl (halves_are i w ds h.1 r.1)
  where
    by : (b : Bool) → bit i d ≡ b → zeros i ds ++ ones i ds ≡ ds → cond (not b) (d ∷ zeros i ds) (zeros i ds) ++ cond b (d ∷ ones i ds) (ones i ds) ≡ d ∷ ds
    by true e same =
        let high = all_high i w d ds h.0 h.1 r.0 e in
        λ j. zeros_none i ds high j ++ d ∷ all_in (λ x. bit i x) ds high j
    by false e same = ap (λ l. d ∷ l) same

pub leaves_from : (n i : ℕ) (w : ℕ → Bool) (ds : List Text) → n + i ≡ 256 → AllHave i w ds → Rises ds → all_leaves (divided n i ds) ≡ ds
unfolding divided
leaves_from zero i w [] full h r = refl
leaves_from zero i w (d ∷ []) full h r = refl
leaves_from zero i w (d ∷ e ∷ ds) full h r = absurd (omega (arith, one_at_most i 0 w (d ∷ e ∷ ds) (omega (arith, full)) h r))
leaves_from (suc n) i w ds full h r =
    beside_leaves (divided n (suc i) (zeros i ds)) (divided n (suc i) (ones i ds))
    ∙ (λ j. leaves_from n (suc i) (with_bit i false w) (zeros i ds) (omega (arith, full)) (zeros_have i w ds h) (rises_kept (λ d. not (bit i d)) ds r) j
    ++ leaves_from n (suc i) (with_bit i true w) (ones i ds) (omega (arith, full)) (ones_have i w ds h) (rises_kept (λ d. bit i d) ds r) j)
    ∙ halves_are i w ds h r

pub leaves_are : (ds : List Text) → IsSet ds → all_leaves (tree_of ds) ≡ ds
unfolding tree_of
leaves_are ds h = leaves_from 256 0 (λ j. false) ds (omega arith) (none_have (λ j. false) ds) (set_rises ds h)
