-- One step of the pass over leaves, and that it ends.
use Rattle.cadf_tree.proofs.Common.{◌≡◌, ◌∙◌, ◌+◌, ◌-◌, ◌<◌, ◌≤◌, ℕ, zero, suc, Bool, true, false, List, [], ◌∷◌, length, refl, ap, sym, subst, arith, nat_lt, if◌then◌else◌, le-ltb, Text, leaf_hash, node_hash, bit, alike, parting_from, parting, extended}

pub shorter : (f : ℕ) (a h : Text) (ds : List Text) (k : ℕ) → length (extended f a h ds k).1 ≤ length ds
shorter zero a h ds k = omega arith
shorter (suc f) a h [] k = omega arith
shorter (suc f) a h (d ∷ ds) k = by (nat_lt (parting a d) k) (shorter f a (node_hash h mid.0) mid.1 k) (shorter f d (leaf_hash d) ds (suc (parting a d)))
  where
    mid : Text × List Text
    mid = extended f d (leaf_hash d) ds (suc (parting a d))

    by : (z : Bool) → length (extended f a (node_hash h mid.0) mid.1 k).1 ≤ length mid.1 → length mid.1 ≤ length ds
        → length (if z then (h, d ∷ ds) else extended f a (node_hash h mid.0) mid.1 k).1 ≤ suc (length ds)
    by true low high = omega arith
    by false low high = omega (arith, low, high)

pub fuel : (f g : ℕ) (a h : Text) (ds : List Text) (k : ℕ) → length ds ≤ f → length ds ≤ g → extended f a h ds k ≡ extended g a h ds k
fuel zero zero a h ds k low high = refl
fuel zero (suc g) a h [] k low high = refl
fuel zero (suc g) a h (d ∷ ds) k low high = absurd (omega (arith, low))
fuel (suc f) zero a h [] k low high = refl
fuel (suc f) zero a h (d ∷ ds) k low high = absurd (omega (arith, high))
fuel (suc f) (suc g) a h [] k low high = refl
fuel (suc f) (suc g) a h (d ∷ ds) k low high =
    by (nat_lt (parting a d) k) (fuel f g d (leaf_hash d) ds (suc (parting a d)) (omega (arith, low)) (omega (arith, high)))
    (fuel f g a (node_hash h (mid g).0) (mid g).1 k (omega (arith, low, less)) (omega (arith, high, less)))
  where
    mid : ℕ → Text × List Text
    mid n = extended n d (leaf_hash d) ds (suc (parting a d))

    less : length (mid g).1 ≤ length ds
    less = shorter g d (leaf_hash d) ds (suc (parting a d))

    by : (z : Bool) → mid f ≡ mid g → extended f a (node_hash h (mid g).0) (mid g).1 k ≡ extended g a (node_hash h (mid g).0) (mid g).1 k
        → (if z then (h, d ∷ ds) else extended f a (node_hash h (mid f).0) (mid f).1 k)
        ≡ (if z then (h, d ∷ ds) else extended g a (node_hash h (mid g).0) (mid g).1 k)
    by true same last = refl
    by false same last = (λ i. extended f a (node_hash h (same i).0) (same i).1 k) ∙ last

-- what follows is of another part
pub step_go : (a h d : Text) (ds : List Text) (k : ℕ) (right : Text) (rest : List Text) → k ≤ parting a d
    → right ≡ (extended (length ds) d (leaf_hash d) ds (suc (parting a d))).0 → rest ≡ (extended (length ds) d (leaf_hash d) ds (suc (parting a d))).1
    → extended (length (d ∷ ds)) a h (d ∷ ds) k ≡ extended (length rest) a (node_hash h right) rest k
step_go a h d ds k right rest high e f =
    ap (λ z. if z then (h, d ∷ ds)
    else extended (length ds) a (node_hash h (extended (length ds) d (leaf_hash d) ds (suc (parting a d))).0) (extended (length ds) d (leaf_hash d) ds (suc (parting a d))).1 k)
    (le-ltb _ _ high)
    ∙ (λ i. extended (length ds) a (node_hash h (sym e i)) (sym f i) k)
    ∙ fuel (length ds) (length rest) a (node_hash h right) rest k (omega (arith, ap length f, shorter (length ds) d (leaf_hash d) ds (suc (parting a d)))) (omega arith)

pub none_code : (a h : Text) (rest : List Text) (k : ℕ) → rest ≡ [] → (h, rest) ≡ extended (length rest) a h rest k
none_code a h [] k e = refl
none_code a h (d ∷ ds) k e = absurd (cc)

pub go_code : (a h d : Text) (ds rest : List Text) (k p : ℕ) (leaf node right : Text) (left : List Text) → rest ≡ d ∷ ds → p ≡ parting a d → k ≤ p → leaf ≡ leaf_hash d
    → right ≡ (extended (length ds) d leaf ds (p + 1)).0 → left ≡ (extended (length ds) d leaf ds (p + 1)).1 → node ≡ node_hash h right
    → extended (length left) a node left k ≡ extended (length rest) a h rest k
go_code a h d ds rest k p leaf node right left e at high is r l n =
    ap (λ x. extended (length left) a x left k) n
    ∙ sym (step_go a h d ds k right left (subst (λ x. k ≤ x) at high) (r ∙ ap (λ x. x.0) same) (l ∙ ap (λ x. x.1) same))
    ∙ ap (λ z. extended (length z) a h z k) (sym e)
  where
    next : p + 1 ≡ suc (parting a d)
    next = omega (arith, at)

    same : extended (length ds) d leaf ds (p + 1) ≡ extended (length ds) d (leaf_hash d) ds (suc (parting a d))
    same = λ i. extended (length ds) d (is i) ds (next i)

-- ---- where two digests part

parting_on : (n i : ℕ) (a b : Text) → alike (bit i a) (bit i b) ≡ true → parting_from (suc n) i a b ≡ parting_from n (suc i) a b
unfolding parting_from
parting_on n i a b e = ap (λ z. if z then parting_from n (suc i) a b else i) e

parting_at : (n i : ℕ) (a b : Text) → alike (bit i a) (bit i b) ≡ false → parting_from (suc n) i a b ≡ i
unfolding parting_from
parting_at n i a b e = ap (λ z. if z then parting_from n (suc i) a b else i) e

parting_end : (i : ℕ) (a b : Text) → parting_from 0 i a b ≡ i
unfolding parting_from
parting_end i a b = refl

alike_same : (x y : Bool) → x ≡ y → alike x y ≡ true
alike_same true true e = refl
alike_same true false e = absurd (cc)
alike_same false true e = absurd (cc)
alike_same false false e = refl

alike_not : (x y : Bool) → (x ≡ y → ⊥) → alike x y ≡ false
alike_not true true e = absurd (e refl)
alike_not true false e = refl
alike_not false true e = refl
alike_not false false e = absurd (e refl)

pub parting_next : (w i : ℕ) (a b : Text) → i < w → bit i a ≡ bit i b → parting_from (w - i) i a b ≡ parting_from (w - (i + 1)) (i + 1) a b
parting_next w i a b low e =
    ap (λ n. parting_from n i a b) first ∙ parting_on (w - suc i) i a b (alike_same _ _ e) ∙ (λ j. parting_from (second j) (third j) a b)
  where
    first : w - i ≡ suc (w - suc i)
    first = omega (arith, low)

    second : w - suc i ≡ w - (i + 1)
    second = omega arith

    third : suc i ≡ i + 1
    third = omega arith

pub parting_here : (w i : ℕ) (a b : Text) → i < w → (bit i a ≡ bit i b → ⊥) → parting_from (w - i) i a b ≡ i
parting_here w i a b low e =
    ap (λ n. parting_from n i a b) first ∙ parting_at (w - suc i) i a b (alike_not _ _ e)
  where
    first : w - i ≡ suc (w - suc i)
    first = omega (arith, low)

pub parting_none : (w i : ℕ) (a b : Text) → i ≡ w → parting_from (w - i) i a b ≡ i
parting_none w i a b e = ap (λ n. parting_from n i a b) first ∙ parting_end i a b
  where
    first : w - i ≡ 0
    first = omega (arith, e)
