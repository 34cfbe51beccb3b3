-- Counts to which the bits of a further word are added.
use Rattle.cadf_sketch.proofs.Common.{common_steps, ◌≡◌, ◌∙◌, ◌<◌, ◌≤◌, ◌+◌, ◌-◌, ◌/◌, ◌%◌, ◌^◌, ℕ, zero, suc, List, [], ◌∷◌, length, get_or, set, refl, ap, sym, arith, below_more, add_assoc, zero-add, Bool, true, false, cond, nat_eq, count_by, mod-add-mod, is_count_by, nat_tests, get_or-set_same, get_or-set_other, length-set, ext_get_or, word, with_bits, tallied, tallied_all, has_bit, Tally}

pub length-with_bits : (ns : List ℕ) (w : ℕ) → length (with_bits ns w) ≡ length ns
length-with_bits [] w = refl
length-with_bits (n ∷ ns) w = ap (λ k. suc k) (length-with_bits ns w)

pub at_bit : (ns : List ℕ) (w k : ℕ) → k < length ns
    → get_or (with_bits ns w) k 0 ≡ (get_or ns k 0 + w / 2 ^ (length ns - 1 - k) % 2) % 2 ^ 64
at_bit [] w k h = absurd (omega arith)
at_bit (n ∷ ns) w zero h = grind (arith, common_steps)
at_bit (n ∷ ns) w (suc k) h =
    let within : k < length ns = omega arith in
    let at : length ns - 1 - k ≡ length (n ∷ ns) - 1 - suc k = omega arith in
    at_bit ns w k within ∙ ap (λ e. (get_or ns k 0 + w / 2 ^ e % 2) % 2 ^ 64) at

pub record HasBitsBelow (place : ℕ) (old new : List ℕ) (w : ℕ) : Type 0 where
  pub length : length new ≡ length old
  pub done : (k : ℕ) → k < place → get_or new k 0 ≡ get_or (with_bits old w) k 0
  pub rest : (k : ℕ) → place ≤ k → get_or new k 0 ≡ get_or old k 0

pub one_more_bit : (place : ℕ) (old new : List ℕ) (w : ℕ) → place < length old → HasBitsBelow place old new w
    → HasBitsBelow (place + 1) old (set new place ((get_or new place 0 + w / 2 ^ (length old - 1 - place) % 2) % 2 ^ 64)) w
one_more_bit place old new w within before = grind (arith, common_steps, length-set, below_more, get_or-set_other, get_or-set_same, at_bit)

pub all_bits : (place : ℕ) (old new : List ℕ) (w : ℕ) → length old ≤ place → HasBitsBelow place old new w → new ≡ with_bits old w
all_bits place old new w h before = ext_get_or 0 new (with_bits old w) (before.length ∙ sym (length-with_bits old w))
    (λ k within. before.done k (omega (arith, before.length)))

-- ---- the counts of several digests

added_digests : (t : Tally) (ds : List (List ℕ)) (k : ℕ) → t.digests ≡ k % 2 ^ 64 → (tallied_all t ds).digests ≡ (k + length ds) % 2 ^ 64
unfolding tallied
added_digests t [] k h = grind (arith, common_steps)
added_digests t (d ∷ ds) k h =
    let one : (t.digests + 1) % 2 ^ 64 ≡ (k + 1) % 2 ^ 64 = ap (λ n. (n + 1) % 2 ^ 64) h ∙ mod-add-mod k (2 ^ 64) 1 in
    let more : k + 1 + length ds ≡ k + length (d ∷ ds) = omega arith in
    added_digests (tallied t d) ds (k + 1) one ∙ ap (λ n. n % 2 ^ 64) more

pub tallied_digests : (t : Tally) (ds : List (List ℕ)) → t.digests ≡ 0 → (tallied_all t ds).digests ≡ length ds % 2 ^ 64
tallied_digests t ds none = added_digests t ds 0 none ∙ ap (λ n. n % 2 ^ 64) (zero-add (length ds))

bit_is : (w : ℕ) → w % 2 ≡ cond (nat_eq (w % 2) 1) 1 0
bit_is w = grind (arith, nat_tests)

abbrev set_in : ℕ → List (List ℕ) → ℕ
set_in bit [] = 0
set_in bit (d ∷ ds) = cond (has_bit bit d) 1 0 + set_in bit ds

counted : (bit : ℕ) (ds : List (List ℕ)) → set_in bit ds ≡ count_by (has_bit bit) ds
counted bit = is_count_by (set_in bit) (has_bit bit) refl (λ d ds. by (has_bit bit d) (set_in bit ds))
  where
    by : (b : Bool) (n : ℕ) → cond b 1 0 + n ≡ cond b (1 + n) n
    by true n = refl
    by false n = zero-add n

added_ones : (bit : ℕ) (t : Tally) (ds : List (List ℕ)) (k : ℕ) → bit < 64 → length t.ones ≡ 64 → get_or t.ones bit 0 ≡ k % 2 ^ 64
    → get_or (tallied_all t ds).ones bit 0 ≡ (k + set_in bit ds) % 2 ^ 64
unfolding tallied
added_ones bit t [] k within size h = grind (arith, common_steps)
added_ones bit t (d ∷ ds) k within size h =
    let w = word d 0 in
    let inside : bit < length t.ones = omega arith in
    let place : length t.ones - 1 - bit ≡ 63 - bit = omega arith in
    let added : get_or (with_bits t.ones w) bit 0 ≡ (k % 2 ^ 64 + cond (has_bit bit d) 1 0) % 2 ^ 64 =
    at_bit t.ones w bit inside ∙ ap (λ e. (get_or t.ones bit 0 + w / 2 ^ e % 2) % 2 ^ 64) place
    ∙ ap (λ n. (n + w / 2 ^ (63 - bit) % 2) % 2 ^ 64) h ∙ ap (λ b. (k % 2 ^ 64 + b) % 2 ^ 64) (bit_is (w / 2 ^ (63 - bit))) in
    added_ones bit (tallied t d) ds (k + cond (has_bit bit d) 1 0) within (length-with_bits t.ones w ∙ size)
    (added ∙ mod-add-mod k (2 ^ 64) (cond (has_bit bit d) 1 0))
    ∙ ap (λ n. n % 2 ^ 64) (add_assoc k (cond (has_bit bit d) 1 0) (set_in bit ds))

pub tallied_ones : (bit : ℕ) (t : Tally) (ds : List (List ℕ)) → bit < 64 → length t.ones ≡ 64 → get_or t.ones bit 0 ≡ 0
    → get_or (tallied_all t ds).ones bit 0 ≡ count_by (has_bit bit) ds % 2 ^ 64
tallied_ones bit t ds within size none = added_ones bit t ds 0 within size none ∙ ap (λ n. n % 2 ^ 64) (zero-add (set_in bit ds) ∙ counted bit ds)
