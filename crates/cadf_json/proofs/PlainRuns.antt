-- A run of bytes that JSON spells as themselves, seen eight bytes at a time.
--     mask_of_stops            the mask that three comparisons result in
--     run_through, run_stops   what an empty mask implies for the run, and what another implies
--     same_run, spelled_whole  a run is its own spelling, and so is a text that is one run
use Rattle.cadf_json.proofs.Common.{common_steps, ◌≡◌, ℕ, ◌+◌, ◌*◌, ◌%◌, ◌^◌, ◌<◌, ◌≤◌, ltb, Bool, true, false, not, ◌||◌, cond, eqb, List, [], ◌∷◌, map, length, take, drop, replicate, refl, sym, ap, ap₂, ◌∙◌, subst, arith, chunk-drop, length-chunk, leading_from_mask_l, trailing_mask_l, zip2_splat, mask_l-mod, length-drop, length-map, take_all, prefix_len-append, prefix_len-le-length, eq-eqb, ne_eqb, eqb-false, ltb-false, prefix_len, is_stop, is_plain, escape, escape_byte, escape_byte_plain, bit_or, chunk, mask_l, zip2, top, count_trailing_zeros}

-- ---- the mask

abbrev pub hit : ℕ → ℕ → ℕ
hit a b = cond (eqb a b) 255 0

abbrev pub below : ℕ → ℕ → ℕ
below a b = cond (ltb a b) 255 0

abbrev stop_mark : ℕ → ℕ
stop_mark x = bit_or (bit_or (hit x 34) (hit x 92)) (below x 32)

any_mark : (a b c : Bool) → top 7 (bit_or (bit_or (cond a 255 0) (cond b 255 0)) (cond c 255 0)) ≡ ((a || b) || c)
any_mark a b c = grind (arith, common_steps)

marks : (v : List ℕ) → map (top 7) (map stop_mark v) ≡ map is_stop v
marks [] = refl
marks (x ∷ v) = ap₂ (λ a b. a ∷ b) (any_mark (eqb x 34) (eqb x 92) (ltb x 32)) (marks v)

both_maps : (f g : ℕ → ℕ) (v : List ℕ) {a b : List ℕ} → a ≡ map f v → b ≡ map g v → zip2 bit_or a b ≡ map (λ x. bit_or (f x) (g x)) v
both_maps f g v p q = ap₂ (zip2 bit_or) p q ∙ zipped v
  where
    zipped : (xs : List ℕ) → zip2 bit_or (map f xs) (map g xs) ≡ map (λ x. bit_or (f x) (g x)) xs
    zipped [] = refl
    zipped (x ∷ xs) = ap (λ r. bit_or (f x) (g x) ∷ r) (zipped xs)

pub mask_of_stops : (v : List ℕ) → length v ≡ 8
    → mask_l (map (top 7) (zip2 bit_or (zip2 bit_or (zip2 hit v (replicate 8 34)) (zip2 hit v (replicate 8 92))) (zip2 below v (replicate 8 32)))) % 2 ^ 64
    ≡ mask_l (map is_stop v)
mask_of_stops v long =
    let lanes = both_maps _ _ v (both_maps _ _ v (zip2_splat hit v 8 34 long) (zip2_splat hit v 8 92 long)) (zip2_splat below v 8 32 long) in
    ap (λ l. mask_l l % 2 ^ 64) (ap (map (top 7)) lanes ∙ marks v) ∙ mask_l-mod (map is_stop v) 64 (omega (arith, length-map v is_stop, long))

-- ---- the run

pub run_bound : (d : List ℕ) (i : ℕ) → i ≤ length d → i + prefix_len is_plain (drop i d) ≤ length d
run_bound d i h = omega (arith, prefix_len-le-length is_plain (drop i d), length-drop i d)

none_fails : (b : Bool) (n l m : ℕ) → n ≤ l → cond (not b) (1 + n) 0 ≡ 1 + l → (n ≡ l → m ≡ 0) → cond b 1 0 + 2 * m ≡ 0
none_fails b n l m le e ih = grind (arith, common_steps)

all_pass : (xs : List ℕ) → prefix_len is_plain xs ≡ length xs → mask_l (map is_stop xs) ≡ 0
all_pass [] e = refl
all_pass (x ∷ xs) e = none_fails (is_stop x) _ (length xs) _ (prefix_len-le-length is_plain xs) (omega arith) (all_pass xs)

split : (d : List ℕ) (i n : ℕ)
    → prefix_len is_plain (drop i d)
    ≡ cond (eqb (prefix_len is_plain (chunk i n d)) (length (chunk i n d))) (length (chunk i n d) + prefix_len is_plain (drop (i + n) d))
    (prefix_len is_plain (chunk i n d))
split d i n = ap (prefix_len is_plain) (chunk-drop i n d) ∙ prefix_len-append is_plain (chunk i n d) (drop (i + n) d)

pub run_through : (d : List ℕ) (i n : ℕ) → i + n ≤ length d → mask_l (map is_stop (chunk i n d)) ≡ 0
    → prefix_len is_plain (drop i d) ≡ n + prefix_len is_plain (drop (i + n) d)
run_through d i n room none =
    let c = chunk i n d in
    split d i n
    ∙ ap (λ b. cond b (length c + prefix_len is_plain (drop (i + n) d)) (prefix_len is_plain c)) (eq-eqb _ _ (leading_from_mask_l is_stop c none))
    ∙ ap (λ k. k + prefix_len is_plain (drop (i + n) d)) (length-chunk i n d room)

pub run_stops : (d : List ℕ) (i n : ℕ) → i + n ≤ length d → n ≤ 64 → 0 < mask_l (map is_stop (chunk i n d))
    → prefix_len is_plain (drop i d) ≡ count_trailing_zeros 64 (mask_l (map is_stop (chunk i n d)))
run_stops d i n room short some =
    let c = chunk i n d in
    split d i n
    ∙ ap (λ b. cond b (length c + prefix_len is_plain (drop (i + n) d)) (prefix_len is_plain c))
    (ne_eqb _ _ (λ (e : prefix_len is_plain c ≡ length c). omega (arith, all_pass c e)))
    ∙ sym (trailing_mask_l is_stop 64 c (omega (arith, length-chunk i n d room)) some)

-- ---- its spelling

all_false : (a b c : Bool) → not ((a || b) || c) ≡ true → (a ≡ false) × (b ≡ false) × (c ≡ false)
all_false a b c e = grind (arith, common_steps)

plain_byte : (x : ℕ) → is_plain x ≡ true → escape_byte x ≡ x ∷ []
plain_byte x e = grind (arith, common_steps, all_false, escape_byte_plain, eqb-false, ltb-false)

same_at : (x : ℕ) (xs : List ℕ) (b : Bool) → is_plain x ≡ b → escape (take (prefix_len is_plain xs) xs) ≡ take (prefix_len is_plain xs) xs
    → escape (take (cond b (1 + prefix_len is_plain xs) 0) (x ∷ xs)) ≡ take (cond b (1 + prefix_len is_plain xs) 0) (x ∷ xs)
same_at x xs b e later = grind (arith, common_steps, plain_byte)

run_same : (xs : List ℕ) → escape (take (prefix_len is_plain xs) xs) ≡ take (prefix_len is_plain xs) xs
run_same [] = refl
run_same (x ∷ xs) = same_at x xs (is_plain x) refl (run_same xs)

pub same_run : (xs : List ℕ) (r : ℕ) → r ≡ prefix_len is_plain xs → escape (take r xs) ≡ take r xs
same_run xs r e = subst (λ n. escape (take n xs) ≡ take n xs) (sym e) (run_same xs)

-- a text that is one run is its own spelling
pub spelled_whole : (xs : List ℕ) → length xs ≤ prefix_len is_plain xs → escape xs ≡ xs
spelled_whole xs h = subst (λ ys. escape ys ≡ ys) (take_all (prefix_len is_plain xs) xs h) (run_same xs)
