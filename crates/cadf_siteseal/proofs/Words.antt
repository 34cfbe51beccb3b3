-- Words of a line, with a space between them, and the roots that they encode.
use Rattle.cadf_siteseal.proofs.Common.{◌≡◌, ◌∙◌, ◌<◌, ◌+◌, ◌^◌, ℕ, zero, suc, List, [], ◌∷◌, ◌++◌, length, take, Bool, true, false, cond, not, Option, Some, None, refl, sym, ap, subst, arith, inl, inr, ◌==◌, ◌||◌, ◌/◌, ◌%◌, nat_eq, decimal, slice_index, option_and_then, unwrap_or, position_or_len, common_steps, take_all, encode_lower, lower_digits, Text, IsDigest, is_unbroken, both_unbroken, digest_of, digest-again, digest-only, unbroken_digest_of, number_in, first_word, words_after, has_blank, decimal_unblank, first_is, after_is, cut_cases, number-again, number-only, decimal_unbroken, decimal_nonempty, Root, root_text, roots_text, unless_zero, positive_in, root_with, root_in, both_roots, first_root_in, last_root_in, roots_in, IsSealed}
unfoldable use Rattle.hex.specs.Hex.{encode_with}

-- ---- words

neither : (a b : Bool) → (a || b) ≡ false → (a ≡ false) × (b ≡ false)
neither a b e = grind (arith, common_steps)

pub neither_of : (a b : Bool) → a ≡ false → b ≡ false → (a || b) ≡ false
neither_of a b e f = (λ i. e i || b) ∙ f

blank_at : (w : List ℕ) → has_blank w ≡ false → position_or_len (λ x. x == 32) w ≡ length w
blank_at [] h = refl
blank_at (x ∷ w) h =
    let p = neither (x == 32) (has_blank w) h in
    ap (λ b. cond (not b) (1 + position_or_len (λ x. x == 32) w) 0) p.0 ∙ ap (λ n. 1 + n) (blank_at w p.1) ∙ omega arith

pub whole_word : (w : List ℕ) → has_blank w ≡ false → w ≡ first_word w
whole_word w h = sym (ap (λ n. take n w) (blank_at w h) ∙ take_all (length w) w (omega arith))

digit_not : (t : List ℕ) (i : ℕ) → has_blank t ≡ false → (slice_index t i == 32) ≡ false
digit_not [] i h = refl
digit_not (x ∷ t) zero h = (neither (x == 32) (has_blank t) h).0
digit_not (x ∷ t) (suc i) h = digit_not t i (neither (x == 32) (has_blank t) h).1

unblank_hex : (t xs : List ℕ) → has_blank t ≡ false → has_blank (encode_with t xs) ≡ false
unfolding encode_with
unblank_hex t [] h = refl
unblank_hex t (x ∷ xs) h = neither_of _ _ (digit_not t (x / 16) h) (neither_of _ _ (digit_not t (x % 16) h) (unblank_hex t xs h))

unblank_digest : (d : Text) → has_blank (encode_lower d) ≡ false
unblank_digest d = unblank_hex lower_digits d refl

digest_some : (d : Text) → IsDigest d → encode_lower d ≡ [] → ⊥
unfolding encode_with
digest_some [] is e = absurd (let s = is.size in omega (arith, s))
digest_some (x ∷ d) is e = cc

number_some : (n : ℕ) → n < 2 ^ 64 → decimal n ≡ [] → ⊥
number_some n small e =
    let some = decimal_nonempty n small in
    let none = ap length e in
    omega (arith, some, none)

-- a text of two words
pub spaced : (text : List ℕ) → (words_after text ≡ [] → ⊥) → text ≡ first_word text ++ 32 ∷ words_after text
spaced text some = elim (cut_cases text) [
  | inl e ↦ e
  | inr none ↦ absurd (some none)
]

-- ---- numbers from 1 on

positive-again : (n : ℕ) → nat_eq n 0 ≡ false → n < 2 ^ 64 → positive_in (decimal n) ≡ Some n
positive-again n some small = ap (option_and_then unless_zero) (number-again n small) ∙ ap (λ b. cond b None (Some n)) some

not_zero : (b : Bool) (m n : ℕ) → cond b None (Some m) ≡ Some n → (b ≡ false) × (m ≡ n)
not_zero b m n e = grind (arith, common_steps)

record IsPositive (w : List ℕ) (n : ℕ) : Type 0 where
  pub word : w ≡ decimal n
  pub small : n < 2 ^ 64
  pub some : nat_eq n 0 ≡ false

positive-only : (w : List ℕ) (n : ℕ) → positive_in w ≡ Some n → IsPositive w n
positive-only w n e = by (number_in w) refl e
  where
    by : (o : Option ℕ) → number_in w ≡ o → option_and_then unless_zero o ≡ Some n → IsPositive w n
    by None is k = absurd (cc)
    by (Some m) is k =
        let z = not_zero (nat_eq m 0) m n k in
        let p = number-only w m is in
        subst (IsPositive w) z.1 (record { word = p.0; small = p.1; some = z.0 })

-- ---- one root

root-again : (r : Root) → IsSealed r → root_in (decimal r.count) (encode_lower r.hash) ≡ Some r
root-again r is = λ i. root_with (positive-again r.count is.some is.root.count i) (digest-again r.hash is.root.hash i)

record IsRootOf (count hash : List ℕ) (r : Root) : Type 0 where
  pub count_is : count ≡ decimal r.count
  pub hash_is : hash ≡ encode_lower r.hash
  pub sealed : IsSealed r

root-only : (count hash : List ℕ) (r : Root) → root_in count hash ≡ Some r → IsRootOf count hash r
root-only count hash r e = by (positive_in count) refl (digest_of hash) refl e
  where
    by : (o : Option ℕ) → positive_in count ≡ o → (q : Option Text) → digest_of hash ≡ q → root_with o q ≡ Some r → IsRootOf count hash r
    by None is q too k = absurd (cc)
    by (Some n) is None too k = absurd (cc)
    by (Some n) is (Some d) too k =
        let same : record { count = n; hash = d } ≡ r = ap (λ o. unwrap_or o r) k in
        let p = positive-only count n is in
        let q = digest-only hash d too in
        subst (IsRootOf count hash) same
        (record { count_is = p.word; hash_is = q.0; sealed = record { some = p.some; root = record { count = p.small; hash = q.1 } } })

-- ---- both roots

module _ (r k : Root) (one : IsSealed r) (two : IsSealed k) where
  rest_is : words_after (roots_text r k) ≡ encode_lower r.hash ++ 32 ∷ root_text k
  rest_is = after_is (decimal r.count) (encode_lower r.hash ++ 32 ∷ root_text k) (decimal_unblank r.count one.root.count)

  last_is : words_after (words_after (roots_text r k)) ≡ root_text k
  last_is = ap words_after rest_is ∙ after_is (encode_lower r.hash) (root_text k) (unblank_digest r.hash)

  first_again : first_root_in (roots_text r k) ≡ Some r
  first_again =
      (λ i. root_in (first_is (decimal r.count) (encode_lower r.hash ++ 32 ∷ root_text k) (decimal_unblank r.count one.root.count) i) (first_word (rest_is i)))
      ∙ ap (root_in (decimal r.count)) (first_is (encode_lower r.hash) (root_text k) (unblank_digest r.hash))
      ∙ root-again r one

  last_again : last_root_in (words_after (words_after (roots_text r k))) ≡ Some k
  last_again =
      ap last_root_in last_is
      ∙ (λ i. root_in (first_is (decimal k.count) (encode_lower k.hash) (decimal_unblank k.count two.root.count) i)
      (after_is (decimal k.count) (encode_lower k.hash) (decimal_unblank k.count two.root.count) i))
      ∙ root-again k two

  pub roots-again : roots_in (roots_text r k) ≡ Some (r, k)
  roots-again = λ i. both_roots (first_again i) (last_again i)

  pub roots_unbroken : is_unbroken (roots_text r k) ≡ true
  roots_unbroken =
      both_unbroken (decimal r.count) _ (decimal_unbroken r.count one.root.count)
      (both_unbroken (encode_lower r.hash) _ (unbroken_digest_of r.hash)
      (both_unbroken (decimal k.count) _ (decimal_unbroken k.count two.root.count) (unbroken_digest_of k.hash)))

pub record AreRootsOf (text : List ℕ) (r k : Root) : Type 0 where
  pub words : text ≡ roots_text r k
  pub facts : IsSealed r
  pub keys : IsSealed k

pub roots_some : (text : List ℕ) (r k : Root) → AreRootsOf text r k → text ≡ [] → ⊥
roots_some text r k is none = none_of (decimal r.count) (is_number) (sym is.words ∙ none)
  where
    is_number : decimal r.count ≡ [] → ⊥
    is_number = number_some r.count is.facts.root.count

    none_of : (xs : List ℕ) → (xs ≡ [] → ⊥) → xs ++ 32 ∷ (encode_lower r.hash ++ 32 ∷ root_text k) ≡ [] → ⊥
    none_of [] never e = never refl
    none_of (x ∷ xs) never e = cc

pub roots-only : (text : List ℕ) (r k : Root) → roots_in text ≡ Some (r, k) → AreRootsOf text r k
roots-only text r k e = by (first_root_in text) refl (last_root_in (words_after (words_after text))) refl e
  where
    w : List ℕ
    w = words_after text

    t : List ℕ
    t = words_after w

    found : (a b : Root) → IsRootOf (first_word text) (first_word w) a → IsRootOf (first_word t) (words_after t) b → AreRootsOf text a b
    found a b p q =
        let s1 = spaced text (λ none. digest_some a.hash p.sealed.root.hash (sym p.hash_is ∙ ap first_word none)) in
        let s2 = spaced w (λ none. number_some b.count q.sealed.root.count (sym q.count_is ∙ ap first_word none)) in
        let s3 = spaced t (λ none. digest_some b.hash q.sealed.root.hash (sym q.hash_is ∙ none)) in
        record {
          words = s1 ∙ (λ i. p.count_is i ++ 32 ∷ s2 i)
              ∙ (λ i. decimal a.count ++ 32 ∷ (p.hash_is i ++ 32 ∷ s3 i))
              ∙ (λ i. decimal a.count ++ 32 ∷ (encode_lower a.hash ++ 32 ∷ (q.count_is i ++ 32 ∷ q.hash_is i)));
          facts = p.sealed;
          keys = q.sealed;
        }

    by : (o : Option Root) → first_root_in text ≡ o → (q : Option Root) → last_root_in t ≡ q → both_roots o q ≡ Some (r, k) → AreRootsOf text r k
    by None is q too h = absurd (cc)
    by (Some a) is None too h = absurd (cc)
    by (Some a) is (Some b) too h =
        let same : (a, b) ≡ (r, k) = ap (λ o. unwrap_or o (r, k)) h in
        subst (λ p. AreRootsOf text p.0 p.1) same (found a b (root-only (first_word text) (first_word w) a is) (root-only (first_word t) (words_after t) b too))
