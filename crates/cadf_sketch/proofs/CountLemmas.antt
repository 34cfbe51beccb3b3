-- The numbers of the line of the counts, one after another.
use Rattle.cadf_sketch.proofs.Common.{common_steps, ◌≡◌, ℕ, zero, suc, ◌+◌, ◌<◌, List, [], ◌∷◌, ◌++◌, length, take, ◌⊎◌, inl, inr, Option, Some, None, refl, sym, ap, ◌∙◌, subst, arith, append-nil, ◌-◌, slice_set, length-set, ◌^◌, decimal, flat_map, option_map, take_all, take_more_set, spelled, AreWords64, number_in, first_word, words_after, put_before, numbers_in, counts_in_words, tally_in_numbers, number-only, number-again, number_of_none, decimal_unblank, first_is, after_is, cut_cases}

pub numbers-again : (n : ℕ) (ns : List ℕ) → n < 2 ^ 64 → AreWords64 ns → numbers_in (length ns) (spelled n ns) ≡ Some (n ∷ ns)
numbers-again n [] small all = ap (λ w. put_before (number_in w) (Some [])) (append-nil (decimal n)) ∙ ap (λ o. put_before o (Some [])) (number-again n small)
numbers-again n (m ∷ ms) small all =
    let unblank = decimal_unblank n small in
    (λ i. put_before (number_in (first_is (decimal n) (spelled m ms) unblank i)) (numbers_in (length ms) (after_is (decimal n) (spelled m ms) unblank i)))
    ∙ (λ i. put_before (number-again n small i) (numbers-again m ms all.0 all.1 i))

put_some : (o : Option ℕ) (p : Option (List ℕ)) (ns : List ℕ) → put_before o p ≡ Some ns
    → (n : ℕ) × (ms : List ℕ) × (o ≡ Some n) × (p ≡ Some ms) × (ns ≡ n ∷ ms)
put_some o p ns e = grind (arith, common_steps)

pub numbers_of_none : (k : ℕ) → numbers_in k [] ≡ None
numbers_of_none k = grind (arith, common_steps, number_of_none)

pub numbers_uncut : (k : ℕ) (text : List ℕ) → words_after text ≡ [] → numbers_in (suc k) text ≡ None
numbers_uncut k text e = grind (arith, common_steps, numbers_of_none)

-- numbers that were read are spelled by the text
pub record AreNumbers (k : ℕ) (text ns : List ℕ) : Type 0 where
  pub first : ℕ
  pub more : List ℕ
  pub all : ns ≡ first ∷ more
  pub size : length more ≡ k
  pub first_fits : first < 2 ^ 64
  pub more_fit : AreWords64 more
  pub text_is : text ≡ spelled first more

pub numbers-only : (k : ℕ) (text ns : List ℕ) → numbers_in k text ≡ Some ns → AreNumbers k text ns
numbers-only zero text ns e =
    let p = put_some (number_in text) (Some []) ns e in
    let n = number-only text p.0 p.2 in
    let none : [] ≡ p.1 = cc in
    record {
      first = p.0;
      more = [];
      all = p.4 ∙ ap (λ ms. p.0 ∷ ms) (sym none);
      size = refl;
      first_fits = n.1;
      more_fit = tt;
      text_is = n.0 ∙ sym (append-nil (decimal p.0));
    }
numbers-only (suc k) text ns e =
    let p = put_some (number_in (first_word text)) (numbers_in k (words_after text)) ns e in
    let n = number-only (first_word text) p.0 p.2 in
    let r = numbers-only k (words_after text) p.1 p.3 in
    record {
      first = p.0;
      more = p.1;
      all = p.4;
      size = ap length r.all ∙ ap suc r.size;
      first_fits = n.1;
      more_fit = subst AreWords64 (sym r.all) (r.first_fits, r.more_fit);
      text_is = whole p.0 r.first p.1 r.more (cut_cases text) r.all n.0 r.text_is p.3;
    }
  where
    never : (ms : List ℕ) → numbers_in k (words_after text) ≡ Some ms → words_after text ≡ [] → ⊥
    never ms some none = let q = sym (ap (numbers_in k) none ∙ numbers_of_none k) ∙ some in cc

    whole : (n m : ℕ) (ms os : List ℕ) → (text ≡ first_word text ++ 32 ∷ words_after text) ⊎ (words_after text ≡ []) → ms ≡ m ∷ os → first_word text ≡ decimal n
        → words_after text ≡ spelled m os → numbers_in k (words_after text) ≡ Some ms → text ≡ spelled n ms
    whole n m ms os (inl cut) is word rest some = cut ∙ (λ i. word i ++ 32 ∷ rest i) ∙ ap (λ l. decimal n ++ flat_map (λ m. 32 ∷ decimal m) l) (sym is)
    whole n m ms os (inr none) is word rest some = absurd (never ms some none)

-- ---- numbers, one after another

abbrev pub put_all : List ℕ → Option (List ℕ) → Option (List ℕ)
put_all xs o = option_map (λ ns. xs ++ ns) o

more_put : (xs : List ℕ) (n : ℕ) (o : Option (List ℕ)) → put_all xs (put_before (Some n) o) ≡ put_all (xs ++ n ∷ []) o
more_put xs n o = grind (arith, common_steps)

-- what is read so far, and the numbers that are left, are the counts of the text
abbrev pub AreCounts : List ℕ → ℕ → List ℕ → List ℕ → Type 0
AreCounts xs left rest text = tally_in_numbers (put_all xs (numbers_in left rest)) ≡ counts_in_words text

put_none : (o : Option (List ℕ)) → put_all [] o ≡ o
put_none o = grind (arith, common_steps)

pub counts_begin : (text : List ℕ) → AreCounts [] 64 text text
unfolding counts_in_words
counts_begin text = ap tally_in_numbers (put_none (numbers_in 64 text))

module _ (xs : List ℕ) (left : ℕ) (rest text : List ℕ) (so_far : AreCounts xs (suc left) rest text) where
  pub count_uncut : words_after rest ≡ [] → None ≡ counts_in_words text
  count_uncut none = ap (λ o. tally_in_numbers (put_all xs o)) (sym (numbers_uncut left rest none)) ∙ so_far

  module _ (word after : List ℕ) (word_is : word ≡ first_word rest) (after_is : after ≡ words_after rest) where
    pub count_read : (n : ℕ) → Some n ≡ number_in word → AreCounts (xs ++ n ∷ []) left after text
    count_read n read =
        ap tally_in_numbers (sym (more_put xs n (numbers_in left after))
        ∙ (λ i. put_all xs (put_before ((read ∙ ap number_in word_is) i) (numbers_in left (after_is i))))) ∙ so_far

    pub count_missing : None ≡ number_in word → None ≡ counts_in_words text
    count_missing none =
        ap (λ o. tally_in_numbers (put_all xs (put_before o (numbers_in left (words_after rest))))) (none ∙ ap number_in word_is) ∙ so_far

pub last_count : (xs rest text : List ℕ) (o : Option ℕ) → AreCounts xs 0 rest text → o ≡ number_in rest
    → tally_in_numbers (put_all xs (put_before o (Some []))) ≡ counts_in_words text
last_count xs rest text o so_far read = ap (λ p. tally_in_numbers (put_all xs (put_before p (Some [])))) read ∙ so_far

pub last_set : (xs : List ℕ) (n : ℕ) → length xs ≡ 64 → slice_set xs 63 n ≡ take 63 xs ++ n ∷ []
last_set xs n size =
    sym (take_all 64 (slice_set xs 63 n) (omega (arith, size, length-set xs 63 n))) ∙ take_more_set xs 63 n (omega (arith, size))
