-- The suffixes of lists, by their first texts.
use Rattle.cadf_pathset.proofs.Common.{common_steps, ◌≡◌, ℕ, ◌+◌, ◌≤◌, List, [], ◌∷◌, Option, Some, None, refl, sym, ap, ◌∙◌, suc, zero, length, drop, get_or, arith, drop-drop, Text, Texts, text_cmp, Bor, nat_eq, option_copied, unwrap_or, Ordering, Less, Equal, Greater, is_eq, match_ordering, nat_tests, first_text, last_of, last_starts_with, prefix_cmp, shared}

-- a list begins with a prefix if and only if it shares all of its texts
prefix_by_shared : (l p : Texts) → is_eq (prefix_cmp l p) ≡ nat_eq (shared l p) (length p)
prefix_by_shared [] [] = refl
prefix_by_shared (u ∷ l) [] = refl
prefix_by_shared [] (t ∷ p) = grind (arith, common_steps, nat_tests)
prefix_by_shared (u ∷ l) (t ∷ p) = by (text_cmp u t) (prefix_by_shared l p)
  where
    by : (r : Ordering) → is_eq (prefix_cmp l p) ≡ nat_eq (shared l p) (length p)
        → is_eq (match_ordering r Less (prefix_cmp l p) Greater) ≡ nat_eq (match_ordering r 0 (shared l p + 1) 0) (suc (length p))
    by Less h = grind (arith, common_steps, nat_tests)
    by Equal h = grind (arith, common_steps, nat_tests)
    by Greater h = grind (arith, common_steps, nat_tests)

pub last_begins : (ls : List Texts) (p : Texts) → (ls ≡ [] → ⊥) → nat_eq (shared (last_of [] ls) p) (length p) ≡ last_starts_with ls p
last_begins [] p some = absurd (some refl)
last_begins (l ∷ ls) p some = sym (prefix_by_shared (last_of l ls) p)

first_at : (l : Texts) (i : ℕ) → unwrap_or (first_text (drop i l)) [] ≡ get_or l i []
first_at [] zero = refl
first_at [] (suc i) = refl
first_at (t ∷ l) zero = refl
first_at (t ∷ l) (suc i) = first_at l i

pub first_or_none : (o : Option (Bor Text)) (l : Texts) (i : ℕ) (other : Bor Text) → option_copied o ≡ first_text (drop i l) → other.now ≡ []
    → (unwrap_or o other).now ≡ get_or l i []
first_or_none None l i other h none = none ∙ ap (λ o. unwrap_or o []) h ∙ first_at l i
first_or_none (Some t) l i other h none = ap (λ o. unwrap_or o []) h ∙ first_at l i

pub dropped_all : (l : Texts) (n : ℕ) → length l ≤ n → drop n l ≡ []
dropped_all [] zero h = refl
dropped_all [] (suc n) h = refl
dropped_all (t ∷ l) zero h = absurd (omega (arith, h))
dropped_all (t ∷ l) (suc n) h = dropped_all l n (omega (arith, h))

pub drop_one_more : (l : Texts) (n : ℕ) → drop (n + 1) l ≡ drop 1 (drop n l)
drop_one_more l n = sym (drop-drop 1 n l)

pub drop_past : (l : Texts) (n : ℕ) → length l ≤ n → drop n l ≡ drop 1 (drop n l)
drop_past l n h = dropped_all l n h ∙ sym (ap (drop 1) (dropped_all l n h))
