-- A test that the lists from some index on pass, and none before it.
use Rattle.cadf_pathset.proofs.Common.{common_steps, ◌≡◌, ℕ, Bool, true, false, cond, List, [], ◌∷◌, Some, None, refl, sym, ap, ◌∙◌, suc, zero, take, drop, arith, AllByRecursion, find, Texts}

pub found_first : {A : Type 0} (f : A → Bool) (xs : List A) (n : ℕ) → AllByRecursion (λ x. f x ≡ false) (take n xs) → find f (drop n xs) ≡ find f xs
found_first f xs zero h = refl
found_first f [] (suc n) h = refl
found_first f (x ∷ xs) (suc n) h = found_first f xs n h.1 ∙ ap (λ b. cond b (Some x) (find f xs)) (sym h.0)

pub find_head : (f : Texts → Bool) (xs : List Texts) (x : Texts) (ys : List Texts) → xs ≡ x ∷ ys → AllByRecursion (λ z. f z ≡ true) xs → find f xs ≡ Some x
find_head f [] x ys e h = grind (arith, common_steps)
find_head f (z ∷ xs) x ys e h = grind (arith, common_steps)

module _ (f : Texts → Bool) (rows : List Texts) (n : ℕ) (below : AllByRecursion (λ l. f l ≡ false) (take n rows))
    (above : AllByRecursion (λ l. f l ≡ true) (drop n rows)) where
  pub passing_found : (x : Texts) (ys : List Texts) → drop n rows ≡ x ∷ ys → find f rows ≡ Some x
  passing_found x ys e = sym (found_first f rows n below) ∙ find_head f (drop n rows) x ys e above

  pub none_passing : drop n rows ≡ [] → find f rows ≡ None
  none_passing e = sym (found_first f rows n below) ∙ ap (find f) e
