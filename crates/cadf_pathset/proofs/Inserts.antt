-- One more, inserted at its place.
use Rattle.cadf_pathset.proofs.Common.{◌≡◌, ◌≤◌, ℕ, List, [], ◌∷◌, ◌++◌, refl, ap, suc, zero, length, take, drop, map, take_all, drop_all, AllByRecursion}

pub map_put : {A B : Type 0} (f : A → B) (xs : List A) (n : ℕ) (x : A) → map f (take n xs ++ x ∷ drop n xs) ≡ take n (map f xs) ++ f x ∷ drop n (map f xs)
map_put f xs zero x = refl
map_put f [] (suc n) x = refl
map_put f (y ∷ xs) (suc n) x = ap (λ z. f y ∷ z) (map_put f xs n x)

pub all_put : {A : Type 0} (P : A → Type 0) (xs : List A) (n : ℕ) (x : A) → AllByRecursion P xs → P x → AllByRecursion P (take n xs ++ x ∷ drop n xs)
all_put P xs zero x h p = (p, h)
all_put P [] (suc n) x h p = (p, tt)
all_put P (y ∷ xs) (suc n) x h p = (h.0, all_put P xs n x h.1 p)

pub put_at_end : {A : Type 0} (xs : List A) (n : ℕ) (x : A) → length xs ≤ n → take n xs ++ x ∷ drop n xs ≡ xs ++ x ∷ []
put_at_end xs n x h = λ i. take_all n xs h i ++ x ∷ drop_all n xs h i
