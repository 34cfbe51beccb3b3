-- Lists that were appended to, and the character boundaries of a text that was appended to.
use Rattle.cadf_pathset.proofs.Common.{common_steps, ◌≡◌, ℕ, List, [], ◌∷◌, ◌++◌, refl, sym, ap, ◌∙◌, length, take, drop, map, arith, length-append, take-append-drop, take-append-le, IsUtf8-take, IsCharBoundary-from_take, AllByRecursion, IsUtf8, IsCharBoundary}

pub all_more : {A : Type 0} (P : A → Type 0) (xs : List A) (x : A) → AllByRecursion P xs → P x → AllByRecursion P (xs ++ x ∷ [])
all_more P [] x h p = (p, tt)
all_more P (y ∷ xs) x h p = (h.0, all_more P xs x h.1 p)

pub all_turned : {A : Type 0} (P Q : A → Type 0) (xs : List A) → ((x : A) → P x → Q x) → AllByRecursion P xs → AllByRecursion Q xs
all_turned P Q [] f h = tt
all_turned P Q (x ∷ xs) f h = (f x h.0, all_turned P Q xs f h.1)

pub map_same : {A B : Type 0} (P : A → Type 0) (f g : A → B) (xs : List A) → ((x : A) → P x → f x ≡ g x) → AllByRecursion P xs → map f xs ≡ map g xs
map_same P f g [] same h = refl
map_same P f g (x ∷ xs) same h = λ i. same x h.0 i ∷ map_same P f g xs same h.1 i

pub map_more : {A B : Type 0} (f : A → B) (xs : List A) (x : A) → map f (xs ++ x ∷ []) ≡ map f xs ++ f x ∷ []
map_more f [] x = refl
map_more f (y ∷ xs) x = ap (λ z. f y ∷ z) (map_more f xs x)

pub boundary_grown : (bs ds : List ℕ) (n : ℕ) → IsUtf8 bs → IsUtf8 (bs ++ ds) → IsCharBoundary bs n → IsCharBoundary (bs ++ ds) n
boundary_grown bs ds n u v b = grind (arith, common_steps, IsCharBoundary-from_take, length-append, take-append-le, IsUtf8-take)

module _ {A : Type 0} (xs ys : List A) (kept : take (length xs) ys ≡ xs) where
  pub grown_by : ys ≡ xs ++ drop (length xs) ys
  grown_by = sym (take-append-drop (length xs) ys) ∙ ap (λ z. z ++ drop (length xs) ys) kept
