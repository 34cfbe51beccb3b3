-- The members at some indices, of lists that are numbered.
use Rattle.cadf_pathset.proofs.Common.{◌≡◌, ◌<◌, ◌+◌, ℕ, zero, suc, List, [], ◌∷◌, ◌++◌, map, length, get_or, drop, refl, ap, ◌∙◌, sym, Option, Some, None, slice_get, AllByRecursion, cons_option, append_assoc, drop_more, slice_get-map, at_places}
use Rattle.std.specs.Prelude.{option_map}

-- the members of a list that is the image of another
pub placed_map : {A B : Type 0} (f : A → B) (is : List ℕ) (xs : List A) → map f (at_places is xs) ≡ at_places is (map f xs)
placed_map f [] xs = refl
placed_map {A} {B} f (i ∷ is) xs =
    by (slice_get xs i) (at_places is xs) ∙ (λ j. cons_option (sym (slice_get-map f xs i) j) (placed_map f is xs j))
  where
    by : (o : Option A) (rest : List A) → map f (cons_option o rest) ≡ cons_option (option_map f o) (map f rest)
    by None rest = refl
    by (Some x) rest = refl

-- what holds of each member holds of those at some indices
held_at : {A : Type 0} (P : A → Type 0) (xs : List A) (i : ℕ) (rest : List A) → AllByRecursion P xs → AllByRecursion P rest
    → AllByRecursion P (cons_option (slice_get xs i) rest)
held_at P [] i rest h r = r
held_at P (x ∷ xs) zero rest h r = (h.0, r)
held_at P (x ∷ xs) (suc i) rest h r = held_at P xs i rest h.1 r

pub placed_all : {A : Type 0} (P : A → Type 0) (is : List ℕ) (xs : List A) → AllByRecursion P xs → AllByRecursion P (at_places is xs)
placed_all P [] xs h = tt
placed_all P (i ∷ is) xs h = held_at P xs i (at_places is xs) h (placed_all P is xs h)

-- one more index
pub placed_next : {A : Type 0} (xs fs gs : List A) (is : List ℕ) (i : ℕ) → i < length is → gs ≡ fs ++ cons_option (slice_get xs (get_or is i 0)) []
    → gs ++ at_places (drop (i + 1) is) xs ≡ fs ++ at_places (drop i is) xs
placed_next {A} xs fs gs is i h e =
    ap (λ z. z ++ rest) e ∙ append_assoc fs (cons_option (slice_get xs (get_or is i 0)) []) rest
    ∙ ap (λ z. fs ++ z) (front_of (slice_get xs (get_or is i 0))) ∙ ap (λ z. fs ++ at_places z xs) (sym (drop_more is i 0 h))
  where
    rest : List A
    rest = at_places (drop (i + 1) is) xs

    front_of : (o : Option A) → cons_option o [] ++ rest ≡ cons_option o rest
    front_of None = refl
    front_of (Some x) = refl
