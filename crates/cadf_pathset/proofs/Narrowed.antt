-- The lists between two bounds, each without one further text, are the suffixes after a text.
use Rattle.cadf_pathset.proofs.Common.{◌≡◌, ℕ, suc, zero, true, false, List, [], ◌∷◌, refl, sym, ap, ◌∙◌, subst, length, take, drop, map, AllByRecursion, IsStrictlySortedBy, length-map, Text, Texts, Contents, tails_of, texts_cmp, texts_total, texts_same, rising-from_list, is_before, rest_of, IsThere}
use Rattle.std.specs.List.{take-map, drop-map}
use Rattle.cadf_join.specs.Sets as set
use Rattle.cadf_pathset.proofs.Behind.{rests_between, rests_from, rests_up_to}
use Rattle.cadf_pathset.proofs.Grown.{map_same}

pub all_of_first : {A : Type 0} (P : A → Type 0) (xs : List A) (n : ℕ) → AllByRecursion P xs → AllByRecursion P (take n xs)
all_of_first P xs zero h = tt
all_of_first P [] (suc n) h = tt
all_of_first P (x ∷ xs) (suc n) h = (h.0, all_of_first P xs n h.1)

pub all_of_last : {A : Type 0} (P : A → Type 0) (xs : List A) (n : ℕ) → AllByRecursion P xs → AllByRecursion P (drop n xs)
all_of_last P xs zero h = h
all_of_last P [] (suc n) h = tt
all_of_last P (x ∷ xs) (suc n) h = all_of_last P xs n h.1

first_of_front : {A : Type 0} (P : A → Type 0) (xs : List A) (low high : ℕ) → AllByRecursion P (take low xs) → AllByRecursion P (take low (take high xs))
first_of_front P xs zero high h = tt
first_of_front P xs (suc low) zero h = tt
first_of_front P [] (suc low) (suc high) h = tt
first_of_front P (x ∷ xs) (suc low) (suc high) h = (h.0, first_of_front P xs low high h.1)

last_of_front : {A : Type 0} (P : A → Type 0) (xs : List A) (low high : ℕ) → AllByRecursion P (drop low xs) → AllByRecursion P (drop low (take high xs))
last_of_front P xs zero high h = all_of_first P xs high h
last_of_front P xs (suc low) zero h = tt
last_of_front P [] (suc low) (suc high) h = tt
last_of_front P (x ∷ xs) (suc low) (suc high) h = last_of_front P xs low high h

-- the lists of the nodes are those of the set, in order
module _ (ts : List Texts) (d : ℕ) (numbers : List ℕ) (s : Contents) (rises : IsStrictlySortedBy texts_cmp (map (rest_of ts d) numbers))
    (view : set.from_list (map (rest_of ts d) numbers) ≡ s) where
  pub shown : map (rest_of ts d) numbers ≡ set.rising s
  shown = sym (rising-from_list texts_total texts_same (map (rest_of ts d) numbers) rises) ∙ ap set.rising view

  pub shown_from : (n : ℕ) (rest : List ℕ) → rest ≡ drop n numbers → map (rest_of ts d) rest ≡ drop n (set.rising s)
  shown_from n rest is = ap (map (rest_of ts d)) is ∙ sym (drop-map (rest_of ts d) n numbers) ∙ ap (drop n) shown

  pub shown_count : length numbers ≡ length (set.rising s)
  shown_count = sym (length-map numbers (rest_of ts d)) ∙ ap length shown

map_twice : {A B C : Type 0} (f : A → B) (g : B → C) (xs : List A) → map (λ x. g (f x)) xs ≡ map g (map f xs)
map_twice f g [] = refl
map_twice f g (x ∷ xs) = ap (λ z. g (f x) ∷ z) (map_twice f g xs)

module _ (ts : List Texts) (d : ℕ) (numbers : List ℕ) (ls : List Texts) (view : map (rest_of ts d) numbers ≡ ls) (high : ℕ) (front : List ℕ)
    (front_is : front ≡ take high numbers) where
  front_view : map (rest_of ts d) front ≡ take high ls
  front_view = ap (map (rest_of ts d)) front_is ∙ sym (take-map (rest_of ts d) high numbers) ∙ ap (take high) view

  module _ (there : AllByRecursion (IsThere ts) numbers) (further low : ℕ) (lists : List ℕ) (lists_are : lists ≡ drop low front)
      (deeper : (r : ℕ) → IsThere ts r → rest_of ts further r ≡ drop 1 (rest_of ts d r)) where
    pub left_there : AllByRecursion (IsThere ts) lists
    left_there = subst (AllByRecursion (IsThere ts)) (sym (lists_are ∙ ap (drop low) front_is))
        (all_of_last (IsThere ts) (take high numbers) low (all_of_first (IsThere ts) numbers high there))

    pub between_view : map (rest_of ts further) lists ≡ map (λ l. drop 1 l) (drop low (take high ls))
    between_view =
        map_same (IsThere ts) (rest_of ts further) (λ r. drop 1 (rest_of ts d r)) lists deeper left_there
        ∙ map_twice (rest_of ts d) (λ l. drop 1 l) lists
        ∙ ap (map (λ l. drop 1 l)) (ap (map (rest_of ts d)) lists_are ∙ sym (drop-map (rest_of ts d) low front) ∙ ap (drop low) front_view)

pub section_between : (t : Text) (ls : List Texts) (low high : ℕ) → AllByRecursion (λ l. is_before (t ∷ []) true l ≡ true) (take high ls)
    → AllByRecursion (λ l. is_before (t ∷ []) true l ≡ false) (drop high ls)
    → AllByRecursion (λ l. is_before (t ∷ []) false l ≡ true) (take low ls)
    → AllByRecursion (λ l. is_before (t ∷ []) false l ≡ false) (drop low ls)
    → map (λ l. drop 1 l) (drop low (take high ls)) ≡ tails_of t ls
section_between t ls low high upto over below from =
    sym (rests_between t (drop low (take high ls))
    (last_of_front (λ l. is_before (t ∷ []) false l ≡ false) ls low high from)
    (all_of_last (λ l. is_before (t ∷ []) true l ≡ true) (take high ls) low upto))
    ∙ rests_from t (take high ls) low (first_of_front (λ l. is_before (t ∷ []) false l ≡ true) ls low high below)
    ∙ rests_up_to t ls high over
