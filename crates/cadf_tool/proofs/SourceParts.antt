-- Runs on the parts of a list of sources.
use Rattle.cadf_tool.proofs.Common.{Sources, ◌≡◌, ◌+◌, ◌-◌, ℕ, List, [], ◌∷◌, ◌++◌, length, map, take, drop, get_or, set, Result, refl, ap, sym, subst, arith, length-append, length-map, Sink, Source, Text, Loaded, ToolFault, Request, SourceState, first_state, in_two, and_one, and_last, first_and_others, three, IsRequestRun, InputSpec, input_spec, with_number, one, both, inputs_from, IsRunBy}

module _ {S : Type 0} (see : S → SourceState) where
  fronts : (a b : List S) → take (length a) (map see (a ++ b)) ≡ map see a
  fronts [] b = refl
  fronts (x ∷ a) b = ap (λ (ss : List SourceState). see x ∷ ss) (fronts a b)

  backs : (a b : List S) → drop (length a) (map see (a ++ b)) ≡ map see b
  backs [] b = refl
  backs (x ∷ a) b = backs a b

  -- the only source of a list
  first_seen : (l : List S) (d : S) → length l ≡ 1 → first_state (map see l) ≡ see (get_or l 0 d)
  first_seen [] d count = absurd (omega (arith, count))
  first_seen (z ∷ l) d count = refl

  first_set : (l : List S) (y : S) → length l ≡ 1 → first_state (map see (set l 0 y)) ≡ see y
  first_set [] y count = absurd (omega (arith, count))
  first_set (z ∷ l) y count = refl

module _ {S M W T : Type 0} (see : S → SourceState) {tell : M → Text} {sink : Sink W} {old new : W} {result : Result T ToolFault} where
  pub in_two_run : {work : List Loaded × List Loaded → Result M ToolFault → Type 0} (k : ℕ) (xs a b a' b' : List S) → xs ≡ a ++ b → length a ≡ k
      → length a' ≡ length a
      → IsRunBy (both (inputs_from 1 (map see a) (map see a')) (inputs_from (k + 1) (map see b) (map see b'))) work tell sink old new result
      → IsRunBy (in_two k (map see xs) (map see (a' ++ b'))) work tell sink old new result
  in_two_run {work} k xs a b a' b' is count same run =
      subst (λ j. IsRunBy (in_two j (map see xs) (map see (a' ++ b'))) work tell sink old new result) count
      (subst (λ ys. IsRunBy (in_two (length a) (map see ys) (map see (a' ++ b'))) work tell sink old new result) (sym is)
      (rw (
        fronts see a b,
        backs see a b,
        subst (λ j. take j (map see (a' ++ b')) ≡ map see a') same (fronts see a' b'),
        subst (λ j. drop j (map see (a' ++ b')) ≡ map see b') same (backs see a' b'),
      ) (subst (λ j. IsRunBy (both (inputs_from 1 (map see a) (map see a')) (inputs_from (j + 1) (map see b) (map see b'))) work tell sink old new result)
      (sym count) run)))

  pub and_last_run : {B : Type 0} (reader : InputSpec B) {work : List Loaded × B → Result M ToolFault → Type 0} (number : ℕ) (xs a l a' : List S) (d y : S)
      → xs ≡ a ++ l → length l ≡ 1 → length a' ≡ length a → number ≡ length a + 1
      → IsRunBy (both (inputs_from 1 (map see a) (map see a')) (with_number number reader (record { old = see (get_or l 0 d); new = see y }))) work
      tell sink old new result
      → IsRunBy (and_last reader (map see xs) (map see (a' ++ set l 0 y))) work tell sink old new result
  and_last_run reader {work} number xs a l a' d y is last same numbered run =
      let count : length a ≡ length (map see xs) - 1 = omega (arith, length-map xs see, ap length is, length-append a l, last) in
      subst (λ j. IsRunBy (and_one reader j (map see xs) (map see (a' ++ set l 0 y))) work tell sink old new result) count
      (subst (λ ys. IsRunBy (and_one reader (length a) (map see ys) (map see (a' ++ set l 0 y))) work tell sink old new result) (sym is)
      (rw (
        fronts see a l,
        backs see a l,
        subst (λ j. take j (map see (a' ++ set l 0 y)) ≡ map see a') same (fronts see a' (set l 0 y)),
        subst (λ j. drop j (map see (a' ++ set l 0 y)) ≡ map see (set l 0 y)) same (backs see a' (set l 0 y)),
        first_seen see l d last,
        first_set see l y last,
      ) (subst (λ n. IsRunBy (both (inputs_from 1 (map see a) (map see a')) (with_number n reader (record { old = see (get_or l 0 d); new = see y }))) work
      tell sink old new result) numbered run)))

  pub first_and_others_run : {B : Type 0} (reader : InputSpec B) {work : B × List Loaded → Result M ToolFault → Type 0} (xs l b b' : List S) (d y : S)
      → xs ≡ l ++ b → length l ≡ 1
      → IsRunBy (both (one reader (record { old = see (get_or l 0 d); new = see y })) (inputs_from 2 (map see b) (map see b'))) work tell sink old new result
      → IsRunBy (first_and_others reader (map see xs) (map see (set l 0 y ++ b'))) work tell sink old new result
  first_and_others_run reader {work} xs [] b b' d y is count run = absurd (omega (arith, count))
  first_and_others_run reader {work} xs (z ∷ []) b b' d y is count run =
      subst (λ ys. IsRunBy (first_and_others reader (map see ys) (see y ∷ map see b')) work tell sink old new result) (sym is) run
  first_and_others_run reader {work} xs (z ∷ w ∷ l) b b' d y is count run = absurd (omega (arith, count))

-- what holds of three sources, each of which is all of a list, holds of the list of them
module _ {S A B C : Type 0} (see : S → SourceState) (first : InputSpec A) (second : InputSpec B) (third : InputSpec C)
    (P : Sources (A × (B × C)) → Type 0) where
  pub three_seen : (xs rest a b c : List S) (d e f x y z : S) → xs ≡ a ++ rest → rest ≡ b ++ c → length a ≡ 1 → length b ≡ 1 → length c ≡ 1
      → P (both (one first (record { old = see (get_or a 0 d); new = see x })) (both (with_number 2 second
      (record { old = see (get_or b 0 e); new = see y })) (with_number 3 third (record { old = see (get_or c 0 f); new = see z }))))
      → P (three first second third (map see xs) (map see (set a 0 x ++ (set b 0 y ++ set c 0 z))))
  three_seen xs rest (p ∷ []) (q ∷ []) (r ∷ []) d e f x y z is then n m k run =
      let all : xs ≡ p ∷ q ∷ r ∷ [] = cc in
      subst (λ ys. P (three first second third (map see ys) (see x ∷ see y ∷ see z ∷ []))) (sym all) run
  three_seen xs rest [] _ _ d e f x y z is then n m k run = absurd (omega (arith, n))
  three_seen xs rest (p ∷ q ∷ a) _ _ d e f x y z is then n m k run = absurd (omega (arith, n))
  three_seen xs rest (p ∷ []) [] _ d e f x y z is then n m k run = absurd (omega (arith, m))
  three_seen xs rest (p ∷ []) (q ∷ r ∷ b) _ d e f x y z is then n m k run = absurd (omega (arith, m))
  three_seen xs rest (p ∷ []) (q ∷ []) [] d e f x y z is then n m k run = absurd (omega (arith, k))
  three_seen xs rest (p ∷ []) (q ∷ []) (r ∷ s ∷ c) d e f x y z is then n m k run = absurd (omega (arith, k))

module _ {S A B C M W T : Type 0} (see : S → SourceState) (first : InputSpec A) (second : InputSpec B) (third : InputSpec C)
    {work : A × (B × C) → Result M ToolFault → Type 0} {tell : M → Text} {sink : Sink W} {old new : W} {result : Result T ToolFault} where
  pub three_run : (xs rest a b c : List S) (d e f x y z : S) → xs ≡ a ++ rest → rest ≡ b ++ c → length a ≡ 1 → length b ≡ 1 → length c ≡ 1
      → IsRunBy (both (one first (record { old = see (get_or a 0 d); new = see x })) (both (with_number 2 second
      (record { old = see (get_or b 0 e); new = see y })) (with_number 3 third (record { old = see (get_or c 0 f); new = see z })))) work
      tell sink old new result
      → IsRunBy (three first second third (map see xs) (map see (set a 0 x ++ (set b 0 y ++ set c 0 z)))) work tell sink old new result
  three_run = three_seen see first second third (λ s. IsRunBy s work tell sink old new result)

-- the first three sources of a list, and the others
module _ {S A B C D : Type 0} (see : S → SourceState) (first : InputSpec A) (second : InputSpec B) (third : InputSpec C)
    (others : List SourceState → List SourceState → Sources D) (P : Sources ((A × (B × C)) × D) → Type 0) where
  pub three_and_others_seen : (xs a b a' b' : List S) → xs ≡ a ++ b → length a ≡ 3 → length a' ≡ 3
      → P (both (three first second third (map see a) (map see a')) (others (map see b) (map see b')))
      → P (both (three first second third (map see xs) (map see (a' ++ b'))) (others (drop 3 (map see xs)) (drop 3 (map see (a' ++ b')))))
  three_and_others_seen xs (p ∷ q ∷ r ∷ []) b (x ∷ y ∷ z ∷ []) b' is n m run =
      subst (λ ys. P (both (three first second third (map see ys) (see x ∷ see y ∷ see z ∷ map see b')) (others (drop 3 (map see ys)) (map see b'))))
      (sym is) run
  three_and_others_seen xs [] b _ b' is n m run = absurd (omega (arith, n))
  three_and_others_seen xs (p ∷ []) b _ b' is n m run = absurd (omega (arith, n))
  three_and_others_seen xs (p ∷ q ∷ []) b _ b' is n m run = absurd (omega (arith, n))
  three_and_others_seen xs (p ∷ q ∷ r ∷ s ∷ a) b _ b' is n m run = absurd (omega (arith, n))
  three_and_others_seen xs (p ∷ q ∷ r ∷ []) b [] b' is n m run = absurd (omega (arith, m))
  three_and_others_seen xs (p ∷ q ∷ r ∷ []) b (x ∷ []) b' is n m run = absurd (omega (arith, m))
  three_and_others_seen xs (p ∷ q ∷ r ∷ []) b (x ∷ y ∷ []) b' is n m run = absurd (omega (arith, m))
  three_and_others_seen xs (p ∷ q ∷ r ∷ []) b (x ∷ y ∷ z ∷ w ∷ a') b' is n m run = absurd (omega (arith, m))

-- the run of a request, by what the request is
module _ {S W T : Type 0} (source : Source S) (before after : List S) (sink : Sink W) (old new : W) (result : Result T ToolFault) where
  pub as_asked : {q r : Request} → q ≡ r → IsRequestRun r source before after sink old new result → IsRequestRun q source before after sink old new result
  as_asked is run = subst (λ q. IsRequestRun q source before after sink old new result) (sym is) run
