-- A federation's vectors, as the functions of a world.
use Rattle.cadf_rehearsal.proofs.Common.{common_steps, ◌≡◌, ℕ, suc, zero, ◌-◌, ◌<◌, ◌≤◌, Bool, true, false, cond, List, [], ◌∷◌, ◌++◌, map, length, get_or, set, refl, sym, ap, ◌∙◌, arith, lt-ltb, le-leb, ne_eqb, sub-one, ◌≢◌, Result, Ok, Err, nat_eq, Text, Contents, World, Message, with_at, adds, makes, is_message, ReplicaModel, same_lists, get_or-map-range_with_len, length-map-range_with_len, at_or, at_number, held_at, log_at, left_by}
use Rattle.cadf_join.specs.Sets as sets

zero_other : (j : ℕ) → nat_eq 0 (suc j) ≡ false
zero_other j = let ne : 0 ≢ suc j = omega arith in ne_eqb 0 (suc j) ne

other_zero : (j : ℕ) → nat_eq (suc j) 0 ≡ false
other_zero j = let ne : suc j ≢ 0 = omega arith in ne_eqb (suc j) 0 ne

both_later : (j k : ℕ) → nat_eq (suc j) (suc k) ≡ nat_eq j k
both_later j k = grind (arith, common_steps)

module _ {S A : Type 0} (f : S → A) (d : A) where
  pub at_or_read : (xs : List S) (k : ℕ) (x : S) → k < length xs → x ≡ get_or xs k x → at_or d (map f xs) k ≡ f x
  at_or_read [] k x h e = absurd (omega arith)
  at_or_read (y ∷ ys) zero x h e = ap f (sym e)
  at_or_read (y ∷ ys) (suc k) x h e = at_or_read ys k x (omega arith) e

  pub at_or_set : (xs : List S) (k : ℕ) (v : S) → k < length xs → (j : ℕ) → with_at (at_or d (map f xs)) k (f v) j ≡ at_or d (map f (set xs k v)) j
  at_or_set [] k v h j = absurd (omega arith)
  at_or_set (y ∷ ys) zero v h zero = refl
  at_or_set (y ∷ ys) zero v h (suc j) = ap (λ b. cond b (f v) (at_or d (map f ys) j)) (zero_other j)
  at_or_set (y ∷ ys) (suc k) v h zero = ap (λ b. cond b (f v) (f y)) (other_zero k)
  at_or_set (y ∷ ys) (suc k) v h (suc j) = ap (λ b. cond b (f v) (at_or d (map f ys) j)) (both_later k j) ∙ at_or_set ys k v (omega arith) j

  pub at_or_push : (xs : List S) (v : S) (j : ℕ) → cond (nat_eq (length xs) j) (f v) (at_or d (map f xs) j) ≡ at_or d (map f (xs ++ v ∷ [])) j
  at_or_push [] v zero = refl
  at_or_push [] v (suc j) = ap (λ b. cond b (f v) d) (zero_other j)
  at_or_push (y ∷ ys) v zero = ap (λ b. cond b (f v) (f y)) (other_zero (length ys))
  at_or_push (y ∷ ys) v (suc j) = ap (λ b. cond b (f v) (at_or d (map f ys) j)) (both_later (length ys) j) ∙ at_or_push ys v j

  pub at_number_push : (xs : List S) (v : S) (m : ℕ) → with_at (at_number d (map f xs)) (suc (length xs)) (f v) m ≡ at_number d (map f (xs ++ v ∷ [])) m
  at_number_push xs v zero = ap (λ b. cond b (f v) d) (other_zero (length xs))
  at_number_push xs v (suc m) = ap (λ b. cond b (f v) (at_or d (map f xs) m)) (both_later (length xs) m) ∙ at_or_push xs v m

  pub at_number_read : (xs : List S) (m : ℕ) (x : S) → 0 < m → m ≤ length xs → x ≡ get_or xs (m - 1) x → at_number d (map f xs) m ≡ f x
  at_number_read xs zero x pos h e = absurd (omega arith)
  at_number_read xs (suc m) x pos h e = at_or_read xs m x (omega arith) (e ∙ ap (λ k. get_or xs k x) (sub-one (suc m)))

length_push : {A : Type 0} (xs : List A) (v : A) → suc (length xs) ≡ length (xs ++ v ∷ [])
length_push xs v = grind (arith, common_steps)

module _ {S M : Type 0} (contents : S → Contents) (message : M → Message) (d : Message) where
  abbrev pub seen : List S → List M → World
  seen xs ms = record { sites = at_or sets.empty (map contents xs); made = length ms; messages = at_number d (map message ms) }

  -- a site gets the set s
  pub seen_adds : (xs : List S) (ms : List M) (k : ℕ) (old new : S) (s : Contents) → k < length xs → old ≡ get_or xs k old
      → contents new ≡ sets.union (contents old) s → adds (seen xs ms) k s ≡ seen (set xs k new) ms
  seen_adds xs ms k old new s h at is =
      let taken : sets.union (at_or sets.empty (map contents xs) k) s ≡ contents new =
      ap (λ c. sets.union c s) (at_or_read contents sets.empty xs k old h at) ∙ sym is in
      let each : (j : ℕ) → with_at (at_or sets.empty (map contents xs)) k (sets.union (at_or sets.empty (map contents xs) k) s) j
      ≡ at_or sets.empty (map contents (set xs k new)) j =
      λ j. ap (λ c. with_at (at_or sets.empty (map contents xs)) k c j) taken ∙ at_or_set contents sets.empty xs k new h j in
      λ i. record { sites = λ j. each j i; made = length ms; messages = at_number d (map message ms) }

  -- a message is pushed
  pub seen_makes : (xs : List S) (ms : List M) (m : M) → makes (seen xs ms) (message m) ≡ seen xs (ms ++ m ∷ [])
  seen_makes xs ms m = λ i. record { sites = at_or sets.empty (map contents xs); made = length_push ms m i; messages = λ k. at_number_push message d ms m k i }

pub taken : {A C : Type 0} (b : Bool) (x : Result A C) (e : C) (y : A) → b ≡ true → x ≡ Ok y → cond b x (Err e) ≡ Ok y
taken b x e y h is = ap (λ t. cond t x (Err e)) h ∙ is

pub refused : {A C : Type 0} (b : Bool) (x : Result A C) (e c : C) → b ≡ true → x ≡ Err c → cond b x (Err e) ≡ Err c
refused b x e c h is = ap (λ t. cond t x (Err e)) h ∙ is

module _ {S M : Type 0} (contents : S → Contents) (message : M → Message) (d : Message) where
  pub seen_posted : (xs ys : List S) (ms ns : List M) (m : M) → ys ≡ xs → ns ≡ ms ++ m ∷ []
      → makes (seen contents message d xs ms) (message m) ≡ seen contents message d ys ns
  seen_posted xs ys ms ns m e f = seen_makes contents message d xs ms m ∙ (λ i. seen contents message d (sym e i) (sym f i))

  -- a message that was made is found at its number
  pub made_is : (ms : List M) (k : ℕ) → 0 < k → k ≤ length ms → (xs : List S) → is_message (seen contents message d xs ms) k ≡ true
  made_is ms k pos le xs = Rattle.cadf_join.proofs.Members.and_both _ _ (lt-ltb 0 k pos) (le-leb k (length ms) le)

-- every element stays what it was, if one is set to what all are
module _ {S A : Type 0} (f : S → A) (d : A) where
  pub all_set : (xs : List S) (k : ℕ) (v : S) → k < length xs → ((j : ℕ) → at_or d (map f xs) j ≡ d) → f v ≡ d
      → (j : ℕ) → at_or d (map f (set xs k v)) j ≡ d
  all_set xs k v h all is j = sym (at_or_set f d xs k v h j) ∙ either (nat_eq k j)
    where
      either : (b : Bool) → cond b (f v) (at_or d (map f xs) j) ≡ d
      either true = is
      either false = all j

  pub all_push : (xs : List S) (v : S) → ((m : ℕ) → at_number d (map f xs) m ≡ d) → f v ≡ d
      → (m : ℕ) → at_number d (map f (xs ++ v ∷ [])) m ≡ d
  all_push xs v all is m = sym (at_number_push f d xs v m) ∙ either (nat_eq (suc (length xs)) m)
    where
      either : (b : Bool) → cond b (f v) (at_number d (map f xs) m) ≡ d
      either true = is
      either false = all m

-- the element at a place, by its default
pub get_at : {S A : Type 0} (f : S → A) (d : A) (xs : List S) (k : ℕ) (e : S) → k < length xs → at_or d (map f xs) k ≡ f (get_or xs k e)
get_at f d [] k e h = absurd (omega arith)
get_at f d (x ∷ xs) zero e h = refl
get_at f d (x ∷ xs) (suc k) e h = get_at f d xs k e (omega arith)

-- the replicas of one log that a world leaves
pub left_is : (log : Text) (xs : List ReplicaModel) (w : World) (count : ℕ) → length xs ≡ count → ((j : ℕ) → at_or log (map log_at xs) j ≡ log)
    → ((j : ℕ) → w.sites j ≡ at_or sets.empty (map held_at xs) j) → xs ≡ left_by log count w
left_is log xs w count len logs sites = same_lists xs (left_by log count w) (len ∙ sym (length-map-range_with_len site 0 count)) each
  where
    site : ℕ → ReplicaModel
    site j = record { log = log; atoms = w.sites j }

    each : (k : ℕ) (d : ReplicaModel) → k < length xs → get_or xs k d ≡ get_or (left_by log count w) k d
    each k d h =
        let in_range : k < count = omega arith in
        (λ i. record { log = (sym (get_at log_at log xs k d h) ∙ logs k) i; atoms = (sym (get_at held_at sets.empty xs k d h) ∙ sym (sites k)) i })
        ∙ sym (get_or-map-range_with_len site 0 count k k d in_range (omega arith))
