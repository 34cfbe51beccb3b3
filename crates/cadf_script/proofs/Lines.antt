-- A script is read a line at a time.
use Rattle.cadf_script.proofs.Common.{◌≡◌, ℕ, suc, ◌+◌, ◌-◌, ◌<◌, ◌≤◌, List, [], ◌∷◌, ◌++◌, Bool, true, false, cond, length, take, drop, refl, sym, ap, ◌∙◌, subst, arith, inl, inr, append_assoc, append-nil, length-append, length-drop, ◌==◌, not, if◌then◌else◌, position_or_len, drop_all, drop-drop, take_all, EachPair, Turn, put_into_first, lines_of, IsTurn, IsNoTurn, IsScript, IsFirstBad}

abbrev IsFirstLine : List ℕ → Type 0
IsFirstLine xs =
    lines_of xs ≡ take (position_or_len (λ x. x == 10) xs) xs ∷ lines_of (drop (position_or_len (λ x. x == 10) xs + 1) xs)

put_line : (x : ℕ) (ys : List ℕ) → (0 < length ys → IsFirstLine ys)
    → put_into_first x (lines_of ys) ≡ (x ∷ take (position_or_len (λ x. x == 10) ys) ys) ∷ lines_of (drop (position_or_len (λ x. x == 10) ys + 1) ys)
unfolding lines_of
put_line x [] ih = refl
put_line x (y ∷ ys) ih = ap (put_into_first x) (ih (omega arith))

one_line : (x : ℕ) (xs : List ℕ) (b : Bool) → (0 < length xs → IsFirstLine xs)
    → (if b then [] ∷ lines_of xs else put_into_first x (lines_of xs)) ≡ take (cond (not b) (1 + position_or_len (λ x. x == 10) xs) 0) (x ∷ xs)
    ∷ lines_of (drop (cond (not b) (1 + position_or_len (λ x. x == 10) xs) 0 + 1) (x ∷ xs))
one_line x xs true ih = refl
one_line x xs false ih =
    put_line x xs ih
    ∙ (λ i. take (count (position_or_len (λ x. x == 10) xs) i) (x ∷ xs) ∷ lines_of (drop (behind (position_or_len (λ x. x == 10) xs) i) (x ∷ xs)))
  where
    count : (n : ℕ) → suc n ≡ 1 + n
    count n = omega arith

    behind : (n : ℕ) → suc (n + 1) ≡ 1 + n + 1
    behind n = omega arith

pub lines_first : (xs : List ℕ) → 0 < length xs → IsFirstLine xs
unfolding lines_of
lines_first [] h = absurd (never h)
  where
    never : 0 < 0 → ⊥
    never h = omega (arith, h)
lines_first (x ∷ xs) h = one_line x xs (x == 10) (lines_first xs)

pub no_lines : lines_of [] ≡ []
unfolding lines_of
no_lines = refl

-- `start` bytes of the script were read, and these are their turns; whatever completes the rest completes the whole
pub record HasRead (bytes : List ℕ) (start : ℕ) (turns : List Turn) : Type 0 where
  pub goes_on : (more : List Turn) → IsScript (drop start bytes) more → IsScript bytes (turns ++ more)
  pub bad : (m : ℕ) → IsFirstBad (lines_of (drop start bytes)) m → IsFirstBad (lines_of bytes) (length turns + m)

pub at_end : (bytes : List ℕ) (start : ℕ) (turns : List Turn) → length bytes ≤ start → HasRead bytes start turns → IsScript bytes turns
at_end bytes start turns past read =
    subst (IsScript bytes) (append-nil turns)
    (read.goes_on [] (subst (λ ls. EachPair IsTurn ls []) (sym (ap lines_of (drop_all start bytes past) ∙ no_lines)) tt))

module _ (bytes : List ℕ) (start : ℕ) (turns : List Turn) (read : HasRead bytes start turns) (within : start < length bytes) where
  abbrev rest : List ℕ
  rest = drop start bytes

  abbrev count : ℕ
  count = position_or_len (λ x. x == 10) rest

  first : lines_of rest ≡ take count rest ∷ lines_of (drop (start + (count + 1)) bytes)
  first = lines_first rest (longer bytes start within) ∙ ap (λ r. take count rest ∷ lines_of r) (drop-drop (count + 1) start bytes)
    where
      longer : (xs : List ℕ) (k : ℕ) → k < length xs → 0 < length (drop k xs)
      longer xs k h = omega (arith, h, length-drop k xs)

  pub one_more : (t : Turn) → IsTurn (take count rest) t → HasRead bytes (start + (count + 1)) (turns ++ t ∷ [])
  one_more t h = record {
    goes_on = λ more g. subst (IsScript bytes) (sym (append_assoc turns (t ∷ []) more))
        (read.goes_on (t ∷ more) (subst (λ ls. EachPair IsTurn ls (t ∷ more)) (sym first) (h, g)));
    bad = λ m g. subst (IsFirstBad (lines_of bytes)) (counted m)
        (read.bad (suc m) (subst (λ ls. IsFirstBad ls (suc m)) (sym first) (inr (m, refl, (t, h), g))));
  }
    where
      counted : (m : ℕ) → length turns + suc m ≡ length (turns ++ t ∷ []) + m
      counted m = omega (arith, length-append turns (t ∷ []))

  pub one_bad : IsNoTurn (take count rest) → IsFirstBad (lines_of bytes) (length turns + 1)
  one_bad h = read.bad 1 (subst (λ ls. IsFirstBad ls 1) (sym first) (inl (refl, h)))

-- the same of the remaining bytes, as a slice of the code has them
module _ (bytes : List ℕ) (start : ℕ) (turns : List Turn) (read : HasRead bytes start turns) (within : start < length bytes)
    (count : ℕ) (e : count ≡ position_or_len (λ x. x == 10) (take (length bytes - start) (drop start bytes))) where
  left : take (length bytes - start) (drop start bytes) ≡ drop start bytes
  left = take_all (length bytes - start) (drop start bytes) (omega (arith, length-drop start bytes))

  places : count ≡ position_or_len (λ x. x == 10) (drop start bytes)
  places = e ∙ ap (λ r. position_or_len (λ x. x == 10) r) left

  pub line_read : (t : Turn) → IsTurn (take count (take (length bytes - start) (drop start bytes))) t
      → HasRead bytes (start + (count + 1)) (turns ++ t ∷ [])
  line_read t h =
      subst (λ k. HasRead bytes (start + (k + 1)) (turns ++ t ∷ [])) (sym places)
      (one_more bytes start turns read within t (subst (λ l. IsTurn l t) (λ i. take (places i) (left i)) h))

  pub line_bad : IsNoTurn (take count (take (length bytes - start) (drop start bytes))) → IsFirstBad (lines_of bytes) (length turns + 1)
  line_bad h = one_bad bytes start turns read within (subst IsNoTurn (λ i. take (places i) (left i)) h)
