-- What stands in a buffer after one more write.
use Rattle.cadf_memory.proofs.Common.{◌≡◌, ℕ, ◌+◌, ◌-◌, ◌≤◌, ◌<◌, Bool, true, false, List, ◌++◌, length, take, drop, refl, sym, ap, ◌∙◌, arith, append-nil, append_assoc, length-append, length-drop, length-take-le, take_all, leb, leb-true, leb-false, take-append-le, drop_of_length-le, take-append_seam, drop-append_seam, take-append-add, take-take, drop-drop, take-length, handed}

either : {P : Type 0} (a b : ℕ) → (a ≤ b → P) → (b ≤ a → P) → P
either {P} a b f g = by (leb a b) refl
  where
    by : (x : Bool) → leb a b ≡ x → P
    by true e = f (leb-true a b e)
    by false e = let h : b < a = leb-false a b e in g (omega arith)

-- the buffer `now`, in which the bytes from s up to e are written
abbrev written_at : List ℕ → ℕ → ℕ → List ℕ → List ℕ
written_at now s e bytes = take s now ++ (take (e - s) bytes ++ drop (e - s) (drop s now))

module _ (text old bytes : List ℕ) where
  -- it had room for all so far
  fits_so_far : length text ≤ length old → handed text old ≡ text ++ drop (length text) old
  fits_so_far h = rw take_all refl

  -- it had no more room
  is_full : length old ≤ length text → handed text old ≡ take (length old) text
  is_full h = rw (drop_of_length-le old h) (append-nil (take (length old) text))

  after_room : (n : ℕ) → length text ≤ length old → written_at (text ++ drop (length text) old) (length text) (length text + n) bytes
      ≡ text ++ (take n bytes ++ drop (length text + n) old)
  after_room n h =
      let d : length text + n - length text ≡ n = omega arith in
      rw d (rw take-append_seam (rw drop-append_seam (rw drop-drop refl)))

  handed_more : length text ≤ length old → handed (text ++ bytes) old
      ≡ text ++ (take (length old - length text) bytes ++ drop (length text + length bytes) old)
  handed_more h =
      let d : length old ≡ length text + (length old - length text) = omega arith in
      ap (λ (n : ℕ). take n (text ++ bytes) ++ drop (length (text ++ bytes)) old) d
      ∙ ap (λ (xs : List ℕ). xs ++ drop (length (text ++ bytes)) old) (take-append-add text bytes (length old - length text))
      ∙ rw length-append (rw append_assoc refl)

  length_handed : length (handed text old) ≡ length old
  length_handed = either (length text) (length old)
      (λ h. rw (fits_so_far h) (rw length-append (rw length-drop (omega arith))))
      (λ h. rw (is_full h) (length-take-le (length old) text h))

  same_written : (now now' : List ℕ) (s s' e e' : ℕ) → now ≡ now' → s ≡ s' → e ≡ e' → written_at now s e bytes ≡ written_at now' s' e' bytes
  same_written now now' s s' e e' p q r =
      ap (λ (x : List ℕ). written_at x s e bytes) p ∙ ap (λ (x : ℕ). written_at now' x e bytes) q
      ∙ ap (λ (x : ℕ). written_at now' s' x bytes) r

  module _ (now : List ℕ) (s e : ℕ) (was : now ≡ handed text old) (whole : length text ≤ length old → s ≡ length text)
      (cut : length old ≤ length text → s ≡ length old) (ends : length text + length bytes ≤ length old → e ≡ length text + length bytes)
      (stops : length old ≤ length text + length bytes → e ≡ length old) where
    all_fits : length text ≤ length old → length text + length bytes ≤ length old → written_at now s e bytes ≡ handed (text ++ bytes) old
    all_fits h k =
        let m : length bytes ≤ length old - length text = omega arith in
        same_written now _ s _ e _ (was ∙ fits_so_far h) (whole h) (ends k) ∙ after_room (length bytes) h
        ∙ ap (λ (xs : List ℕ). text ++ (xs ++ drop (length text + length bytes) old))
        (take-length bytes ∙ sym (take_all (length old - length text) bytes m))
        ∙ sym (handed_more h)

    some_fits : length text ≤ length old → length old ≤ length text + length bytes → written_at now s e bytes ≡ handed (text ++ bytes) old
    some_fits h k =
        let d : length old ≡ length text + (length old - length text) = omega arith in
        let l : length old ≤ length text + (length old - length text) = omega arith in
        same_written now _ s _ e _ (was ∙ fits_so_far h) (whole h) (stops k ∙ d) ∙ after_room (length old - length text) h
        ∙ ap (λ (xs : List ℕ). text ++ (take (length old - length text) bytes ++ xs))
        (drop_of_length-le old l ∙ sym (drop_of_length-le old k))
        ∙ sym (handed_more h)

    nothing_fits : length old ≤ length text → written_at now s e bytes ≡ handed (text ++ bytes) old
    nothing_fits h =
        let k : length old ≤ length text + length bytes = omega arith in
        let z : length old - length old ≡ 0 = omega arith in
        let t : length (take (length old) text) ≤ length old = rw (length-take-le (length old) text h) (omega arith) in
        let a : length old ≤ length (text ++ bytes) = rw length-append k in
        same_written now _ s _ e _ (was ∙ is_full h) (cut h) (stops k)
        ∙ rw z (rw (drop_of_length-le (take (length old) text) t) (rw (take-take (length old) (length old) text (omega arith))
        (rw (take-append-le (length old) text bytes h) (rw (drop_of_length-le old a) refl))))

    stored : written_at now s e bytes ≡ handed (text ++ bytes) old
    stored = either (length text) (length old)
        (λ h. either (length text + length bytes) (length old) (all_fits h) (some_fits h)) nothing_fits

module _ (text old bytes now : List ℕ) (s e : ℕ) (was : now ≡ handed text old) (whole : length text ≤ length now → s ≡ length text)
    (cut : length now ≤ length text → s ≡ length now) (ends : length text + length bytes ≤ length now → e ≡ length text + length bytes)
    (stops : length now ≤ length text + length bytes → e ≡ length now) where
  long : length now ≡ length old
  long = ap length was ∙ length_handed text old bytes

  pub stores : take s now ++ (take (e - s) bytes ++ drop (e - s) (drop s now)) ≡ handed (text ++ bytes) old
  stores =
      stored text old bytes now s e was (λ h. whole (rw long h)) (λ h. cut (rw long h) ∙ long) (λ h. ends (rw long h))
      (λ h. stops (rw long h) ∙ long)
