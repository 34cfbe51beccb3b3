-- Texts one after another in a block: one of them, a further one, and the first of them.
use Rattle.cadf_pathset.proofs.Common.{common_steps, ◌≡◌, ℕ, ◌+◌, ◌-◌, ◌<◌, ◌≤◌, List, [], ◌∷◌, ◌++◌, refl, sym, ap, ◌∙◌, subst, suc, zero, length, take, drop, get_or, arith, drop-drop, drop-take, length-take, length-drop, take-append-le, drop-append-le, take-take, take_all, IsUtf8-drop, IsUtf8-take, IsCharBoundary-start, IsCharBoundary-end, IsCharBoundary-from_rest, IsCharBoundary-from_take, IsUtf8, IsCharBoundary, Texts, AreEnds, texts_from}
use Rattle.cadf_pathset.proofs.Grown.{boundary_grown}

pub texts_count : (s : ℕ) (es bs : List ℕ) → length (texts_from s es bs) ≡ length es
texts_count s [] bs = refl
texts_count s (e ∷ es) bs = let k = texts_count e es (drop (e - s) bs) in omega (arith, k)

-- one of them
record IsCutAt (bs : List ℕ) (s a e : ℕ) : Type 0 where
  pub first : s ≤ a
  pub rises : a ≤ e
  pub starts : IsCharBoundary bs (a - s)
  pub ends : IsCharBoundary (drop (a - s) bs) (e - a)

cut_at : (s : ℕ) (es bs : List ℕ) (n : ℕ) → IsUtf8 bs → AreEnds s es bs → n < length es → IsCutAt bs s (get_or (s ∷ es) n 0) (get_or es n 0)
cut_at s [] bs n u h l = absurd (omega (arith, l))
cut_at s (e ∷ es) bs zero u h l = grind (arith, common_steps, IsCharBoundary-start)
cut_at s (e ∷ es) bs (suc n) u h l =
    let k = cut_at e es (drop (e - s) bs) n (IsUtf8-drop bs (e - s) u h.1) h.2 (omega (arith, l)) in
    let a = get_or (e ∷ es) n 0 in
    let low = k.first in
    let start = h.0 in
    let whole : (e - s) + (a - e) ≡ a - s = omega (arith, low, start) in
    grind (arith, common_steps, IsCharBoundary-from_rest, drop-drop)

text_cut : (s : ℕ) (es bs : List ℕ) (n : ℕ) → IsUtf8 bs → AreEnds s es bs → n < length es
    → get_or (texts_from s es bs) n [] ≡ take (get_or es n 0 - get_or (s ∷ es) n 0) (drop (get_or (s ∷ es) n 0 - s) bs)
text_cut s [] bs n u h l = absurd (omega (arith, l))
text_cut s (e ∷ es) bs zero u h l = let z : 0 ≡ s - s = omega arith in ap (λ k. take (e - s) (drop k bs)) z
text_cut s (e ∷ es) bs (suc n) u h l =
    let v = IsUtf8-drop bs (e - s) u h.1 in
    let k = cut_at e es (drop (e - s) bs) n v h.2 (omega (arith, l)) in
    grind (arith, common_steps, drop-drop, (text_cut e es (drop (e - s) bs) n v h.2 (omega (arith, l))))

-- a further text
module _ (t : List ℕ) (e : ℕ) where
  ends_more : (s : ℕ) (es bs : List ℕ) → IsUtf8 bs → IsUtf8 (bs ++ t) → AreEnds s es bs → e ≡ s + (length bs + length t) → AreEnds s (es ++ e ∷ []) (bs ++ t)
  ends_more s [] bs u v h is =
      let none = ap length h in
      let k : e - s ≡ length t = omega (arith, is, none) in
      let same : bs ++ t ≡ t = ap (λ z. z ++ t) h in (
        omega (arith, is),
        subst (IsCharBoundary (bs ++ t)) (ap length same ∙ sym k) (IsCharBoundary-end (bs ++ t)),
        (λ i. drop (k i) (same i)) ∙ drop_whole t,
      )
    where
      drop_whole : (l : List ℕ) → drop (length l) l ≡ []
      drop_whole [] = refl
      drop_whole (x ∷ l) = drop_whole l
  ends_more s (f ∷ es) bs u v h is =
      let fits = h.1.0 in
      let low = h.0 in
      let cut : drop (f - s) (bs ++ t) ≡ drop (f - s) bs ++ t = drop-append-le (f - s) bs t fits in
      let here : IsCharBoundary (bs ++ t) (f - s) = boundary_grown bs t (f - s) u v h.1 in
      let left = length-drop (f - s) bs in (
        h.0,
        here,
        subst (AreEnds f (es ++ e ∷ [])) (sym cut)
            (ends_more f es (drop (f - s) bs) (IsUtf8-drop bs (f - s) u h.1) (subst IsUtf8 cut (IsUtf8-drop (bs ++ t) (f - s) v here)) h.2
            (omega (arith, is, fits, low, left))),
      )

  texts_more : (s : ℕ) (es bs : List ℕ) → AreEnds s es bs → e ≡ s + (length bs + length t) → texts_from s (es ++ e ∷ []) (bs ++ t) ≡ texts_from s es bs ++ t ∷ []
  texts_more s [] bs h is =
      let none = ap length h in
      let k : e - s ≡ length t = omega (arith, is, none) in
      let same : bs ++ t ≡ t = ap (λ z. z ++ t) h in
      λ i. ((λ j. take (k j) (same j)) ∙ take_all (length t) t (omega arith)) i ∷ []
  texts_more s (f ∷ es) bs h is =
      let fits = h.1.0 in
      let low = h.0 in
      let left = length-drop (f - s) bs in
      let rest = texts_more f es (drop (f - s) bs) h.2 (omega (arith, is, fits, low, left)) in
      λ i. take-append-le (f - s) bs t fits i ∷ (ap (texts_from f (es ++ e ∷ [])) (drop-append-le (f - s) bs t fits) ∙ rest) i

module _ (t bs cs es ms : List ℕ) (e : ℕ) (h : AreEnds 0 es bs) (put : ms ≡ es ++ e ∷ []) (grown : cs ≡ bs ++ t) (is : e ≡ 0 + (length bs + length t)) where
  pub ends_put : IsUtf8 bs → IsUtf8 cs → AreEnds 0 ms cs
  ends_put u v = subst (λ z. AreEnds 0 z cs) (sym put)
      (subst (AreEnds 0 (es ++ e ∷ [])) (sym grown) (ends_more t e 0 es bs u (subst IsUtf8 grown v) h is))

  pub texts_put : (ts : Texts) → texts_from 0 es bs ≡ ts → texts_from 0 ms cs ≡ ts ++ t ∷ []
  texts_put ts view = (λ i. texts_from 0 (put i) (grown i)) ∙ texts_more t e 0 es bs h is ∙ ap (λ z. z ++ t ∷ []) view

-- the first of them
last_low : (n s : ℕ) (es bs : List ℕ) → AreEnds s es bs → n ≤ length es → s ≤ get_or (s ∷ es) n 0
last_low zero s es bs h l = omega arith
last_low (suc n) s [] bs h l = absurd (omega (arith, l))
last_low (suc n) s (e ∷ es) bs h l = let k = last_low n e es (drop (e - s) bs) h.2 (omega (arith, l)) in let low = h.0 in omega (arith, k, low)

end_boundary : (n s : ℕ) (es bs : List ℕ) → IsUtf8 bs → AreEnds s es bs → n ≤ length es → IsCharBoundary bs (get_or (s ∷ es) n 0 - s)
end_boundary zero s es bs u h l = let z : 0 ≡ s - s = omega arith in subst (IsCharBoundary bs) z (IsCharBoundary-start bs u)
end_boundary (suc n) s [] bs u h l = absurd (omega (arith, l))
end_boundary (suc n) s (e ∷ es) bs u h l =
    let k = end_boundary n e es (drop (e - s) bs) (IsUtf8-drop bs (e - s) u h.1) h.2 (omega (arith, l)) in
    let a = get_or (e ∷ es) n 0 in
    grind (arith, common_steps, last_low, IsCharBoundary-from_rest)

ends_cut : (n s : ℕ) (es bs : List ℕ) → IsUtf8 bs → AreEnds s es bs → n ≤ length es → AreEnds s (take n es) (take (get_or (s ∷ es) n 0 - s) bs)
ends_cut zero s es bs u h l = let z : s - s ≡ 0 = omega arith in ap (λ k. take k bs) z
ends_cut (suc n) s [] bs u h l = absurd (omega (arith, l))
ends_cut (suc n) s (e ∷ es) bs u h l =
    let a = get_or (e ∷ es) n 0 in
    let low = last_low n e es (drop (e - s) bs) h.2 (omega (arith, l)) in
    let start = h.0 in
    let fits = h.1.0 in
    let whole : (e - s) + (a - e) ≡ a - s = omega (arith, low, start) in
    grind (arith, common_steps, IsUtf8-take, end_boundary, length-take, drop-take, IsCharBoundary-from_take, take-take, IsUtf8-drop, (ends_cut n e es (drop (e - s) bs) (IsUtf8-drop bs (e - s) u h.1) h.2 (omega (arith, l))))

texts_cut : (n s : ℕ) (es bs : List ℕ) → AreEnds s es bs → n ≤ length es
    → texts_from s (take n es) (take (get_or (s ∷ es) n 0 - s) bs) ≡ take n (texts_from s es bs)
texts_cut zero s es bs h l = refl
texts_cut (suc n) s [] bs h l = absurd (omega (arith, l))
texts_cut (suc n) s (e ∷ es) bs h l =
    let a = get_or (e ∷ es) n 0 in
    let low = last_low n e es (drop (e - s) bs) h.2 (omega (arith, l)) in
    let start = h.0 in
    let whole : (e - s) + (a - e) ≡ a - s = omega (arith, low, start) in
    grind (arith, common_steps, take-take, drop-take, (texts_cut n e es (drop (e - s) bs) h.2 (omega (arith, l))))

-- the same from the block's beginning on
module _ (es bs : List ℕ) (u : IsUtf8 bs) (h : AreEnds 0 es bs) (n k : ℕ) (at : k ≡ get_or (0 ∷ es) n 0) where
  here : get_or (0 ∷ es) n 0 - 0 ≡ k
  here = omega (arith, at)

  module _ (fits : n ≤ length es) where
    pub front_boundary : IsCharBoundary bs k
    front_boundary = subst (IsCharBoundary bs) here (end_boundary n 0 es bs u h fits)

    pub front_ends : AreEnds 0 (take n es) (take k bs)
    front_ends = subst (λ j. AreEnds 0 (take n es) (take j bs)) here (ends_cut n 0 es bs u h fits)

    pub front_texts : texts_from 0 (take n es) (take k bs) ≡ take n (texts_from 0 es bs)
    front_texts = ap (λ j. texts_from 0 (take n es) (take j bs)) (sym here) ∙ texts_cut n 0 es bs h fits

  module _ (e : ℕ) (end : e ≡ get_or es n 0) (fits : n < length es) where
    long : get_or es n 0 - get_or (0 ∷ es) n 0 ≡ e - k
    long = λ i. sym end i - sym at i

    pub text_rises : k ≤ e
    text_rises = let r = (cut_at 0 es bs n u h fits).rises in omega (arith, r, at, end)

    pub text_boundary : IsCharBoundary (drop k bs) (e - k)
    text_boundary = subst (λ j. IsCharBoundary (drop j bs) (e - k)) here
        (subst (IsCharBoundary (drop (get_or (0 ∷ es) n 0 - 0) bs)) long (cut_at 0 es bs n u h fits).ends)

    pub text_there : take (e - k) (drop k bs) ≡ get_or (texts_from 0 es bs) n []
    text_there = sym (text_cut 0 es bs n u h fits ∙ (λ i. take (long i) (drop (here i) bs)))
