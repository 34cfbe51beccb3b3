-- Lists that share their first texts.
use Rattle.cadf_pathset.proofs.Common.{common_steps, ◌≡◌, ℕ, ◌+◌, ◌<◌, ◌≤◌, min, [], ◌∷◌, refl, sym, ap, ◌∙◌, subst, suc, zero, length, take, drop, get_or, arith, length-take-le, take_more_same, take-take, Ordering, Less, Equal, Greater, ordering_then, match_ordering, nat_cmp, nat_cmp_is, tied_itself, Text, Texts, text_cmp, texts_cmp, text_total, text_same, Agree, shared}
use Rattle.cadf_pathset.proofs.Orders.{cmp_suc}

module _ (i : ℕ) (t u : Text) (a b : Texts) (h : Agree (suc i) (t ∷ a) (u ∷ b)) where
  agree_first : text_cmp t u ≡ Equal
  agree_first = subst (λ z. text_cmp t z ≡ Equal) (ap (λ z. get_or z 0 []) h.same) (tied_itself text_total t)

  agree_rest : Agree i a b
  agree_rest =
      let x = h.ours in
      let y = h.theirs in
      record { ours = omega (arith, x); theirs = omega (arith, y); same = ap (drop 1) h.same }

pub agree_more : (i : ℕ) (a b : Texts) → Agree i a b → i < length a → i < length b → text_cmp (get_or a i []) (get_or b i []) ≡ Equal → Agree (i + 1) a b
agree_more i a b h l m e = record {
  ours = omega (arith, l);
  theirs = omega (arith, m);
  same = take_more_same a b i [] l m h.same (text_same (get_or a i []) (get_or b i []) e);
}

pub agree_less : (i j : ℕ) (a b : Texts) → j ≤ i → Agree i a b → Agree j a b
agree_less i j a b l h =
    let x = h.ours in
    let y = h.theirs in
    record {
      ours = omega (arith, x, l);
      theirs = omega (arith, y, l);
      same = sym (take-take j i a l) ∙ ap (take j) h.same ∙ take-take j i b l;
    }

pub agree_through : (i j : ℕ) (a b c : Texts) → Agree i a b → Agree j b c → Agree (min i j) a c
agree_through i j a b c h k = grind (arith, common_steps, agree_less)

-- the first texts of a list
pub agree_cut : (n k count : ℕ) (a b : Texts) → Agree n a b → count ≤ length b → k ≡ min n count → Agree k a (take count b)
agree_cut n k count a b h l e = grind (arith, common_steps, agree_less, length-take-le, take-take)

pub agree_turned : (i : ℕ) (a b : Texts) → Agree i a b → Agree i b a
agree_turned i a b h = record { ours = h.theirs; theirs = h.ours; same = sym h.same }

-- two lists, each of which shares texts with one list
pub agree_both : (i j n : ℕ) (a b x y : Texts) → a ≡ b → Agree i a x → Agree j b y → n ≡ min i j → Agree n x y
agree_both i j n a b x y e h k is = grind (arith, common_steps, agree_through, agree_turned)

-- at the text at which they diverge
pub parted : (i : ℕ) (a b : Texts) (r : Ordering) → Agree i a b → i < length a → i < length b → text_cmp (get_or a i []) (get_or b i []) ≡ r
    → (r ≡ Equal → ⊥) → (texts_cmp a b ≡ r) × (shared a b ≡ i)
parted i [] b r h l m e n = absurd (omega (arith, l))
parted i (t ∷ a) [] r h l m e n = absurd (omega (arith, m))
parted zero (t ∷ a) (u ∷ b) Less h l m e n = (ap (λ z. ordering_then z (texts_cmp a b)) e, ap (λ z. match_ordering z 0 (shared a b + 1) 0) e)
parted zero (t ∷ a) (u ∷ b) Equal h l m e n = absurd (n refl)
parted zero (t ∷ a) (u ∷ b) Greater h l m e n = (ap (λ z. ordering_then z (texts_cmp a b)) e, ap (λ z. match_ordering z 0 (shared a b + 1) 0) e)
parted (suc i) (t ∷ a) (u ∷ b) r h l m e n =
    let rest = parted i a b r (agree_rest i t u a b h) (omega (arith, l)) (omega (arith, m)) e n in
    let first = agree_first i t u a b h in
    grind (arith, common_steps)

-- if one of them ends
pub ended : (i : ℕ) (a b : Texts) → Agree i a b → min (length a) (length b) ≤ i → (texts_cmp a b ≡ nat_cmp (length a) (length b)) × (shared a b ≡ i)
ended zero [] [] h l = (nat_cmp_is 0 0 Equal refl, refl)
ended zero [] (u ∷ b) h l = (nat_cmp_is 0 (length (u ∷ b)) Less (omega arith), refl)
ended zero (t ∷ a) [] h l = (nat_cmp_is (length (t ∷ a)) 0 Greater (omega arith), refl)
ended zero (t ∷ a) (u ∷ b) h l = absurd (omega (arith, l))
ended (suc i) [] b h l = let x = h.ours in absurd (omega (arith, x))
ended (suc i) (t ∷ a) [] h l = let x = h.theirs in absurd (omega (arith, x))
ended (suc i) (t ∷ a) (u ∷ b) h l =
    let rest = ended i a b (agree_rest i t u a b h) (omega (arith, l)) in
    let first = agree_first i t u a b h in
    grind (arith, common_steps, cmp_suc)

greater_not : Greater ≡ Less → ⊥
greater_not e = cc

not_itself : (t : Text) → text_cmp t t ≡ Less → ⊥
not_itself t e = equal_not (sym (tied_itself text_total t) ∙ e)
  where
    equal_not : Equal ≡ Less → ⊥
    equal_not q = cc

not_both : (t u : Text) → text_cmp t u ≡ Less → text_cmp u t ≡ Less → ⊥
not_both t u e f = not_itself t (text_total.trans t u t e f)

-- a list between two lists has their common prefix
pub between : (n : ℕ) (a x b : Texts) → Agree n a b → texts_cmp a x ≡ Less → texts_cmp x b ≡ Less → Agree n a x
between zero a x b h l m = record { ours = omega arith; theirs = omega arith; same = refl }
between (suc n) [] x b h l m = let k = h.ours in absurd (omega (arith, k))
between (suc n) (t ∷ a) [] b h l m = absurd (greater_not l)
between (suc n) (t ∷ a) (u ∷ x) [] h l m = let k = h.theirs in absurd (omega (arith, k))
between (suc n) (t ∷ a) (u ∷ x) (v ∷ b) h l m = by (text_cmp t u) refl (text_cmp u v) refl l m (λ p q. between n a x b (agree_rest n t v a b h) p q)
  where
    first : t ≡ v
    first = text_same t v (agree_first n t v a b h)

    by : (r : Ordering) → text_cmp t u ≡ r → (s : Ordering) → text_cmp u v ≡ s → ordering_then r (texts_cmp a x) ≡ Less → ordering_then s (texts_cmp x b) ≡ Less
        → (texts_cmp a x ≡ Less → texts_cmp x b ≡ Less → Agree n a x) → Agree (suc n) (t ∷ a) (u ∷ x)
    by Less e Less f l m rest = absurd (not_both t u e (ap (text_cmp u) first ∙ f))
    by Less e Equal f l m rest = absurd (not_itself t (ap (text_cmp t) (first ∙ sym (text_same u v f)) ∙ e))
    by Less e Greater f l m rest = absurd (greater_not m)
    by Equal e Less f l m rest = absurd (not_itself u (ap (text_cmp u) (sym (text_same t u e) ∙ first) ∙ f))
    by Equal e Equal f l m rest =
        let more = rest l m in
        let x1 = more.ours in
        let x2 = more.theirs in
        record { ours = omega (arith, x1); theirs = omega (arith, x2); same = λ i. text_same t u e i ∷ more.same i }
    by Equal e Greater f l m rest = absurd (greater_not m)
    by Greater e s f l m rest = absurd (greater_not l)
