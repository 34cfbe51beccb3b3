-- A line's list and a path, compared at one text.
use Rattle.cadf_pathset.proofs.Common.{common_steps, ◌≡◌, ℕ, ◌+◌, ◌<◌, ◌≤◌, min, List, [], true, false, ap, sym, ◌∙◌, length, take, get_or, arith, Bor, length-map, length-take, take-map, Ordering, Less, Equal, Greater, true≢false, is_eq, nat_cmp, Text, Texts, text_cmp, texts_cmp, texts_at, Agree, IsLine, last_text, list_at, place, shared}
use Rattle.cadf_pathset.proofs.Agreement.{agree_more, parted, ended}
use Rattle.cadf_pathset.proofs.Threads.{text_on_line}

pub less_is_not : Less ≡ Equal → ⊥
less_is_not e = cc

pub greater_is_not : Greater ≡ Equal → ⊥
greater_is_not e = cc

pub is_equal : (r : Ordering) → is_eq r ≡ true → r ≡ Equal
is_equal r h = grind (arith, common_steps)

pub not_equal : (r : Ordering) → is_eq r ≡ false → r ≡ Equal → ⊥
not_equal r h e = true≢false (sym (ap is_eq e) ∙ h)

module _ (ls : List Texts) (ns : List ℕ) (q : Texts) (len : ℕ) (long : length q ≡ len) (i : ℕ) (h : IsLine ls ns (place ls ns)) (k : Agree i (place ls ns) q) where
  module _ (b : i < length ns) (d : i < len) (t u : Text) (r : Ordering) (ours : t ≡ last_text (list_at ls (get_or ns i 0)))
      (theirs : u ≡ get_or q i []) (is : r ≡ text_cmp t u) where
    at_text : text_cmp (get_or (place ls ns) i []) (get_or q i []) ≡ r
    at_text = sym (is ∙ (λ j. text_cmp ((ours ∙ text_on_line ls ns (place ls ns) h i b) j) (theirs j)))

    fits : i < length (place ls ns)
    fits = let m = h.long in omega (arith, m, b)

    reaches : i < length q
    reaches = omega (arith, long, d)

    pub part_here : (r ≡ Equal → ⊥) → (texts_cmp (place ls ns) q ≡ r) × (shared (place ls ns) q ≡ i)
    part_here n = parted i (place ls ns) q r k fits reaches at_text n

    pub agree_here : r ≡ Equal → Agree (i + 1) (place ls ns) q
    agree_here e = agree_more i (place ls ns) q k fits reaches (at_text ∙ e)

  pub end_here : min (length ns) len ≤ i → (texts_cmp (place ls ns) q ≡ nat_cmp (length ns) len) × (shared (place ls ns) q ≡ i)
  end_here b =
      let m = h.long in
      let e = ended i (place ls ns) q k (omega (arith, m, long, b)) in
      (e.0 ∙ (λ j. nat_cmp (sym m j) (long j)), e.1)

-- what is left of a path that is cut
pub cut_path : (p q : List (Bor (List ℕ))) (n : ℕ) (l : Texts) → q ≡ take n p → Agree n (texts_at p) l → texts_at q ≡ take (length q) l
cut_path p q n l e h = grind (arith, common_steps, length-take, length-map, take-map)

-- the same of two lists, if the length of one is known
module _ (l q : Texts) (len : ℕ) (long : length q ≡ len) (i : ℕ) (k : Agree i l q) where
  module _ (b : i < length l) (d : i < len) (t u : Text) (r : Ordering) (ours : t ≡ get_or l i []) (theirs : u ≡ get_or q i []) (is : r ≡ text_cmp t u) where
    text_here : text_cmp (get_or l i []) (get_or q i []) ≡ r
    text_here = sym (is ∙ (λ j. text_cmp (ours j) (theirs j)))

    list_reaches : i < length q
    list_reaches = omega (arith, long, d)

    pub list_parts : (r ≡ Equal → ⊥) → (texts_cmp l q ≡ r) × (shared l q ≡ i)
    list_parts n = parted i l q r k b list_reaches text_here n
