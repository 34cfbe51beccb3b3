-- The tree of digests that rise is a node of the trees of those before and after the place where the first and the last one part.
use Rattle.cadf_tree.proofs.Common.{◌≡◌, ◌∙◌, ◌+◌, ◌-◌, ◌<◌, ◌≤◌, ◌++◌, ℕ, suc, Bool, true, false, cond, List, [], ◌∷◌, Option, None, Some, length, take, drop, get_or, refl, ap, sym, subst, arith, append-nil, length-append, nat_lt, not, if◌then◌else◌, AllByRecursion, ltb-true, ltb-false, Text, Tree, Tip, Branch, hash, tree_hash, all_leaves, beside, bit, zeros, ones, divided, tree_of, parting, IsBefore, Rises, Hidden, Fork, Kinds, any_shown, size, IsHalved, leaf_part, made_leaf, made, preorder, made_parts, Kind, Part, Node, Hash}
use Rattle.cadf_tree.proofs.OnePass.{trie_none, Share, AllShare, share_parting, share_fewer, share_itself, lower, all_more, trie_end}
use Rattle.cadf_tree.proofs.Sorted.{halves_are, leaves_from, none_have, rises_kept}
use Rattle.cadf_tree.proofs.Making.{first_none, size_leaves}

-- the last of these
abbrev pub last : Text → List Text → Text
last b [] = b
last b (c ∷ bs) = last c bs

all_last : (P : Text → Type 0) (c : Text) (cs : List Text) → AllByRecursion P (c ∷ cs) → P (last c cs)
all_last P c [] h = h.0
all_last P c (d ∷ cs) h = all_last P d cs h.1

-- ---- shared bits

-- what is between two digests shares with the first one what the last one does
module _ (a e z : Text) (ae : IsBefore a e) (ez : IsBefore e z) where
  no_less : parting a e < parting a z → ⊥
  no_less low = by (nat_lt (parting a e) (parting e z)) refl
    where
      low_there : bit (parting a e) z ≡ false
      low_there = sym (share_parting a z (parting a e) low) ∙ ae.low

      at : parting e z ≡ parting a e → ⊥
      at same =
          let both : false ≡ true = sym ez.low ∙ ap (λ j. bit j e) same ∙ ae.high in
          absurd (cc)

      before : parting e z < parting a e → ⊥
      before less =
          let both : false ≡ true =
          sym ez.low ∙ sym (share_parting a e (parting e z) less) ∙ share_parting a z (parting e z) (omega (arith, less, low)) ∙ ez.high in
          absurd (cc)

      rest : parting e z ≤ parting a e → (y : Bool) → nat_lt (parting e z) (parting a e) ≡ y → ⊥
      rest most true y = before (ltb-true _ _ y)
      rest most false y = at (omega (arith, most, ltb-false _ _ y))

      by : (y : Bool) → nat_lt (parting a e) (parting e z) ≡ y → ⊥
      by true y =
          let both : true ≡ false = sym ae.high ∙ share_parting e z (parting a e) (ltb-true _ _ y) ∙ low_there in
          absurd (cc)
      by false y = rest (ltb-false _ _ y) (nat_lt (parting e z) (parting a e)) refl

  between : Share (parting a z) a e
  between = by (nat_lt (parting a e) (parting a z)) refl
    where
      by : (y : Bool) → nat_lt (parting a e) (parting a z) ≡ y → Share (parting a z) a e
      by true y = absurd (no_less (ltb-true _ _ y))
      by false y = share_fewer (parting a z) (parting a e) a e (ltb-false _ _ y) (share_parting a e)

all_between : (a c : Text) (cs : List Text) → AllByRecursion (IsBefore a) (c ∷ cs) → Rises (c ∷ cs) → AllShare (parting a (last c cs)) a (c ∷ cs)
all_between a c [] h r = (share_parting a c, tt)
all_between a c (d ∷ cs) h r = (between a c (last d cs) h.0 (all_last (IsBefore c) d cs r.0), all_between a d cs h.1 r.1)

one_bit_more : (c : ℕ) (a e : Text) → Share c a e → bit c a ≡ bit c e → Share (suc c) a e
one_bit_more c a e h same j low = by (nat_lt j c) refl
  where
    by : (z : Bool) → nat_lt j c ≡ z → bit j a ≡ bit j e
    by true z = h j (ltb-true _ _ z)
    by false z =
        let here : j ≡ c = omega (arith, low, ltb-false _ _ z) in
        ap (λ m. bit m a) here ∙ same ∙ ap (λ m. bit m e) (sym here)

zeros_share : (c : ℕ) (a : Text) (ds : List Text) → bit c a ≡ false → AllShare c a ds → AllShare (suc c) a (zeros c ds)
zeros_share c a [] low h = tt
zeros_share c a (d ∷ ds) low h = by (bit c d) refl (zeros_share c a ds low h.1)
  where
    by : (z : Bool) → bit c d ≡ z → AllShare (suc c) a (zeros c ds) → AllShare (suc c) a (cond (not z) (d ∷ zeros c ds) (zeros c ds))
    by true e rest = rest
    by false e rest = (one_bit_more c a d h.0 (low ∙ sym e), rest)

ones_share : (c : ℕ) (a : Text) (ds : List Text) → bit c a ≡ true → AllShare c a ds → AllShare (suc c) a (ones c ds)
ones_share c a [] high h = tt
ones_share c a (d ∷ ds) high h = by (bit c d) refl (ones_share c a ds high h.1)
  where
    by : (z : Bool) → bit c d ≡ z → AllShare (suc c) a (ones c ds) → AllShare (suc c) a (cond z (d ∷ ones c ds) (ones c ds))
    by true e rest = (one_bit_more c a d h.0 (high ∙ sym e), rest)
    by false e rest = rest

from_last : (c : ℕ) (a z : Text) (ds : List Text) → Share c a z → AllShare c a ds → AllShare c z ds
from_last c a z ds same h = all_more (Share c a) (Share c z) ds (λ e s j low. sym (same j low) ∙ s j low) h

-- ---- both halves

opened : (n c : ℕ) (ds : List Text) → divided (suc n) c ds ≡ beside (divided n (suc c) (zeros c ds)) (divided n (suc c) (ones c ds))
unfolding divided
opened n c ds = refl

halved : (w n c : ℕ) (a z : Text) (ds : List Text) → w ≡ suc n + c → bit c a ≡ false → bit c z ≡ true → Share c a z → AllShare c a ds
    → divided w 0 ds ≡ beside (divided w 0 (zeros c ds)) (divided w 0 (ones c ds))
halved w n c a z ds full low high same h =
    lower (suc n) c w 0 a ds (omega (arith, full)) (omega arith) h ∙ opened n c ds
    ∙ (λ i. beside (sym (lower n (suc c) w 0 a (zeros c ds) (omega (arith, full)) (omega arith) (zeros_share c a ds low h)) i)
    (sym (lower n (suc c) w 0 z (ones c ds) (omega (arith, full)) (omega arith) (ones_share c z ds high (from_last c a z ds same h))) i))

pub take_left : {X : Type 0} (xs ys : List X) → take (length xs) (xs ++ ys) ≡ xs
take_left [] ys = refl
take_left (x ∷ xs) ys = ap (λ l. x ∷ l) (take_left xs ys)

pub drop_left : {X : Type 0} (xs ys : List X) → drop (length xs) (xs ++ ys) ≡ ys
drop_left [] ys = refl
drop_left (x ∷ xs) ys = drop_left xs ys

ones_some : (c : ℕ) (b : Text) (bs : List Text) → bit c (last b bs) ≡ true → 0 < length (ones c (b ∷ bs))
ones_some c b [] high = omega (arith, ap (λ z. length (cond z (b ∷ []) [])) high)
ones_some c b (d ∷ bs) high = by (bit c b) (ones_some c d bs high)
  where
    by : (z : Bool) → 0 < length (ones c (d ∷ bs)) → 0 < length (cond z (b ∷ ones c (d ∷ bs)) (ones c (d ∷ bs)))
    by true h = omega arith
    by false h = h

zeros_some : (c : ℕ) (a : Text) (ds : List Text) → bit c a ≡ false → 0 < length (zeros c (a ∷ ds))
zeros_some c a ds low = omega (arith, ap (λ z. length (cond (not z) (a ∷ zeros c ds) (zeros c ds))) low)

-- ---- parts

pub rising_leaves : (ds : List Text) → Rises ds → all_leaves (tree_of ds) ≡ ds
unfolding tree_of
rising_leaves ds r = leaves_from 256 0 (λ j. false) ds (omega arith) (none_have (λ j. false) ds) r

parts_beside : (s t : Option Tree) (ks : Kinds) → 0 < length (all_leaves s) → 0 < length (all_leaves t) → any_shown ks ≡ true
    → made_parts (beside s t) ks ≡ Node ∷ made_parts s (take (length (all_leaves s)) ks) ++ made_parts t (drop (length (all_leaves s)) ks)
unfolding made
parts_beside None t ks low high e = absurd (omega (arith, low))
parts_beside (Some l) None ks low high e = absurd (omega (arith, high))
parts_beside (Some l) (Some r) ks low high e =
    ap (λ z. preorder (if z then Fork (made l (take (size l) ks)) (made r (drop (size l) ks)) else Hidden (hash (Branch l r)))) e
    ∙ (λ i. Node ∷ preorder (made l (take (size_leaves l i) ks)) ++ preorder (made r (drop (size_leaves l i) ks)))

module _ (a c : Text) (cs : List Text) (r : Rises (a ∷ c ∷ cs)) where
  abbrev pub place : ℕ
  place = parting a (last c cs)

  ends : IsBefore a (last c cs)
  ends = all_last (IsBefore a) c cs r.0

  abbrev pub all : List Text
  all = a ∷ c ∷ cs

  shares : AllShare place a all
  shares = (share_itself place a, all_between a c cs r.0 r.1)

  tree_is : tree_of all ≡ beside (tree_of (zeros place all)) (tree_of (ones place all))
  unfolding tree_of
  tree_is = halved 256 (255 - place) place a (last c cs) all (omega (arith, ends.some)) ends.low ends.high (share_parting a (last c cs)) shares

  both : zeros place all ++ ones place all ≡ all
  both = halves_are place (λ j. bit j a) all (all_more (Share place a) (λ d. (j : ℕ) → j < place → bit j d ≡ bit j a) all (λ d s j low. sym (s j low)) shares) r

  pub halve : IsHalved all (length (zeros place all))
  halve = record {
    some = zeros_some place a (c ∷ cs) ends.low;
    less = omega (arith, ap length both, length-append (zeros place all) (ones place all), ones_some place a (c ∷ cs) ends.high);
    low = subst Rises (sym first) (rises_kept (λ d. not (bit place d)) all r);
    high = subst Rises (sym second) (rises_kept (λ d. bit place d) all r);
    parts = λ ks e.
        ap (λ o. made_parts o ks) tree_is
        ∙ parts_beside (tree_of (zeros place all)) (tree_of (ones place all)) ks (omega (arith, ap length low_leaves, zeros_some place a (c ∷ cs) ends.low))
        (omega (arith, ap length high_leaves, ones_some place a (c ∷ cs) ends.high)) e
        ∙ (λ i. Node ∷ made_parts (tree_of (sym first i)) (take (length (low_leaves i)) ks) ++ made_parts (tree_of (sym second i)) (drop (length (low_leaves i)) ks));
  }
    where
      first : take (length (zeros place all)) all ≡ zeros place all
      first = ap (take (length (zeros place all))) (sym both) ∙ take_left (zeros place all) (ones place all)

      second : drop (length (zeros place all)) all ≡ ones place all
      second = ap (drop (length (zeros place all))) (sym both) ∙ drop_left (zeros place all) (ones place all)

      low_leaves : all_leaves (tree_of (zeros place all)) ≡ zeros place all
      low_leaves = rising_leaves (zeros place all) (rises_kept (λ d. not (bit place d)) all r)

      high_leaves : all_leaves (tree_of (ones place all)) ≡ ones place all
      high_leaves = rising_leaves (ones place all) (rises_kept (λ d. bit place d) all r)

last_at : (d b : Text) (bs : List Text) → get_or (b ∷ bs) (length bs) d ≡ last b bs
last_at d b [] = refl
last_at d b (c ∷ bs) = last_at d c bs

pub halve_code : (ds : List Text) (d x y : Text) (m p : ℕ) → Rises ds → 2 ≤ length ds → x ≡ get_or ds 0 d → y ≡ get_or ds (length ds - 1) d → p ≡ parting x y
    → m ≡ length (zeros p ds) → IsHalved ds m
halve_code [] d x y m p r some e f g h = absurd (omega (arith, some))
halve_code (a ∷ []) d x y m p r some e f g h = absurd (omega (arith, some))
halve_code (a ∷ c ∷ cs) d x y m p r some e f g h = subst (IsHalved (a ∷ c ∷ cs)) (sym same) (halve a c cs r)
  where
    at : length (a ∷ c ∷ cs) - 1 ≡ length (c ∷ cs)
    at = omega arith

    end : y ≡ last c cs
    end = f ∙ ap (λ n. get_or (a ∷ c ∷ cs) n d) at ∙ last_at d a (c ∷ cs)

    same : m ≡ length (zeros (place a c cs r) (a ∷ c ∷ cs))
    same = h ∙ ap (λ q. length (zeros q (a ∷ c ∷ cs))) (g ∙ (λ i. parting (e i) (end i)))

-- ---- a leaf, and a hash

pub one_parts : (d : Text) (k : Option Kind) (ks : Kinds) → made_parts (tree_of (d ∷ [])) (k ∷ ks) ≡ preorder (made_leaf d k)
unfolding tree_of made
one_parts d k ks =
    ap (λ o. made_parts o (k ∷ ks)) (lower 0 256 256 0 d (d ∷ []) (omega arith) (omega arith) (share_itself 256 d, tt) ∙ trie_end 256 d)

hidden_made : (t : Tree) (ks : Kinds) → any_shown ks ≡ false → made t ks ≡ Hidden (hash t)
unfolding made
hidden_made (Tip d) ks e = ap (made_leaf d) (first_none ks e)
hidden_made (Branch l r) ks e = ap (λ z. if z then Fork (made l (take (size l) ks)) (made r (drop (size l) ks)) else Hidden (hash (Branch l r))) e

hidden_by : (o : Option Tree) (ks : Kinds) → 0 < length (all_leaves o) → any_shown ks ≡ false → made_parts o ks ≡ Hash (tree_hash o) ∷ []
hidden_by None ks some e = absurd (omega (arith, some))
hidden_by (Some t) ks some e = ap preorder (hidden_made t ks e)

pub hidden_parts : (ds : List Text) (ks : Kinds) → Rises ds → 0 < length ds → any_shown ks ≡ false → made_parts (tree_of ds) ks ≡ Hash (tree_hash (tree_of ds)) ∷ []
hidden_parts ds ks r some e = hidden_by (tree_of ds) ks (omega (arith, some, ap length (rising_leaves ds r))) e

-- ---- what is appended

pub none_code : (ps : List Part) (ds : List Text) (ks : Kinds) → length ds ≡ 0 → ps ≡ ps ++ made_parts (tree_of ds) ks
unfolding tree_of
none_code ps [] ks e = sym (append-nil ps) ∙ ap (λ o. ps ++ made_parts o ks) (sym (trie_none 256 0))
none_code ps (d ∷ ds) ks e = absurd (omega (arith, e))

leaf_parts : (d : Text) (k : Option Kind) → leaf_part d k ∷ [] ≡ preorder (made_leaf d k)
leaf_parts d None = refl
leaf_parts d (Some k) = refl

pub one_code : (ps after : List Part) (ds : List Text) (ks : Kinds) (x : Part) (d : Text) (k : Option Kind) → length ds ≡ 1 → length ks ≡ length ds
    → x ≡ leaf_part (get_or ds 0 d) (get_or ks 0 k) → after ≡ ps ++ x ∷ [] → after ≡ ps ++ made_parts (tree_of ds) ks
one_code ps after [] ks x d k e f g h = absurd (omega (arith, e))
one_code ps after (a ∷ []) [] x d k e f g h = absurd (omega (arith, f))
one_code ps after (a ∷ []) (b ∷ ks) x d k e f g h =
    h ∙ ap (λ l. ps ++ l) (ap (λ y. y ∷ []) g ∙ leaf_parts a b ∙ sym (one_parts a b ks))
one_code ps after (a ∷ b ∷ ds) ks x d k e f g h = absurd (omega (arith, e))

pub hidden_code : (ps after : List Part) (ds : List Text) (ks : Kinds) (h : Text) → Rises ds → 0 < length ds → any_shown ks ≡ false → h ≡ tree_hash (tree_of ds)
    → after ≡ ps ++ Hash h ∷ [] → after ≡ ps ++ made_parts (tree_of ds) ks
hidden_code ps after ds ks h r some e f g =
    g ∙ ap (λ l. ps ++ l) (ap (λ y. Hash y ∷ []) f ∙ sym (hidden_parts ds ks r some e))
