-- How many parts are made, and for what is asked and what changed.
use Rattle.cadf_tree.proofs.Common.{◌≡◌, ◌∙◌, ◌+◌, ◌*◌, ◌≤◌, ℕ, zero, suc, Bool, true, false, List, [], ◌∷◌, Option, None, Some, length, take, drop, refl, ap, sym, arith, take-append-drop, length-append, ◌||◌, if◌then◌else◌, filter, Text, Tree, Tip, Branch, hash, all_leaves, divided, tree_of, Hidden, Fork, Kinds, is_shown, any_shown, size, made, made_leaf, first_kind, preorder, made_parts, Kind, filter-append, shown_in, MadeIsShort, is_between, is_below, is_above, first_digest, kind_if, asked_kinds, PresenceIsShort, compared, change_shown, digests_of, kinds_of, starts_changed, GrowthIsShort, AreRising, Marked, those, is_added, is_gone, less, ◌&&◌, list_any, Both, Added, Gone}
use Rattle.cadf_tree.proofs.Rising.{false_true}
use Rattle.cadf_tree.proofs.Showing.{IsLess, less_trans}
use Rattle.cadf_tree.proofs.Asking.{kinds_length, not_both_ways}
use Rattle.cadf_tree.proofs.Comparing.{parts_added, parts_gone, shown_length, union_set}
use Rattle.cadf_tree.proofs.Differing.{sorted_rising}
use Rattle.cadf_tree.proofs.Sorted.{leaves_are}
use Rattle.cadf_tree.proofs.Making.{IsTreeWithin, AllWithin, divided_within, size_leaves}

leaf_one : (d : Text) (k : Option Kind) → length (preorder (made_leaf d k)) ≡ 1
leaf_one d None = refl
leaf_one d (Some k) = refl

by_digests : (t : Tree) (ks : Kinds) → length (preorder (made t ks)) + 1 ≤ 2 * size t
unfolding made
by_digests (Tip d) ks = omega (arith, leaf_one d (first_kind ks))
by_digests (Branch l r) ks = by (any_shown ks) (by_digests l (take (size l) ks)) (by_digests r (drop (size l) ks))
  where
    by : (z : Bool) → length (preorder (made l (take (size l) ks))) + 1 ≤ 2 * size l → length (preorder (made r (drop (size l) ks))) + 1 ≤ 2 * size r
        → length (preorder (if z then Fork (made l (take (size l) ks)) (made r (drop (size l) ks)) else Hidden (hash (Branch l r)))) + 1 ≤ 2 * (size l + size r)
    by true a b = omega (arith, a, b, length-append (preorder (made l (take (size l) ks))) (preorder (made r (drop (size l) ks))))
    by false a b = omega (arith, some l, some r)
      where
        some : (t : Tree) → 1 ≤ size t
        some (Tip d) = omega arith
        some (Branch l r) = omega (arith, some l)

distributes : (m a b : ℕ) → m * (a + b) ≡ m * a + m * b
distributes m a b = omega arith

next : (n c : ℕ) → 2 * suc n * c ≡ 2 * n * c + 2 * c
next n c = omega arith

some_shown : (ks : Kinds) → any_shown ks ≡ true → 1 ≤ shown_in ks
some_shown [] e = absurd (cc)
some_shown (None ∷ ks) e = some_shown ks e
some_shown (Some k ∷ ks) e = omega arith

shown_parts : (n : ℕ) (ks : Kinds) → shown_in (take n ks) + shown_in (drop n ks) ≡ shown_in ks
shown_parts n ks =
    sym (length-append (filter is_shown (take n ks)) (filter is_shown (drop n ks))) ∙ ap length (sym (filter-append is_shown (take n ks) (drop n ks)))
    ∙ ap shown_in (take-append-drop n ks)

by_shown : (n : ℕ) (t : Tree) (ks : Kinds) → IsTreeWithin n t → length (preorder (made t ks)) ≤ 1 + 2 * n * shown_in ks
unfolding made
by_shown n (Tip d) ks h = omega (arith, leaf_one d (first_kind ks))
by_shown zero (Branch l r) ks h = absurd h
by_shown (suc n) (Branch l r) ks h =
    by (any_shown ks) refl (by_shown n l (take (size l) ks) h.0) (by_shown n r (drop (size l) ks) h.1)
  where
    by : (z : Bool) → any_shown ks ≡ z → length (preorder (made l (take (size l) ks))) ≤ 1 + 2 * n * shown_in (take (size l) ks)
        → length (preorder (made r (drop (size l) ks))) ≤ 1 + 2 * n * shown_in (drop (size l) ks)
        → length (preorder (if z then Fork (made l (take (size l) ks)) (made r (drop (size l) ks)) else Hidden (hash (Branch l r)))) ≤ 1 + 2 * suc n * shown_in ks
    by true e a b =
        sum (shown_in (take (size l) ks)) (shown_in (drop (size l) ks)) (shown_in ks) _ _ _ (shown_parts (size l) ks) (some_shown ks e)
        (ap suc (length-append (preorder (made l (take (size l) ks))) (preorder (made r (drop (size l) ks))))) a b
      where
        sum : (a b c x y z : ℕ) → a + b ≡ c → 1 ≤ c → z ≡ suc (x + y) → x ≤ 1 + 2 * n * a → y ≤ 1 + 2 * n * b → z ≤ 1 + 2 * suc n * c
        sum a b c x y z e some total low high =
            let halves : 2 * n * a + 2 * n * b ≡ 2 * n * c = sym (distributes (2 * n) a b) ∙ ap (λ m. 2 * n * m) e in
            let more : 2 * suc n * c ≡ 2 * n * c + 2 * c = next n c in
            omega (arith, halves, more, some, total, low, high)
    by false e a b = omega arith

by_tree : (o : Option Tree) (ds : List Text) (ks : Kinds) → tree_of ds ≡ o → all_leaves o ≡ ds → AllWithin 256 o
    → (length (made_parts (tree_of ds) ks) ≤ 2 * length ds) × (length (made_parts (tree_of ds) ks) ≤ 1 + 512 * shown_in ks)
by_tree None ds ks e f h =
    let none : length (made_parts (tree_of ds) ks) ≡ 0 = ap (λ o. length (made_parts o ks)) e in
    (omega (arith, none), omega (arith, none))
by_tree (Some t) ds ks e f h =
    let same : length (made_parts (tree_of ds) ks) ≡ length (preorder (made t ks)) = ap (λ o. length (made_parts o ks)) e in
    (omega (arith, same, by_digests t ks, size_leaves t, ap length f), omega (arith, same, by_shown 256 t ks h))

pub short : MadeIsShort
unfolding tree_of
short ds ks set e = by_tree (divided 256 0 ds) ds ks refl (leaves_are ds set) (divided_within 256 0 ds)

-- ---- what is asked for has two neighbours at most

one_shown : (z : Bool) (ks : Kinds) → shown_in (kind_if z ∷ ks) ≤ 1 + shown_in ks
one_shown true ks = omega arith
one_shown false ks = omega arith

none_asked : (b : Option Text) (ds : List Text) → shown_in (asked_kinds b ds []) ≡ 0
none_asked b [] = refl
none_asked b (d ∷ ds) = none_asked (Some d) ds

each_asked : (b : Option Text) (ds : List Text) (f : Text) (fs : List Text)
    → shown_in (asked_kinds b ds (f ∷ fs)) ≤ shown_in (asked_kinds b ds (f ∷ [])) + shown_in (asked_kinds b ds fs)
each_asked b [] f fs = omega arith
each_asked b (d ∷ ds) f fs = by (is_between b (first_digest ds) f) (list_any (is_between b (first_digest ds)) fs) (each_asked (Some d) ds f fs)
  where
    by : (y z : Bool) → shown_in (asked_kinds (Some d) ds (f ∷ fs)) ≤ shown_in (asked_kinds (Some d) ds (f ∷ [])) + shown_in (asked_kinds (Some d) ds fs)
        → shown_in (kind_if (y || z) ∷ asked_kinds (Some d) ds (f ∷ fs))
        ≤ shown_in (kind_if (y || false) ∷ asked_kinds (Some d) ds (f ∷ [])) + shown_in (kind_if z ∷ asked_kinds (Some d) ds fs)
    by true true e = omega (arith, e)
    by true false e = omega (arith, e)
    by false true e = omega (arith, e)
    by false false e = omega (arith, e)

module _ (f : Text) where
  -- past the digest nothing is shown
  none_past : (c : Text) (ds : List Text) → AreRising (c ∷ ds) → less c f ≡ false → shown_in (asked_kinds (Some c) ds (f ∷ [])) ≡ 0
  none_past c [] rise high = refl
  none_past c (d ∷ ds) rise high =
      ap (λ z. shown_in (kind_if ((z && is_below (first_digest ds) f) || false) ∷ asked_kinds (Some d) ds (f ∷ []))) high
      ∙ none_past d ds rise.1 (by (less d f) refl)
    where
      by : (z : Bool) → less d f ≡ z → z ≡ false
      by true e = absurd (false_true (sym high ∙ less_trans c d f rise.0 e))
      by false e = refl

  one_past : (b : Option Text) (d : Text) (ds : List Text) → AreRising (d ∷ ds) → less d f ≡ false → shown_in (asked_kinds b (d ∷ ds) (f ∷ [])) ≤ 1
  one_past b d ds rise high =
      omega (arith, one_shown (is_between b (first_digest ds) f || false) (asked_kinds (Some d) ds (f ∷ [])), none_past d ds rise high)

  not_above : (d : Text) → IsLess f d → less d f ≡ false
  not_above d h = by (less d f) refl
    where
      by : (z : Bool) → less d f ≡ z → z ≡ false
      by true e = absurd (not_both_ways d f e h)
      by false e = refl

  two_at_most : (b : Option Text) (ds : List Text) → AreRising ds → shown_in (asked_kinds b ds (f ∷ [])) ≤ 2
  two_at_most b [] rise = omega arith
  two_at_most b (d ∷ []) rise = omega (arith, one_shown (is_between b None f || false) [])
  two_at_most b (d ∷ e ∷ ds) rise = by (less f e) refl (two_at_most (Some d) (e ∷ ds) rise.1)
    where
      none : (x : Bool) → (x && false) || false ≡ false
      none true = refl
      none false = refl

      by : (z : Bool) → less f e ≡ z → shown_in (asked_kinds (Some d) (e ∷ ds) (f ∷ [])) ≤ 2
          → shown_in (kind_if ((is_above b f && z) || false) ∷ asked_kinds (Some d) (e ∷ ds) (f ∷ [])) ≤ 2
      by true g rest =
          omega (arith, one_shown ((is_above b f && true) || false) (asked_kinds (Some d) (e ∷ ds) (f ∷ [])), one_past (Some d) e ds rise.1 (not_above e g))
      by false g rest =
          omega (arith, rest, ap (λ z. shown_in (kind_if z ∷ asked_kinds (Some d) (e ∷ ds) (f ∷ []))) (none (is_above b f)))

pub few_asked : (b : Option Text) (ds fs : List Text) → AreRising ds → shown_in (asked_kinds b ds fs) ≤ 2 * length fs
few_asked b ds [] rise = omega (arith, none_asked b ds)
few_asked b ds (f ∷ fs) rise = omega (arith, each_asked b ds f fs, two_at_most f b ds rise, few_asked b ds fs rise)

-- ---- what changed has two neighbours at most

abbrev pub changed_in : List Kind → ℕ
changed_in [] = 0
changed_in (Both ∷ ks) = changed_in ks
changed_in (Added ∷ ks) = suc (changed_in ks)
changed_in (Gone ∷ ks) = suc (changed_in ks)

abbrev pub one_if : Bool → ℕ
one_if true = 1
one_if false = 0

shown_few : (b : Bool) (ks : List Kind) → shown_in (change_shown b ks) + one_if (starts_changed ks) ≤ 3 * changed_in ks + one_if b
shown_few b [] = omega arith
shown_few b (Both ∷ ks) = by b (starts_changed ks) (shown_few false ks)
  where
    by : (b z : Bool) → shown_in (change_shown false ks) + one_if z ≤ 3 * changed_in ks + 0
        → shown_in ((if b || z then Some Both else None) ∷ change_shown false ks) + 0 ≤ 3 * changed_in ks + one_if b
    by true z e = omega (arith, e)
    by false true e = omega (arith, e)
    by false false e = omega (arith, e)
shown_few b (Added ∷ ks) = omega (arith, shown_few true ks)
shown_few b (Gone ∷ ks) = omega (arith, shown_few true ks)

changes : (ms : List Marked) → changed_in (kinds_of ms) ≡ length (those is_added ms) + length (those is_gone ms)
changes [] = refl
changes ((Both, d) ∷ ms) = changes ms
changes ((Added, d) ∷ ms) = omega (arith, changes ms)
changes ((Gone, d) ∷ ms) = omega (arith, changes ms)

pub few_changed : (ms : List Marked) → shown_in (change_shown false (kinds_of ms)) ≤ 3 * (length (those is_added ms) + length (those is_gone ms))
few_changed ms = omega (arith, shown_few false (kinds_of ms), changes ms)

pub short_presence : PresenceIsShort
short_presence ds fs set =
    omega (arith, (short ds (asked_kinds None ds fs) set (kinds_length fs None ds)).1, few_asked None ds fs (sorted_rising ds set.rising))

pub short_growth : GrowthIsShort
short_growth old new a b =
    omega (
      arith,
      (short (digests_of ms) (change_shown false (kinds_of ms)) (union_set old new a b) (shown_length false ms)).1,
      few_changed ms,
      ap length (parts_added old new a b),
      ap length (parts_gone old new a b),
    )
  where
    ms : List Marked
    ms = compared old new
