-- The result of flipping digests one after another, and of flipping them back.
use Rattle.cadf_sketch.proofs.Common.{common_steps, ◌≡◌, ◌∙◌, Bool, true, false, List, [], ◌∷◌, sym, ap, arith, ◌||◌, ◌&&◌, not, IsStrictlySortedBy, remove, contains-remove, eq_by_cmp, is_eq, tied_itself, Less, true≢false, AllByRecursion-listed, from_list-rising, listed_any, rising_is_sorted, text_total, text_same, false_from, same_text, Text, text_cmp, Digests, apart}
use Rattle.cadf_join.specs.Sets as set

-- ---- sets by their members

-- one of the two, and not both
abbrev pub either : Bool → Bool → Bool
either a b = (a && not b) || (b && not a)

abbrev pub one : Text → Digests
one d = set.from_list (d ∷ [])

or_none : (a : Bool) → (a || false) ≡ a
or_none a = grind (arith, common_steps)

pub in_one : (d q : Text) → set.contains (one d) q ≡ eq_by_cmp text_cmp q d
in_one d q = set.contains-from_list text_total (d ∷ []) q ∙ or_none (eq_by_cmp text_cmp q d)

pub in_apart : (s t : Digests) (q : Text) → set.contains (apart s t) q ≡ either (set.contains s q) (set.contains t q)
in_apart s t q =
    set.contains-union text_total (set.difference s t) (set.difference t s) q
    ∙ (λ i. set.contains-difference text_total s t q i || set.contains-difference text_total t s q i)

pub by_members : (s t : Digests) → ((q : Text) → set.contains s q ≡ set.contains t q) → s ≡ t
by_members = set.same_set text_total text_same

-- a property of d is a property of what equals d
pub told : (s : Digests) (d q : Text) (b : Bool) → set.contains s d ≡ b → eq_by_cmp text_cmp q d ≡ true → set.contains s q ≡ b
told s d q b h e = ap (set.contains s) (same_text q d e) ∙ h

-- ---- one digest, and none

pub apart_none : (s : Digests) → s ≡ apart s (set.from_list [])
apart_none s = by_members s (apart s (set.from_list [])) (λ q. sym (in_apart s set.empty q ∙ ap (either (set.contains s q)) (set.contains-empty text_cmp q)
    ∙ by (set.contains s q)))
  where
    by : (a : Bool) → either a false ≡ a
    by a = grind (arith, common_steps)

apart_new : (a e : Bool) → (e ≡ true → a ≡ false) → either a e ≡ (e || a)
apart_new a e h = grind (arith, common_steps)

pub apart-insert : (s : Digests) (d : Text) → set.contains s d ≡ false → apart s (one d) ≡ set.insert s d
apart-insert s d new = by_members (apart s (one d)) (set.insert s d) (λ q.
    in_apart s (one d) q ∙ ap (either (set.contains s q)) (in_one d q)
    ∙ apart_new (set.contains s q) (eq_by_cmp text_cmp q d) (told s d q false new) ∙ sym (set.contains-insert text_total s d q))

apart_old : (a e : Bool) → (e ≡ true → a ≡ true) → either a e ≡ (not e && a)
apart_old a e h = grind (arith, common_steps)

pub apart-remove : (s : Digests) (d : Text) → set.contains s d ≡ true → apart s (one d) ≡ remove s d
apart-remove s d there = by_members (apart s (one d)) (remove s d) (λ q.
    in_apart s (one d) q ∙ ap (either (set.contains s q)) (in_one d q)
    ∙ apart_old (set.contains s q) (eq_by_cmp text_cmp q d) (told s d q true there) ∙ sym (contains-remove text_total s d q))

-- ---- digests one after another

abbrev pub flipped_in_turn : Digests → List Text → Digests
flipped_in_turn s [] = s
flipped_in_turn s (d ∷ ds) = flipped_in_turn (apart s (one d)) ds

one_before : (a e t : Bool) → (e ≡ true → t ≡ false) → either (either a e) t ≡ either a (e || t)
one_before a e t h = grind (arith, common_steps)

pub first_is_new : (d : Text) (ds : List Text) → IsStrictlySortedBy text_cmp (d ∷ ds) → set.contains (set.from_list {R = text_cmp} ds) d ≡ false
unfolding IsStrictlySortedBy
first_is_new d ds up = false_from (set.contains (set.from_list ds) d) (λ h.
    let below : text_cmp d d ≡ Less = AllByRecursion-listed (λ y. text_cmp d y ≡ Less) ds up.0 d
    (listed_any text_total text_same ds d (sym (set.contains-from_list text_total ds d) ∙ h)) in
    true≢false (ap is_eq (sym (tied_itself text_total d) ∙ below)))

pub rest_sorted : (d : Text) (ds : List Text) → IsStrictlySortedBy text_cmp (d ∷ ds) → IsStrictlySortedBy text_cmp ds
unfolding IsStrictlySortedBy
rest_sorted d ds up = up.1

in_turn : (s : Digests) (ds : List Text) → IsStrictlySortedBy text_cmp ds → flipped_in_turn s ds ≡ apart s (set.from_list ds)
in_turn s [] up = apart_none s
in_turn s (d ∷ ds) up =
    in_turn (apart s (one d)) ds (rest_sorted d ds up)
    ∙ by_members (apart (apart s (one d)) (set.from_list ds)) (apart s (set.from_list (d ∷ ds))) (λ q.
    let t : Bool = set.contains (set.from_list {R = text_cmp} ds) q in
    in_apart (apart s (one d)) (set.from_list ds) q
    ∙ ap (λ b. either b t) (in_apart s (one d) q ∙ ap (either (set.contains s q)) (in_one d q))
    ∙ one_before (set.contains s q) (eq_by_cmp text_cmp q d) t (told (set.from_list ds) d q false (first_is_new d ds up))
    ∙ sym (in_apart s (set.from_list (d ∷ ds)) q ∙ ap (either (set.contains s q)) (set.contains-insert text_total (set.from_list ds) d q)))

pub flipped_in_turn_is : (s t : Digests) → flipped_in_turn s (set.rising t) ≡ apart s t
flipped_in_turn_is s t = in_turn s (set.rising t) (rising_is_sorted text_total text_same t) ∙ ap (apart s) (from_list-rising text_total text_same t)

-- ---- and back

either_twice : (a b : Bool) → either (either a b) b ≡ a
either_twice a b = grind (arith, common_steps)

pub apart_twice : (s t : Digests) → apart (apart s t) t ≡ s
apart_twice s t = grind (arith, common_steps, by_members, apart, in_apart, either_twice)
