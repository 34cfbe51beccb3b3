-- What is shown of a digest under the root of a set is so.
use Rattle.cadf_tree.proofs.Common.{◌≡◌, ◌∙◌, ◌++◌, Bool, true, false, List, [], ◌∷◌, Option, None, Some, length, refl, ap, sym, subst, inl, inr, ◌&&◌, ◌||◌, ◌⊎◌, if◌then◌else◌, Ordering, Less, Equal, Greater, is_lt, is_eq, nat_list_cmp_total, AllByRecursion, is_eq-slice_cmp, Text, root, less, is_earlier, is_later, is_text, IsHashedFor, IsHashedBy, AreRising, all_kinds, is_past, is_present, is_absent, member, PresenceIsSound, Both, Added, Gone, Part, Hash, Leaf}
use Rattle.cadf_tree.proofs.Sorted.{leaves_are}
use Rattle.cadf_tree.proofs.Filling.{Cell, Block, One, cell_items, side_leaves, those_marked}
use Rattle.cadf_tree.proofs.Rising.{and_left, and_right, false_true, rest_rising}
use Rattle.cadf_tree.proofs.Judged.{judged, same_text, tree_of_parts}
use Rattle.cadf_tree.proofs.Differing.{earlier_found, all_rise, added_off, its_items}

-- ---- order

abbrev pub IsLess : Text → Text → Type 0
IsLess d e = less d e ≡ true

pub is_less : (o : Ordering) → is_lt o ≡ true → o ≡ Less
is_less Less h = refl
is_less Equal h = absurd (false_true h)
is_less Greater h = absurd (false_true h)

pub less_trans : (x y z : Text) → IsLess x y → IsLess y z → IsLess x z
less_trans x y z h k = ap is_lt (nat_list_cmp_total.trans x y z (is_less _ h) (is_less _ k))

pub less_apart : (x y : Text) → IsLess x y → is_text x y ≡ false
less_apart x y h = sym (is_eq-slice_cmp x y) ∙ ap is_eq (is_less _ h)

pub less_apart_too : (x y : Text) → IsLess x y → is_text y x ≡ false
less_apart_too x y h = by (is_text y x) refl
  where
    by : (z : Bool) → is_text y x ≡ z → z ≡ false
    by true e =
        let same : y ≡ x = same_text y x e in
        let itself : IsLess y y = subst (λ w. IsLess w y) (sym same) h in
        absurd (false_true (sym (less_apart y y itself) ∙ ap (is_text y) same ∙ e))
    by false e = refl

-- ---- digests that aren't there

abbrev pub NotIn : Text → List Text → Type 0
NotIn f ds = AllByRecursion (λ d. is_text d f ≡ false) ds

pub not_member : (f : Text) (ds : List Text) → NotIn f ds → member f ds ≡ false
not_member f [] h = refl
not_member f (d ∷ ds) h = (λ i. h.0 i || member f ds) ∙ not_member f ds h.1

pub not_both : (f : Text) (ds es : List Text) → NotIn f ds → NotIn f es → NotIn f (ds ++ es)
not_both f [] es h k = k
not_both f (d ∷ ds) es h k = (h.0, not_both f ds es h.1 k)

not_right : (f : Text) (ds es : List Text) → NotIn f (ds ++ es) → NotIn f es
not_right f [] es h = h
not_right f (d ∷ ds) es h = not_right f ds es h.1

not_left : (f : Text) (ds es : List Text) → NotIn f (ds ++ es) → NotIn f ds
not_left f [] es h = tt
not_left f (d ∷ ds) es h = (h.0, not_left f ds es h.1)

above : (f x : Text) (ds : List Text) → IsLess f x → AreRising (x ∷ ds) → NotIn f (x ∷ ds)
above f x [] low h = (less_apart_too f x low, tt)
above f x (d ∷ ds) low h = (less_apart_too f x low, above f d ds (less_trans f x d low h.0) h.1)

-- the last leaf of a block
abbrev pub last : Text → List Text → Text
last b [] = b
last b (c ∷ bs) = last c bs

pub from_last : (b : Text) (bs us : List Text) → AreRising (b ∷ bs ++ us) → AreRising (last b bs ∷ us)
from_last b [] us h = h
from_last b (c ∷ bs) us h = from_last c bs us h.1

below_last : (f b : Text) (bs us : List Text) → AreRising (b ∷ bs ++ us) → IsLess (last b bs) f → IsLess b f
below_last f b [] us h low = low
below_last f b (c ∷ bs) us h low = less_trans b c f h.0 (below_last f c bs us h.1 low)

pub block_below : (f b : Text) (bs us : List Text) → AreRising (b ∷ bs ++ us) → IsLess (last b bs) f → NotIn f (b ∷ bs)
block_below f b [] us h low = (less_apart b f low, tt)
block_below f b (c ∷ bs) us h low = (less_apart b f (below_last f b (c ∷ bs) us h low), block_below f c bs us h.1 low)

no_gap : (a b : Bool) → ((a && false) || b) ≡ true → b ≡ true
no_gap true b h = h
no_gap false b h = h

abbrev pub leaves_in : List Cell → List Text
leaves_in cs = side_leaves all_kinds cs

-- what is before a part that is beside the digest is below it
reach : (f : Text) (cs : List Cell) (before : Option Part) (y : Text) → (is_past before f ≡ true → IsLess y f) → AreRising (y ∷ leaves_in cs)
    → is_absent before (cell_items cs) f ≡ true → IsLess y f
reach f [] before y past rise h = past h
reach f (Block g b bs ∷ cs) before y past rise h =
    less_trans y b f rise.0 (below_last f b bs (leaves_in cs) rise.1
    (reach f cs (Some (Hash g)) (last b bs) (λ e. absurd (false_true e)) (from_last b bs (leaves_in cs) rise.1) (no_gap (is_past before f) _ h)))
reach f (One k d ∷ cs) before y past rise h =
    by (is_past before f && less f d) refl h (reach f cs (Some (Leaf k d)) d (λ e. e) rise.1)
  where
    by : (z : Bool) → (is_past before f && less f d) ≡ z → (z || is_absent (Some (Leaf k d)) (cell_items cs) f) ≡ true
        → (is_absent (Some (Leaf k d)) (cell_items cs) f ≡ true → IsLess d f) → IsLess y f
    by true e a g = past (and_left (is_past before f) (less f d) e)
    by false e a g = less_trans y d f rise.0 (g a)

absent : (f : Text) (cs : List Cell) (before : Option Part) → AreRising (leaves_in cs) → is_absent before (cell_items cs) f ≡ true → NotIn f (leaves_in cs)
absent f [] before rise h = tt
absent f (Block g b bs ∷ cs) before rise h =
    let rest = no_gap (is_past before f) _ h in
    let tail = from_last b bs (leaves_in cs) rise in
    let low = reach f cs (Some (Hash g)) (last b bs) (λ e. absurd (false_true e)) tail rest in
    not_both f (b ∷ bs) (leaves_in cs) (block_below f b bs (leaves_in cs) rise low) (absent f cs (Some (Hash g)) (rest_rising (last b bs) (leaves_in cs) tail) rest)
absent f (One k d ∷ cs) before rise h =
    by (is_past before f && less f d) refl h (absent f cs (Some (Leaf k d)) (rest_rising d (leaves_in cs) rise))
  where
    by : (z : Bool) → (is_past before f && less f d) ≡ z → (z || is_absent (Some (Leaf k d)) (cell_items cs) f) ≡ true
        → (is_absent (Some (Leaf k d)) (cell_items cs) f ≡ true → NotIn f (leaves_in cs)) → NotIn f (d ∷ leaves_in cs)
    by true e a g = above f d (leaves_in cs) (and_right (is_past before f) (less f d) e) rise
    by false e a g = (less_apart d f (reach f cs (Some (Leaf k d)) d (λ e. e) rise a), g a)

-- ---- on one side

absent_side : (f : Text) (cs : List Cell) → NotIn f (leaves_in cs) → NotIn f (side_leaves is_earlier cs)
absent_side f [] h = tt
absent_side f (Block g b bs ∷ cs) h =
    not_both f (b ∷ bs) (side_leaves is_earlier cs) (not_left f (b ∷ bs) (leaves_in cs) h) (absent_side f cs (not_right f (b ∷ bs) (leaves_in cs) h))
absent_side f (One Both d ∷ cs) h = (h.0, absent_side f cs h.1)
absent_side f (One Added d ∷ cs) h = absent_side f cs h.1
absent_side f (One Gone d ∷ cs) h = (h.0, absent_side f cs h.1)

pub or_right : (a b : Bool) → b ≡ true → (a || b) ≡ true
or_right true b h = refl
or_right false b h = h

member_right : (f : Text) (ds es : List Text) → member f es ≡ true → member f (ds ++ es) ≡ true
member_right f [] es h = h
member_right f (d ∷ ds) es h = or_right (is_text d f) (member f (ds ++ es)) (member_right f ds es h)

pub present_side : (f : Text) (cs : List Cell) → is_present (cell_items cs) f ≡ true → member f (side_leaves is_earlier cs) ≡ true
present_side f [] h = absurd (false_true h)
present_side f (Block g b bs ∷ cs) h = member_right f (b ∷ bs) (side_leaves is_earlier cs) (present_side f cs h)
present_side f (One Both d ∷ cs) h = by (is_text d f) h (present_side f cs)
  where
    by : (z : Bool) → (z || is_present (cell_items cs) f) ≡ true → (is_present (cell_items cs) f ≡ true → member f (side_leaves is_earlier cs) ≡ true)
        → (z || member f (side_leaves is_earlier cs)) ≡ true
    by true a g = refl
    by false a g = g a
present_side f (One Added d ∷ cs) h = present_side f cs h
present_side f (One Gone d ∷ cs) h = or_right (is_text d f) (member f (side_leaves is_earlier cs)) (present_side f cs h)

state_by : (f : Text) (cs : List Cell) (ds : List Text) (b y z : Bool) → side_leaves is_earlier cs ≡ ds → AreRising (leaves_in cs)
    → is_present (cell_items cs) f ≡ y → is_absent None (cell_items cs) f ≡ z → (if y then Some true else if z then Some false else None) ≡ Some b → member f ds ≡ b
state_by f cs ds b true z is rise p a h = ap (member f) (sym is) ∙ present_side f cs p ∙ same_bool true b h
  where
    same_bool : (c b : Bool) → Some c ≡ Some b → c ≡ b
    same_bool c b e = cc
state_by f cs ds b false true is rise p a h = ap (member f) (sym is) ∙ not_member f _ (absent_side f cs (absent f cs None rise a)) ∙ same_bool false b h
  where
    same_bool : (c b : Bool) → Some c ≡ Some b → c ≡ b
    same_bool c b e = cc
state_by f cs ds b false false is rise p a h = absurd (cc)

pub presence : PresenceIsSound
presence ds ps set long free ok f b h =
    let Q : Text → Type 0 = λ x. IsHashedFor ds x ⊎ IsHashedBy is_earlier (length ds) ps x in
    let is = judged (root ds) (root ds) ps ok in
    let x = earlier_found Q free ds (root ds) ps set long (λ y m. inl m) (λ y m. inr m) is in
    let e = (tree_of_parts ps is.tree is.read).0 in
    let same = its_items Q free is_earlier is_later ds ps is.tree x e in
    let rise = all_rise Q free is_earlier is_later ds ps is.tree x added_off e set is.rise is.seen in
    state_by f x.cells ds b (is_present (cell_items x.cells) f) (is_absent None (cell_items x.cells) f) (x.on_is ∙ leaves_are ds set)
    (subst AreRising (those_marked all_kinds x.cells refl) rise) refl refl
    ((λ i. if is_present (sym same i) f then Some true else if is_absent None (sym same i) f then Some false else None) ∙ h)
