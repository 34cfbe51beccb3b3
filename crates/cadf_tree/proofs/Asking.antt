-- The parts that are made for some digests show the state of each, and each leaf among them is needed.
use Rattle.cadf_tree.proofs.Common.{above, starts_below, walked_kinds, IsSet, ◌≡◌, ◌∙◌, ◌++◌, suc, Bool, true, false, List, [], ◌∷◌, Option, None, Some, length, drop, refl, ap, sym, subst, ◌&&◌, ◌||◌, if◌then◌else◌, is_lt, is_eq, nat_list_cmp_total, is_eq-slice_cmp, slice_cmp, nat_cmp, Ordering, Less, Equal, Greater, list_any, Text, less, root, items, is_earlier, is_later, is_text, all_beside, is_seen, fault_unless, tree_fault, AreRising, Kinds, first_kind, side, is_past, is_present, is_absent, needs, first_part, all_asked, member, NotNeeded, Kind, Both, Added, Gone, Part, Hash, Leaf, ordering_reverse, is_ahead, first_digest, is_above, is_below, is_between, kind_if, asked_kinds, presence_parts, PresenceIsComplete}
use Rattle.cadf_tree.proofs.Filling.{Cell, Block, One, cell_items, side_leaves}
use Rattle.cadf_tree.proofs.Judged.{same_text}
use Rattle.cadf_tree.proofs.Rising.{and_left, and_right, false_true, rest_rising}
use Rattle.cadf_tree.proofs.Differing.{sorted_rising}
use Rattle.cadf_tree.proofs.Showing.{IsLess, less_trans, less_apart, NotIn, block_below, leaves_in, last, or_right, from_last, present_side}
use Rattle.cadf_tree.proofs.Celled.{AreCelled, set_celled, nones, kinds_in, cells_side, both_true, same_itself, none_first, holds, passes}

-- ---- order

reversed : (o : Ordering) → is_eq o ≡ false → is_lt (ordering_reverse o) ≡ false → is_lt o ≡ true
reversed Less e f = refl
reversed Equal e f = absurd (false_true (sym e))
reversed Greater e f = absurd (false_true (sym f))

-- what neither is nor is above is below
pub other_side : (d f : Text) → is_text d f ≡ false → less f d ≡ false → IsLess d f
other_side d f e h =
    reversed (slice_cmp nat_cmp d f) (is_eq-slice_cmp d f ∙ e) (ap is_lt (sym (nat_list_cmp_total.antisymm f d)) ∙ h)

not_itself : (d : Text) → IsLess d d → ⊥
not_itself d h = false_true (sym (less_apart d d h) ∙ same_itself d)

pub not_both_ways : (d f : Text) → IsLess d f → IsLess f d → ⊥
not_both_ways d f h k = not_itself d (less_trans d f d h k)

-- ---- members

pub record IsAny (p : Text → Bool) (fs : List Text) : Type 0 where
  pub one : Text
  pub there : member one fs ≡ true
  pub has : p one ≡ true

any_of : (p : Text → Bool) (fs : List Text) → list_any p fs ≡ true → IsAny p fs
any_of p [] h = absurd (false_true h)
any_of p (f ∷ fs) h = by (any_of p fs) (p f) refl h
  where
    by : (list_any p fs ≡ true → IsAny p fs) → (z : Bool) → p f ≡ z → (z || list_any p fs) ≡ true → IsAny p (f ∷ fs)
    by rest true e g = record { one = f; there = ap (λ z. z || member f fs) (same_itself f); has = e }
    by rest false e g =
        let x = rest g in
        record { one = x.one; there = or_right (is_text f x.one) (member x.one fs) x.there; has = x.has }

of_any : (p : Text → Bool) (f : Text) (fs : List Text) → member f fs ≡ true → p f ≡ true → list_any p fs ≡ true
of_any p f [] h k = absurd (false_true h)
of_any p f (g ∷ fs) h k = by (λ m. of_any p f fs m k) (is_text g f) refl h
  where
    by : (member f fs ≡ true → list_any p fs ≡ true) → (z : Bool) → is_text g f ≡ z → (z || member f fs) ≡ true → (p g || list_any p fs) ≡ true
    by rest true e m = ap (λ z. z || list_any p fs) (ap p (same_text g f e) ∙ k)
    by rest false e m = or_right (p g) (list_any p fs) (rest m)

above_all : (d : Text) (us : List Text) (f : Text) → AreRising (d ∷ us) → member f us ≡ true → IsLess d f
above_all d [] f rise h = absurd (false_true h)
above_all d (u ∷ us) f rise h = by (above_all u us f rise.1) (is_text u f) refl h
  where
    by : (member f us ≡ true → IsLess u f) → (z : Bool) → is_text u f ≡ z → (z || member f us) ≡ true → IsLess d f
    by rest true e m = subst (IsLess d) (same_text u f e) rise.0
    by rest false e m = less_trans d u f rise.0 (rest m)

member_right : (f : Text) (ds es : List Text) → NotIn f ds → member f (ds ++ es) ≡ member f es
member_right f [] es h = refl
member_right f (d ∷ ds) es h = (λ i. h.0 i || member f (ds ++ es)) ∙ member_right f ds es h.1

or_none : (a b : Bool) → (a || b) ≡ false → a ≡ false
or_none true b h = absurd (false_true (sym h))
or_none false b h = refl

or_none_too : (a b : Bool) → (a || b) ≡ false → b ≡ false
or_none_too true b h = absurd (false_true (sym h))
or_none_too false b h = h

-- ---- kinds

hidden_if : (z : Bool) → None ≡ kind_if z → z ≡ false
hidden_if true e = absurd (cc)
hidden_if false e = refl

shown_if : (z : Bool) (k : Kind) → Some k ≡ kind_if z → z ≡ true
shown_if true k e = refl
shown_if false k e = absurd (cc)

not_added : (z : Bool) → Some Added ≡ kind_if z → ⊥
not_added true e = absurd (cc)
not_added false e = absurd (cc)

not_gone : (z : Bool) → Some Gone ≡ kind_if z → ⊥
not_gone true e = absurd (cc)
not_gone false e = absurd (cc)

first_same : (k l : Option Kind) (ks ls : Kinds) → k ∷ ks ≡ l ∷ ls → k ≡ l
first_same k l ks ls e = ap first_kind e

rest_same : (k l : Option Kind) (ks ls : Kinds) → k ∷ ks ≡ l ∷ ls → ks ≡ ls
rest_same k l ks ls e = ap (drop 1) e

-- no leaf changed
abbrev pub AreKept : List Cell → Type 0
AreKept [] = Unit {0}
AreKept (Block g d ds ∷ cs) = AreKept cs
AreKept (One Both d ∷ cs) = AreKept cs
AreKept (One Added d ∷ cs) = ⊥
AreKept (One Gone d ∷ cs) = ⊥

kept_seen : (cs : List Cell) → AreKept cs → all_beside is_seen (cell_items cs) ≡ true
kept_seen [] h = refl
kept_seen (Block g d ds ∷ []) h = refl
kept_seen (Block g d ds ∷ Block f c es ∷ cs) h = kept_seen (Block f c es ∷ cs) h
kept_seen (Block g d ds ∷ One Both c ∷ cs) h = kept_seen (One Both c ∷ cs) h
kept_seen (Block g d ds ∷ One Added c ∷ cs) h = absurd h
kept_seen (Block g d ds ∷ One Gone c ∷ cs) h = absurd h
kept_seen (One Both d ∷ []) h = refl
kept_seen (One Both d ∷ Block f c es ∷ cs) h = kept_seen (Block f c es ∷ cs) h
kept_seen (One Both d ∷ One Both c ∷ cs) h = kept_seen (One Both c ∷ cs) h
kept_seen (One Both d ∷ One Added c ∷ cs) h = absurd h
kept_seen (One Both d ∷ One Gone c ∷ cs) h = absurd h
kept_seen (One Added d ∷ cs) h = absurd h
kept_seen (One Gone d ∷ cs) h = absurd h

module _ (fs : List Text) where
  -- what is above this digest is above what is before it
  abbrev pub IsUnder : Option Text → Text → Type 0
  IsUnder b d = (f : Text) → IsLess d f → is_above b f ≡ true

  -- what is asked for and would be next to the part p, with b before it and us after it, may be next to it
  abbrev pub Opens : Option Text → Option Part → List Text → Type 0
  Opens b p us = (f : Text) → member f fs ≡ true → is_above b f ≡ true → is_below (first_digest us) f ≡ true → is_past p f ≡ true

  next_above : (d : Text) (us : List Text) (f : Text) → AreRising (d ∷ us) → (IsLess f d) → is_below (first_digest us) f ≡ true
  next_above d [] f rise low = refl
  next_above d (u ∷ us) f rise low = less_trans f d u low rise.0

  itself_below : (d : Text) (us : List Text) (f : Text) → AreRising (d ∷ us) → is_text d f ≡ true → is_below (first_digest us) f ≡ true
  itself_below d [] f rise same = refl
  itself_below d (u ∷ us) f rise same = subst (λ x. IsLess x u) (same_text d f same) rise.0

  nothing_between : (b a : Option Text) (f : Text) → list_any (is_between b a) fs ≡ false → member f fs ≡ true → is_above b f ≡ true → is_below a f ≡ true → ⊥
  nothing_between b a f none m low high = false_true (sym none ∙ of_any (is_between b a) f fs m (both_true (is_above b f) (is_below a f) low high))

  -- what is asked for and isn't below a digest that isn't shown is above it
  over : (b : Option Text) (d : Text) (us : List Text) (f : Text) → list_any (is_between b (first_digest us)) fs ≡ false → AreRising (d ∷ us) → member f fs ≡ true
      → is_above b f ≡ true → IsLess d f
  over b d us f none rise m low = by (is_text d f) refl (less f d) refl
    where
      by : (y : Bool) → is_text d f ≡ y → (z : Bool) → less f d ≡ z → IsLess d f
      by true e z g = absurd (nothing_between b (first_digest us) f none m low (itself_below d us f rise e))
      by false e true g = absurd (nothing_between b (first_digest us) f none m low (next_above d us f rise g))
      by false e false g = other_side d f e g

  under_next : (d e : Text) → IsLess d e → IsUnder (Some d) e
  under_next d e h f k = less_trans d e f h k

  -- digests beside each other that aren't shown
  record IsClosed (b : Option Text) (d : Text) (ds us : List Text) (ks : Kinds) : Type 0 where
    rest : ks ≡ asked_kinds (Some (last d ds)) us fs
    shut : (f : Text) → member f fs ≡ true → IsLess (last d ds) f → is_below (first_digest us) f ≡ true → ⊥
    over_last : (f : Text) → member f fs ≡ true → is_above b f ≡ true → IsLess (last d ds) f

  closed : (b : Option Text) (d : Text) (ds us : List Text) (ks : Kinds) → IsUnder b d → AreRising (d ∷ ds ++ us) → None ∷ nones ds ++ ks ≡ asked_kinds b (d ∷ ds ++ us) fs
      → IsClosed b d ds us ks
  closed b d [] us ks under rise e =
      let none = hidden_if _ (first_same _ _ _ _ e) in
      record {
        rest = rest_same _ _ _ _ e;
        shut = λ f m low high. nothing_between b (first_digest us) f none m (under f low) high;
        over_last = λ f m low. over b d us f none rise m low;
      }
  closed b d (c ∷ ds) us ks under rise e =
      let none = hidden_if _ (first_same _ _ _ _ e) in
      let x = closed (Some d) c ds us ks (under_next d c rise.0) rise.1 (rest_same _ _ _ _ e) in
      record {
        rest = x.rest;
        shut = x.shut;
        over_last = λ f m low. x.over_last f m (over b d (c ∷ ds ++ us) f none rise m low);
      }

  abbrev pub IsAsked : Option Text → List Cell → Type 0
  IsAsked b cs = kinds_in cs ≡ asked_kinds b (leaves_in cs) fs

  abbrev pub AreUnder : Option Text → List Cell → Type 0
  AreUnder b [] = Unit {0}
  AreUnder b (Block h d ds ∷ cs) = IsUnder b d
  AreUnder b (One k d ∷ cs) = IsUnder b d

  under_rest : (d : Text) (cs : List Cell) → AreRising (d ∷ leaves_in cs) → AreUnder (Some d) cs
  under_rest d [] rise = tt
  under_rest d (Block h e es ∷ cs) rise = under_next d e rise.0
  under_rest d (One k e ∷ cs) rise = under_next d e rise.0

  closed_block : (b : Option Text) (h d : Text) (ds : List Text) (cs : List Cell) → AreUnder b (Block h d ds ∷ cs) → AreRising (leaves_in (Block h d ds ∷ cs))
      → IsAsked b (Block h d ds ∷ cs) → IsClosed b d ds (leaves_in cs) (kinds_in cs)
  closed_block b h d ds cs under rise e = closed b d ds (leaves_in cs) (kinds_in cs) under rise e

  -- ---- what is there

  present : (b : Option Text) (cs : List Cell) (f : Text) → AreUnder b cs → AreRising (leaves_in cs) → IsAsked b cs → member f fs ≡ true → is_above b f ≡ true
      → member f (leaves_in cs) ≡ true → is_present (cell_items cs) f ≡ true
  present b [] f under rise e m low h = absurd (false_true h)
  present b (Block g d ds ∷ cs) f under rise e m low h =
      let x = closed_block b g d ds cs under rise e in
      let over = x.over_last f m low in
      let tail = from_last d ds (leaves_in cs) rise in
      present (Some (last d ds)) cs f (under_rest (last d ds) cs tail) (rest_rising (last d ds) (leaves_in cs) tail) x.rest m over
      (sym (member_right f (d ∷ ds) (leaves_in cs) (block_below f d ds (leaves_in cs) rise over)) ∙ h)
  present b (One Added d ∷ cs) f under rise e m low h = absurd (not_added _ (first_same _ _ _ _ e))
  present b (One Gone d ∷ cs) f under rise e m low h = absurd (not_gone _ (first_same _ _ _ _ e))
  present b (One Both d ∷ cs) f under rise e m low h =
      by (is_text d f) h
      (λ g. present (Some d) cs f (under_rest d cs rise) (rest_rising d (leaves_in cs) rise) (rest_same _ _ _ _ e) m (above_all d (leaves_in cs) f rise g) g)
    where
      by : (z : Bool) → (z || member f (leaves_in cs)) ≡ true → (member f (leaves_in cs) ≡ true → is_present (cell_items cs) f ≡ true)
          → (z || is_present (cell_items cs) f) ≡ true
      by true g r = refl
      by false g r = r g

  -- ---- what isn't there

  absent : (b : Option Text) (p : Option Part) (cs : List Cell) (f : Text) → AreUnder b cs → Opens b p (leaves_in cs) → AreRising (leaves_in cs) → IsAsked b cs
      → member f fs ≡ true → is_above b f ≡ true → member f (leaves_in cs) ≡ false → is_absent p (cell_items cs) f ≡ true
  absent b p [] f under opens rise e m low h = opens f m low refl
  absent b p (Block g d ds ∷ cs) f under opens rise e m low h =
      let x = closed_block b g d ds cs under rise e in
      let over = x.over_last f m low in
      let tail = from_last d ds (leaves_in cs) rise in
      or_right _ (is_absent (Some (Hash g)) (cell_items cs) f)
      (absent (Some (last d ds)) (Some (Hash g)) cs f (under_rest (last d ds) cs tail) (λ q n l u. absurd (x.shut q n l u))
      (rest_rising (last d ds) (leaves_in cs) tail) x.rest m over
      (sym (member_right f (d ∷ ds) (leaves_in cs) (block_below f d ds (leaves_in cs) rise over)) ∙ h))
  absent b p (One k d ∷ cs) f under opens rise e m low h =
      by (less f d) refl
      (λ over. absent (Some d) (Some (Leaf k d)) cs f (under_rest d cs rise) (λ q n l u. l) (rest_rising d (leaves_in cs) rise) (rest_same _ _ _ _ e) m over
      (or_none_too (is_text d f) (member f (leaves_in cs)) h))
    where
      by : (z : Bool) → less f d ≡ z → (IsLess d f → is_absent (Some (Leaf k d)) (cell_items cs) f ≡ true)
          → ((is_past p f && z) || is_absent (Some (Leaf k d)) (cell_items cs) f) ≡ true
      by true g rest = ap (λ y. (y && true) || is_absent (Some (Leaf k d)) (cell_items cs) f) (opens f m low g)
      by false g rest =
          or_right (is_past p f && false) (is_absent (Some (Leaf k d)) (cell_items cs) f) (rest (other_side d f (or_none (is_text d f) (member f (leaves_in cs)) h) g))

  -- ---- what is shown is needed

  ahead : (d : Text) (cs : List Cell) (f : Text) → AreRising (d ∷ leaves_in cs) → IsAsked (Some d) cs → member f fs ≡ true → IsLess d f
      → is_below (first_digest (leaves_in cs)) f ≡ true → is_ahead (first_part (cell_items cs)) f ≡ true
  ahead d [] f rise e m low high = refl
  ahead d (Block g c es ∷ cs) f rise e m low high =
      absurd (not_both_ways c f (over (Some d) c (es ++ leaves_in cs) f (hidden_if _ (first_same _ _ _ _ e)) rise.1 m low) high)
  ahead d (One k c ∷ cs) f rise e m low high = high

  need_by : (p a : Option Part) (d f : Text) → (IsLess f d → is_past p f ≡ true) → (IsLess d f → is_ahead a f ≡ true) → needs p (Leaf Both d) a f ≡ true
  need_by p a d f low high = by (is_text d f) refl (less f d) refl
    where
      by : (y : Bool) → is_text d f ≡ y → (z : Bool) → less f d ≡ z → (y || ((is_past p f && z) || (less d f && is_ahead a f))) ≡ true
      by true e z g = refl
      by false e true g = ap (λ x. (x && true) || (less d f && is_ahead a f)) (low g)
      by false e false g =
          let over = other_side d f e g in
          or_right (is_past p f && false) (less d f && is_ahead a f) (both_true (less d f) (is_ahead a f) over (high over))

  asked : (b : Option Text) (p : Option Part) (cs : List Cell) → AreUnder b cs → Opens b p (leaves_in cs) → AreRising (leaves_in cs) → IsAsked b cs
      → all_asked p (cell_items cs) fs ≡ true
  asked b p [] under opens rise e = refl
  asked b p (Block g d ds ∷ cs) under opens rise e =
      let x = closed_block b g d ds cs under rise e in
      let tail = from_last d ds (leaves_in cs) rise in
      asked (Some (last d ds)) (Some (Hash g)) cs (under_rest (last d ds) cs tail) (λ q n l u. absurd (x.shut q n l u))
      (rest_rising (last d ds) (leaves_in cs) tail) x.rest
  asked b p (One Added d ∷ cs) under opens rise e = absurd (not_added _ (first_same _ _ _ _ e))
  asked b p (One Gone d ∷ cs) under opens rise e = absurd (not_gone _ (first_same _ _ _ _ e))
  asked b p (One Both d ∷ cs) under opens rise e =
      both_true (list_any (needs p (Leaf Both d) (first_part (cell_items cs))) fs) (all_asked (Some (Leaf Both d)) (cell_items cs) fs)
      (of_any (needs p (Leaf Both d) (first_part (cell_items cs))) x.one fs x.there
      (need_by p (first_part (cell_items cs)) d x.one (λ g. opens x.one x.there (and_left (is_above b x.one) (is_below (first_digest (leaves_in cs)) x.one) x.has) g)
      (λ g. ahead d cs x.one rise (rest_same _ _ _ _ e) x.there g (and_right (is_above b x.one) (is_below (first_digest (leaves_in cs)) x.one) x.has))))
      (asked (Some d) (Some (Leaf Both d)) cs (under_rest d cs rise) (λ q n l u. l) (rest_rising d (leaves_in cs) rise) (rest_same _ _ _ _ e))
    where
      x : IsAny (is_between b (first_digest (leaves_in cs))) fs
      x = any_of (is_between b (first_digest (leaves_in cs))) fs (shown_if _ Both (first_same _ _ _ _ e))

  -- ---- nothing changed

  rest_of : (b : Option Text) (d : Text) (ds us : List Text) (ks : Kinds) → None ∷ nones ds ++ ks ≡ asked_kinds b (d ∷ ds ++ us) fs → ks ≡ asked_kinds (Some (last d ds)) us fs
  rest_of b d [] us ks e = rest_same _ _ _ _ e
  rest_of b d (c ∷ ds) us ks e = rest_of (Some d) c ds us ks (rest_same _ _ _ _ e)

  are_kept : (b : Option Text) (cs : List Cell) → IsAsked b cs → AreKept cs
  are_kept b [] e = tt
  are_kept b (Block g d ds ∷ cs) e = are_kept (Some (last d ds)) cs (rest_of b d ds (leaves_in cs) (kinds_in cs) e)
  are_kept b (One Both d ∷ cs) e = are_kept (Some d) cs (rest_same _ _ _ _ e)
  are_kept b (One Added d ∷ cs) e = absurd (not_added _ (first_same _ _ _ _ e))
  are_kept b (One Gone d ∷ cs) e = absurd (not_gone _ (first_same _ _ _ _ e))

  kept_all : (on : Kind → Bool) (b : Option Text) (ds : List Text) → on Both ≡ true → side on ds (asked_kinds b ds fs) ≡ ds
  kept_all on b [] h = refl
  kept_all on b (d ∷ ds) h = by (list_any (is_between b (first_digest ds)) fs) (kept_all on (Some d) ds h)
    where
      by : (z : Bool) → side on ds (asked_kinds (Some d) ds fs) ≡ ds
          → side on (d ∷ ds) (kind_if z ∷ asked_kinds (Some d) ds fs) ≡ d ∷ ds
      by true e = ap (λ z. if z then d ∷ side on ds (asked_kinds (Some d) ds fs) else side on ds (asked_kinds (Some d) ds fs)) h ∙ ap (λ l. d ∷ l) e
      by false e = ap (λ l. d ∷ l) e

  pub kinds_length : (b : Option Text) (ds : List Text) → length (asked_kinds b ds fs) ≡ length ds
  kinds_length b [] = refl
  kinds_length b (d ∷ ds) = ap suc (kinds_length (Some d) ds)

under_none : (fs : List Text) (cs : List Cell) → AreUnder fs None cs
under_none fs [] = tt
under_none fs (Block g d ds ∷ cs) = λ f h. refl
under_none fs (One k d ∷ cs) = λ f h. refl

state_of : (ds : List Text) (xs : List Part) (f : Text) → (member f ds ≡ true → is_present xs f ≡ true) → (is_present xs f ≡ true → member f ds ≡ true)
    → (member f ds ≡ false → is_absent None xs f ≡ true)
    → (if is_present xs f then Some true else if is_absent None xs f then Some false else None) ≡ Some (member f ds)
state_of ds xs f there only absent = by (is_present xs f) (member f ds) refl refl
  where
    by : (y z : Bool) → is_present xs f ≡ y → member f ds ≡ z → (if y then Some true else if is_absent None xs f then Some false else None) ≡ Some z
    by true true e g = refl
    by true false e g = absurd (false_true (sym g ∙ only e))
    by false true e g = absurd (false_true (sym e ∙ there g))
    by false false e g = ap (λ z. if z then Some false else None) (absent g)

pub complete : PresenceIsComplete
complete ds fs set = record {
  accepted =
      none_first (tree_fault (root ds) (root ds) ps) (fault_unless (all_asked None (items ps) fs) NotNeeded)
      ((λ i. tree_fault (root (sym (kept_all fs is_earlier None ds refl) i)) (root (sym (kept_all fs is_later None ds refl) i)) ps) ∙ passes ds ks set (kinds_length fs None ds) seen)
      (holds (all_asked None (items ps) fs) NotNeeded
      (ap (λ l. all_asked None l fs) x.its_items ∙ asked fs None None x.cells (under_none fs x.cells) (λ f m l u. refl) rising is_asked));
  states = λ f m.
      (λ i. if is_present (x.its_items i) f then Some true else if is_absent None (x.its_items i) f then Some false else None)
      ∙ state_of ds (cell_items x.cells) f
      (λ h. present fs None x.cells f (under_none fs x.cells) rising is_asked m refl (ap (member f) x.leaves ∙ h))
      (λ h. ap (member f) (sym its_side) ∙ present_side f x.cells h)
      (λ h. absent fs None None x.cells f (under_none fs x.cells) (λ g n l u. refl) rising is_asked m refl (ap (member f) x.leaves ∙ h));
}
  where
    ks : Kinds
    ks = asked_kinds None ds fs

    ps : List Part
    ps = presence_parts ds fs

    x : AreCelled ds ks
    x = set_celled ds ks set (kinds_length fs None ds)

    rising : AreRising (leaves_in x.cells)
    rising = subst AreRising (sym x.leaves) (sorted_rising ds set.rising)

    is_asked : IsAsked fs None x.cells
    is_asked = x.kinds ∙ ap (λ l. asked_kinds None l fs) (sym x.leaves)

    its_side : side_leaves is_earlier x.cells ≡ ds
    its_side = sym (cells_side is_earlier x.cells) ∙ (λ i. side is_earlier (x.leaves i) (x.kinds i)) ∙ kept_all fs is_earlier None ds refl

    seen : all_beside is_seen (items ps) ≡ true
    seen = ap (all_beside is_seen) x.its_items ∙ kept_seen x.cells (are_kept fs None x.cells is_asked)

-- ---- one pass over both lists

-- from the first that is above what is before
abbrev pub after : Option Text → List Text → List Text
after None fs = fs
after (Some b) fs = above b fs

first_decides : (b a : Option Text) (f : Text) (fs : List Text) → AreRising (f ∷ fs) → is_below a f ≡ false → list_any (is_between b a) fs ≡ false
first_decides b None f fs rise high = absurd (false_true (sym high))
first_decides b (Some a) f [] rise high = refl
first_decides b (Some a) f (g ∷ fs) rise high =
    (λ i. not_both (is_above b g) (less g a) (over (less g a) refl) i || list_any (is_between b (Some a)) fs)
    ∙ first_decides b (Some a) g fs rise.1 (over (less g a) refl)
  where
    over : (z : Bool) → less g a ≡ z → less g a ≡ false
    over true e = absurd (false_true (sym high ∙ less_trans f g a rise.0 e))
    over false e = e

    not_both : (x y : Bool) → y ≡ false → (x && y) ≡ false
    not_both true y e = e
    not_both false y e = refl

all_decided : (a : Option Text) (fs : List Text) → AreRising fs → list_any (is_between None a) fs ≡ starts_below fs a
all_decided a [] rise = refl
all_decided a (f ∷ fs) rise = by (is_below a f) refl
  where
    by : (z : Bool) → is_below a f ≡ z → (z || list_any (is_between None a) fs) ≡ z
    by true e = refl
    by false e = first_decides None a f fs rise e

above_decided : (b : Text) (a : Option Text) (fs : List Text) → AreRising fs → list_any (is_between (Some b) a) fs ≡ starts_below (above b fs) a
above_decided b a [] rise = refl
above_decided b a (f ∷ fs) rise = by (less b f) (above_decided b a fs (rest_rising f fs rise)) (is_below a f) refl
  where
    by : (y : Bool) → list_any (is_between (Some b) a) fs ≡ starts_below (above b fs) a → (z : Bool) → is_below a f ≡ z
        → ((y && z) || list_any (is_between (Some b) a) fs) ≡ starts_below (if y then f ∷ fs else above b fs) a
    by true h true e = sym e
    by true h false e = first_decides (Some b) a f fs rise e ∙ sym e
    by false h z e = h

decided : (b a : Option Text) (fs : List Text) → AreRising fs → list_any (is_between b a) fs ≡ starts_below (after b fs) a
decided None a fs rise = all_decided a fs rise
decided (Some b) a fs rise = above_decided b a fs rise

above_twice : (b d : Text) (fs : List Text) → IsLess b d → above d (above b fs) ≡ above d fs
above_twice b d [] low = refl
above_twice b d (f ∷ fs) low = by (less b f) refl (less d f) refl (above_twice b d fs low)
  where
    by : (y : Bool) → less b f ≡ y → (z : Bool) → less d f ≡ z → above d (above b fs) ≡ above d fs
        → above d (if y then f ∷ fs else above b fs) ≡ (if z then f ∷ fs else above d fs)
    by true e z g h = ap (λ x. if x then f ∷ fs else above d fs) g
    by false e true g h = absurd (false_true (sym e ∙ less_trans b d f low g))
    by false e false g h = h

above_after : (b : Option Text) (d : Text) (fs : List Text) → ((c : Text) → b ≡ Some c → IsLess c d) → above d (after b fs) ≡ above d fs
above_after None d fs low = refl
above_after (Some b) d fs low = above_twice b d fs (low b refl)

walked_after : (b : Option Text) (ds fs : List Text) → AreRising ds → ((c d : Text) (rest : List Text) → b ≡ Some c → ds ≡ d ∷ rest → IsLess c d) → AreRising fs
    → walked_kinds ds (after b fs) ≡ asked_kinds b ds fs
walked_after b [] fs rise low asked = refl
walked_after b (d ∷ ds) fs rise low asked =
    (λ i. kind_if (sym (decided b (first_digest ds) fs asked) i) ∷ walked_kinds ds (above_after b d fs (λ c e. low c d ds e refl) i))
    ∙ ap (λ l. kind_if (list_any (is_between b (first_digest ds)) fs) ∷ l) (walked_after (Some d) ds fs (rest_rising d ds rise) next asked)
  where
    next : (c e : Text) (rest : List Text) → Some d ≡ Some c → ds ≡ e ∷ rest → IsLess c e
    next c e rest f g = subst (λ x. IsLess x e) (same f) (subst (λ l. AreRising (d ∷ l)) g rise).0
      where
        same : Some d ≡ Some c → d ≡ c
        same h = cc

pub walked_is : (ds fs : List Text) → IsSet ds → AreRising fs → walked_kinds ds fs ≡ asked_kinds None ds fs
walked_is ds fs set asked = walked_after None ds fs (sorted_rising ds set.rising) (λ c d rest e f. none_one c e) asked
  where
    none_one : {X : Type 0} (c : Text) → None ≡ Some c → X
    none_one c e = absurd (cc)
