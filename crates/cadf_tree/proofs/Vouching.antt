-- Where no leaf went, the earlier root is that of the later set without what was added.
use Rattle.cadf_tree.proofs.Common.{◌≡◌, ◌∙◌, ◌+◌, ◌-◌, ◌++◌, ℕ, suc, Bool, true, false, cond, List, [], ◌∷◌, Option, None, Some, length, take, drop, refl, ap, sym, subst, arith, append-nil, inl, inr, ◌||◌, not, nat_lt, if◌then◌else◌, option_map, unwrap_or, Ok, ltb-false, eqb-true, AllByRecursion, slice_cmp, nat_cmp, sha256, Text, Tree, Tip, Branch, leaf_text, node_text, leaf_hash, node_hash, hash, leaves, tree_hash, all_leaves, beside, tree_of, root, root_hash, IsSet, IsDigest, Pruned, Hidden, Shown, Fork, items, is_earlier, is_later, joined, side_hash, side_root, number, leaves_of, may_hide, hidden_leaves, are_equal, counts_agree, growth_unless, DoNotCollide, SideHashes, AllSideHashes, JoinedHashes, IsHashedOf, HaveHashes, Marked, those, all_kinds, is_added, AreRising, Kinds, any_shown, size, side, member, Root, Growth, TreeFault, Kind, Both, Added, Gone, Part, without, IsVouched, IsHashedForLater, LaterVouches, AreSteps, ChainIsVouched, Result, IsStrictlySortedBy-filter}
use Rattle.cadf_tree.proofs.Sorted.{none_have, set_rises, leaves_are, all_kept}
use Rattle.cadf_tree.proofs.Filling.{Cell, Block, One, cell_items, shown_items, side_leaves, items_append, side_append, some_leaf, marked, those_marked, AreLong, All, AllOf, apart, side_long, hash_if, same_some, none_some, beside_hash, AreHalves, halves, not_none}
use Rattle.cadf_tree.proofs.Making.{kept, kept_of, kept_divided, size_leaves}
use Rattle.cadf_tree.proofs.Making as making
use Rattle.cadf_tree.proofs.Halving.{take_left, drop_left}
use Rattle.cadf_tree.proofs.Judged.{IsAccepted, accepted, tree_of_parts, tree_items, AllLong, number_items, leaves_items, number_append, none_on}
use Rattle.cadf_tree.proofs.Differing.{sorted_rising, added_is, gone_is, tree_texts, root_tree, none_later}
use Rattle.cadf_tree.proofs.Showing.{IsLess, less_trans, less_apart, less_apart_too, leaves_in}
use Rattle.cadf_tree.proofs.Celled.{nones, kinds_in, kinds_append, cells_side, hidden_in, hidden_most, none_hidden, earlier_count, later_count, left_hidden, same_itself}

-- ---- each shown leaf is of the later set

abbrev pub AllOn : (Kind → Bool) → Pruned → Type 0
AllOn on (Hidden h) = Unit {0}
AllOn on (Shown k d) = on k ≡ true
AllOn on (Fork l r) = AllOn on l × AllOn on r

no_gone : (p : Pruned) → number (Some Gone) (shown_items p) ≡ 0 → AllOn is_later p
no_gone (Hidden h) e = tt
no_gone (Shown Both d) e = refl
no_gone (Shown Added d) e = refl
no_gone (Shown Gone d) e = absurd (omega (arith, e))
no_gone (Fork l r) e =
    let both = number_append (Some Gone) (shown_items l) (shown_items r) in
    (no_gone l (omega (arith, e, both)), no_gone r (omega (arith, e, both)))

record HasHash (on : Kind → Bool) (p : Pruned) : Type 0 where
  its : Text
  is : side_hash on p ≡ Some its

has_hash : (on : Kind → Bool) (p : Pruned) → AllOn on p → HasHash on p
has_hash on (Hidden h) a = record { its = h; is = refl }
has_hash on (Shown k d) a = record { its = leaf_hash d; is = ap (λ z. if z then Some (leaf_hash d) else None) a }
has_hash on (Fork l r) a =
    let x = has_hash on l a.0 in
    let y = has_hash on r a.1 in
    record { its = node_hash x.its y.its; is = λ i. joined (x.is i) (y.is i) }

none_in : (ds : List Text) → any_shown (nones ds ++ []) ≡ false
none_in [] = refl
none_in (d ∷ ds) = none_in ds

block_kinds : (ds : List Text) (ks : Kinds) (es : List Text) → length ks ≡ length es → length (nones ds ++ ks) ≡ length (ds ++ es)
block_kinds [] ks es e = e
block_kinds (d ∷ ds) ks es e = ap suc (block_kinds ds ks es e)

kinds_many : (cs : List Cell) → length (kinds_in cs) ≡ length (leaves_in cs)
kinds_many [] = refl
kinds_many (Block h d ds ∷ cs) = ap suc (block_kinds ds (kinds_in cs) (leaves_in cs) (kinds_many cs))
kinds_many (One k d ∷ cs) = ap suc (kinds_many cs)

hash_there : (on : Kind → Bool) (k : Kind) (d : Text) (h : Text) → on k ≡ true → (if on k then Some (leaf_hash d) else None) ≡ Some h → leaf_hash d ≡ h
hash_there on k d h a e = same_some (leaf_hash d) h (ap (λ z. if z then Some (leaf_hash d) else None) (sym a) ∙ e)

hash_or : (o : Option Tree) → unwrap_or (option_map hash o) (sha256 []) ≡ tree_hash o
hash_or None = refl
hash_or (Some t) = refl

module _ (Q : Text → Type 0) (free : DoNotCollide Q) (on off : Kind → Bool) where
  -- the cells of a pruned tree with the hash of t; its other side has the hash of what is kept of t
  record IsAligned (p : Pruned) (t : Tree) : Type 0 where
    cells : List Cell
    its_items : cell_items cells ≡ shown_items p
    its_leaves : leaves_in cells ≡ leaves t
    other : side_hash off p ≡ option_map hash (kept off t (kinds_in cells))

  aligned_fork : (l r : Pruned) (a b : Tree) → IsAligned l a → IsAligned r b → IsAligned (Fork l r) (Branch a b)
  aligned_fork l r a b x y = record {
    cells = x.cells ++ y.cells;
    its_items = items_append x.cells y.cells ∙ (λ i. x.its_items i ++ y.its_items i);
    its_leaves = side_append all_kinds x.cells y.cells ∙ (λ i. x.its_leaves i ++ y.its_leaves i);
    other =
        (λ i. joined (x.other i) (y.other i)) ∙ beside_hash (kept off a (kinds_in x.cells)) (kept off b (kinds_in y.cells))
        ∙ ap (option_map hash) (λ i. beside (kept off a (sym low i)) (kept off b (sym high i)));
  }
    where
      many : length (kinds_in x.cells) ≡ size a
      many = kinds_many x.cells ∙ ap length x.its_leaves ∙ sym (size_leaves a)

      low : take (size a) (kinds_in (x.cells ++ y.cells)) ≡ kinds_in x.cells
      low = (λ i. take (sym many i) (kinds_append x.cells y.cells i)) ∙ take_left (kinds_in x.cells) (kinds_in y.cells)

      high : drop (size a) (kinds_in (x.cells ++ y.cells)) ≡ kinds_in y.cells
      high = (λ i. drop (sym many i) (kinds_append x.cells y.cells i)) ∙ drop_left (kinds_in x.cells) (kinds_in y.cells)

  aligned : (p : Pruned) (t : Tree) → AreLong p → AllOn on p → ((x : Text) → SideHashes on p x → Q x) → All Q free t → side_hash on p ≡ Some (hash t) → IsAligned p t
  aligned (Hidden h) t long a q all e =
      let some = some_leaf t in
      record {
        cells = Block h some.head some.tail ∷ [];
        its_items = refl;
        its_leaves = append-nil (some.head ∷ some.tail) ∙ sym some.is;
        other = e ∙ ap (option_map hash) (sym (making.all_kept off t (kinds_in (Block h some.head some.tail ∷ [])) (none_in some.tail)));
      }
  aligned (Shown k d) (Tip c) long a q all e =
      let same : d ≡ c = ap (drop 1) (free (leaf_text d) (leaf_text c) (q (leaf_text d) refl) (all (leaf_text c) refl) (hash_there on k d (leaf_hash c) a e)) in
      record {
        cells = One k d ∷ [];
        its_items = refl;
        its_leaves = ap (λ x. x ∷ []) same;
        other = sym (hash_if (off k) d) ∙ ap (λ x. option_map hash (if off k then Some (Tip x) else None)) same;
      }
  aligned (Shown k d) (Branch b c) long a q all e =
      absurd (apart d (hash b) (hash c) (free (leaf_text d) (node_text (hash b) (hash c)) (q (leaf_text d) refl) (all (node_text (hash b) (hash c)) (inl refl))
      (hash_there on k d (node_hash (hash b) (hash c)) a e)))
  aligned (Fork l r) t long a q all e =
      subst (IsAligned (Fork l r)) (sym h.is)
      (aligned_fork l r h.left h.right
      (aligned l h.left long.0 a.0 (λ x m. q x (inr (inl m))) h.all_left (u.is ∙ ap Some h.low))
      (aligned r h.right long.1 a.1 (λ x m. q x (inr (inr m))) h.all_right (v.is ∙ ap Some h.high)))
    where
      u : HasHash on l
      u = has_hash on l a.0

      v : HasHash on r
      v = has_hash on r a.1

      there : Q (node_text u.its v.its)
      there = q (node_text u.its v.its) (inl (subst (λ (x : Option Text × Option Text). JoinedHashes x.0 x.1 (node_text u.its v.its)) (λ i. (sym u.is i, sym v.is i)) refl))

      h : AreHalves Q free u.its v.its t
      h = halves Q free u.its v.its t there (side_long on l long.0 u.its u.is) all
          (same_some (node_hash u.its v.its) (hash t) ((λ i. joined (sym u.is i) (sym v.is i)) ∙ e))

  record AreAligned (t : Option Pruned) (o : Option Tree) : Type 0 where
    cells : List Cell
    its_items : cell_items cells ≡ tree_items t
    its_leaves : leaves_in cells ≡ all_leaves o
    other : side_root off t ≡ tree_hash (kept_of off o (kinds_in cells))

  abbrev pub AreAllOn : Option Pruned → Type 0
  AreAllOn None = Unit {0}
  AreAllOn (Some p) = AllOn on p

  not_empty : (p : Pruned) → AllOn on p → side_hash on p ≡ None → ⊥
  not_empty p a e =
      let x = has_hash on p a in
      none_some x.its (sym e ∙ x.is)

  all_aligned : (t : Option Pruned) (o : Option Tree) → Q [] → AllLong t → AreAllOn t → ((x : Text) → AllSideHashes on t x → Q x) → AllOf Q free o
      → ((p : Pruned) → t ≡ Some p → all_leaves o ≡ [] → side_hash on p ≡ None) → side_root on t ≡ tree_hash o → AreAligned t o
  all_aligned None None q long a texts all f e = record { cells = []; its_items = refl; its_leaves = refl; other = refl }
  all_aligned None (Some t) q long a texts all f e = absurd (not_none Q free t q all e)
  all_aligned (Some p) None q long a texts all f e = absurd (not_empty p a (f p refl refl))
  all_aligned (Some p) (Some t) q long a texts all f e =
      let u = has_hash on p a in
      let x = aligned p t long a texts all (u.is ∙ ap Some (ap (λ h. unwrap_or h (sha256 [])) (sym u.is) ∙ e)) in
      record {
        cells = x.cells;
        its_items = x.its_items;
        its_leaves = x.its_leaves;
        other = ap (λ h. unwrap_or h (sha256 [])) x.other ∙ hash_or (kept off t (kinds_in x.cells));
      }

-- ---- the set without what was added

over_too : (d e : Text) (es : List Text) → IsLess d e → AllByRecursion (λ c. IsLess e c) es → AllByRecursion (λ c. IsLess d c) es
over_too d e [] low h = tt
over_too d e (c ∷ es) low h = (less_trans d e c low h.0, over_too d e es low h.1)

all_over : (d : Text) (ds : List Text) → AreRising (d ∷ ds) → AllByRecursion (λ e. IsLess d e) ds
all_over d [] h = tt
all_over d (e ∷ ds) h = (h.0, over_too d e ds h.0 (all_over e ds h.1))

added_over : (P : Text → Type 0) (ms : List Marked) → AllByRecursion P (those all_kinds ms) → AllByRecursion P (those is_added ms)
added_over P [] h = tt
added_over P ((Both, d) ∷ ms) h = added_over P ms h.1
added_over P ((Added, d) ∷ ms) h = (h.0, added_over P ms h.1)
added_over P ((Gone, d) ∷ ms) h = added_over P ms h.1

not_there : (d : Text) (gs : List Text) → AllByRecursion (λ e. IsLess d e) gs → member d gs ≡ false
not_there d [] h = refl
not_there d (g ∷ gs) h = (λ i. less_apart_too d g h.0 i || member d gs) ∙ not_there d gs h.1

past_it : (d : Text) (gs es : List Text) → AllByRecursion (λ e. IsLess d e) es → without (d ∷ gs) es ≡ without gs es
past_it d gs [] h = refl
past_it d gs (e ∷ es) h =
    λ i. cond (not (less_apart d e h.0 i || member e gs)) (e ∷ past_it d gs es h.1 i) (past_it d gs es h.1 i)

rising_more : (d : Text) (ds : List Text) → AreRising (d ∷ ds) → AreRising ds
rising_more d [] h = tt
rising_more d (e ∷ ds) h = h.1

kept_one : (d : Text) (ms : List Marked) → AreRising (d ∷ those all_kinds ms) → without (those is_added ms) (those all_kinds ms) ≡ those is_earlier ms
    → without (those is_added ms) (d ∷ those all_kinds ms) ≡ d ∷ those is_earlier ms
kept_one d ms rise e =
    ap (λ z. cond (not z) (d ∷ without (those is_added ms) (those all_kinds ms)) (without (those is_added ms) (those all_kinds ms)))
    (not_there d (those is_added ms) (added_over (λ e. IsLess d e) ms (all_over d (those all_kinds ms) rise)))
    ∙ ap (λ l. d ∷ l) e

earlier_left : (ms : List Marked) → AreRising (those all_kinds ms) → without (those is_added ms) (those all_kinds ms) ≡ those is_earlier ms
earlier_left [] rise = refl
earlier_left ((Both, d) ∷ ms) rise = kept_one d ms rise (earlier_left ms (rising_more d (those all_kinds ms) rise))
earlier_left ((Gone, d) ∷ ms) rise = kept_one d ms rise (earlier_left ms (rising_more d (those all_kinds ms) rise))
earlier_left ((Added, d) ∷ ms) rise =
    ap (λ z. cond (not (z || member d (those is_added ms))) (d ∷ without (d ∷ those is_added ms) (those all_kinds ms)) (without (d ∷ those is_added ms) (those all_kinds ms)))
    (same_itself d)
    ∙ past_it d (those is_added ms) (those all_kinds ms) (all_over d (those all_kinds ms) rise)
    ∙ earlier_left ms (rising_more d (those all_kinds ms) rise)

all_later : (cs : List Cell) → number (Some Gone) (cell_items cs) ≡ 0 → side_leaves is_later cs ≡ leaves_in cs
all_later [] e = refl
all_later (Block h d ds ∷ cs) e = ap (λ l. d ∷ ds ++ l) (all_later cs e)
all_later (One Both d ∷ cs) e = ap (λ l. d ∷ l) (all_later cs e)
all_later (One Added d ∷ cs) e = ap (λ l. d ∷ l) (all_later cs e)
all_later (One Gone d ∷ cs) e = absurd (omega (arith, e))

none_gone : (cs : List Cell) → number (Some Gone) (cell_items cs) ≡ 0 → leaves_of Gone (cell_items cs) ≡ []
none_gone [] e = refl
none_gone (Block h d ds ∷ cs) e = none_gone cs e
none_gone (One Both d ∷ cs) e = none_gone cs e
none_gone (One Added d ∷ cs) e = none_gone cs e
none_gone (One Gone d ∷ cs) e = absurd (omega (arith, e))

-- ---- counts

gone_by : (o : Option TreeFault) (ps : List Part) (g : Growth) → growth_unless o ps ≡ Ok g → number (Some Gone) ps ≡ g.gone
gone_by None ps g e = same _ _ e
  where
    same : (f g : Growth) → ◌≡◌ {A = Result Growth TreeFault} (Ok f) (Ok g) → f.gone ≡ g.gone
    same f g e = cc
gone_by (Some f) ps g e = absurd (cc)

equal_to : (x : Option ℕ) (m : ℕ) → are_equal x (Some m) ≡ true → x ≡ Some m
equal_to None m e = absurd (cc)
equal_to (Some n) m e = ap Some (eqb-true n m e)

count_by : (n shown hidden m : ℕ) → hidden_leaves n shown hidden ≡ Some m → n ≡ shown + m
count_by n shown hidden m e = by (nat_lt n shown) refl e
  where
    within : shown + (n - shown) ≡ n → (y : Bool) → (if y then Some (n - shown) else None) ≡ Some m → n ≡ shown + m
    within total true f =
        let same : n - shown ≡ m = cc in
        sym total ∙ ap (λ x. shown + x) same
    within total false f = absurd (cc)

    by : (z : Bool) → nat_lt n shown ≡ z → (if z then None else if may_hide (n - shown) hidden then Some (n - shown) else None) ≡ Some m → n ≡ shown + m
    by true g f = absurd (cc)
    by false g f = within (omega (arith, ltb-false _ _ g)) (may_hide (n - shown) hidden) f

-- ---- one step

module _ (a : Root) (new : List Text) (ps : List Part) (set : IsSet new) (long : HaveHashes ps) (free : DoNotCollide (IsHashedForLater new ps))
    (ok : IsAccepted a (root new) ps) (none : number (Some Gone) ps ≡ 0) where
  abbrev pub Q : Text → Type 0
  Q = IsHashedForLater new ps

  there : (x : Text) → IsHashedOf is_later (length new) (Some ok.tree) x → Q x
  there x m = inr (subst (λ r. IsHashedOf is_later (length new) r x) (sym ok.read) m)

  parts : (items ps ≡ tree_items ok.tree) × (HaveHashes ps → AllLong ok.tree)
  parts = tree_of_parts ps ok.tree ok.read

  all_on : (t : Option Pruned) → items ps ≡ tree_items t → AreAllOn Q free is_later is_earlier t
  all_on None e = tt
  all_on (Some p) e = no_gone p (ap (number (Some Gone)) (sym e) ∙ sym (number_items (Some Gone) ps) ∙ none)

  none_by : (p : Pruned) → ok.tree ≡ Some p → all_leaves (tree_of new) ≡ [] → side_hash is_later p ≡ None
  none_by p e empty =
      let zero = none_later a (length new) ps (ap length (sym (leaves_are new set) ∙ empty)) ok.counts in
      let same = parts.0 ∙ ap tree_items e in
      none_on is_later p (ap (number None) (sym same) ∙ sym (number_items None ps) ∙ zero.0)
      (λ k is. ap (number (Some k)) (sym same) ∙ sym (number_items (Some k) ps) ∙ zero.1 k is)

  x : AreAligned Q free is_later is_earlier ok.tree (tree_of new)
  x =
      all_aligned Q free is_later is_earlier ok.tree (tree_of new) (there [] (inl refl)) (parts.1 long) (all_on ok.tree parts.0) (λ y m. there y (inr (inr m)))
      (tree_texts Q free (tree_of new) (λ y m. inl (inr m))) none_by
      (root_tree (length new) (length new) (side_root is_later ok.tree) (tree_hash (tree_of new)) (free _ _ (there _ (inr (inl refl))) (inl (inl refl)) ok.later))

  its_items : items ps ≡ cell_items x.cells
  its_items = parts.0 ∙ sym x.its_items

  its_leaves : leaves_in x.cells ≡ new
  its_leaves = x.its_leaves ∙ leaves_are new set

  none_there : number (Some Gone) (cell_items x.cells) ≡ 0
  none_there = ap (number (Some Gone)) (sym its_items) ∙ sym (number_items (Some Gone) ps) ∙ none

  abbrev pub old : List Text
  old = without (leaves_of Added ps) new

  added : those is_added (marked x.cells) ≡ leaves_of Added ps
  added = added_is x.cells ∙ ap (leaves_of Added) (sym its_items) ∙ sym (leaves_items Added ps)

  all_marked : those all_kinds (marked x.cells) ≡ new
  all_marked = those_marked all_kinds x.cells refl ∙ its_leaves

  earlier : those is_earlier (marked x.cells) ≡ old
  earlier =
      sym (earlier_left (marked x.cells) (subst AreRising (sym all_marked) (sorted_rising new set.rising)))
      ∙ (λ i. without (added i) (all_marked i))

  its_earlier : side_leaves is_earlier x.cells ≡ old
  its_earlier = sym (those_marked is_earlier x.cells refl) ∙ earlier

  its_later : side_leaves is_later x.cells ≡ new
  its_later = all_later x.cells none_there ∙ its_leaves

  old_set : IsSet old
  old_set = record {
    digests = all_kept IsDigest (λ d. not (member d (leaves_of Added ps))) new set.digests;
    rising = IsStrictlySortedBy-filter (slice_cmp nat_cmp) (λ d. not (member d (leaves_of Added ps))) new set.rising;
  }

  counts : counts_agree a (root new) (cell_items x.cells) ≡ true
  counts =
      ap (counts_agree a (root new)) (sym its_items)
      ∙ (λ i. are_equal (hidden_leaves a.count (sym (number_items (Some Both) ps) i + sym (number_items (Some Gone) ps) i) (sym (number_items None ps) i))
      (hidden_leaves (length new) (sym (number_items (Some Both) ps) i + sym (number_items (Some Added) ps) i) (sym (number_items None ps) i)))
      ∙ ok.counts

  count : a.count ≡ length old
  count =
      count_by a.count (number (Some Both) xs + number (Some Gone) xs) (number None xs) (hidden_in x.cells)
      (equal_to (hidden_leaves a.count (number (Some Both) xs + number (Some Gone) xs) (number None xs)) (hidden_in x.cells)
      (ap (are_equal (hidden_leaves a.count (number (Some Both) xs + number (Some Gone) xs) (number None xs))) (sym right) ∙ counts))
      ∙ sym (earlier_count x.cells) ∙ ap length its_earlier
    where
      xs : List Part
      xs = cell_items x.cells

      right : hidden_leaves (length new) (number (Some Both) xs + number (Some Added) xs) (number None xs) ≡ Some (hidden_in x.cells)
      right =
          left_hidden (length new) (number (Some Both) xs + number (Some Added) xs) (number None xs) (hidden_in x.cells) (sym (ap length its_later) ∙ later_count x.cells)
          (hidden_most x.cells) (none_hidden x.cells)

  tree : kept_of is_earlier (tree_of new) (kinds_in x.cells) ≡ tree_of (side is_earlier new (kinds_in x.cells))
  unfolding tree_of
  tree =
      kept_divided is_earlier 256 0 (λ j. false) new (kinds_in x.cells) (omega arith) (none_have (λ j. false) new) (set_rises new set)
      (kinds_many x.cells ∙ ap length its_leaves)

  its_side : side is_earlier new (kinds_in x.cells) ≡ old
  its_side = ap (λ l. side is_earlier l (kinds_in x.cells)) (sym its_leaves) ∙ cells_side is_earlier x.cells ∙ its_earlier

  its_hash : a.hash ≡ root_hash (length old) (tree_hash (tree_of old))
  its_hash =
      sym ok.earlier ∙ (λ i. root_hash (count i) (x.other i)) ∙ ap (λ o. root_hash (length old) (tree_hash o)) tree
      ∙ ap (λ l. root_hash (length old) (tree_hash (tree_of l))) its_side

  pub vouched : IsVouched a new ps
  vouched = record {
    set = old_set;
    is = λ i. record { count = count i; hash = its_hash i };
    difference = record {
      all = marked x.cells;
      rising = subst AreRising (sym all_marked) (sorted_rising new set.rising);
      old_is = earlier;
      new_is = those_marked is_later x.cells refl ∙ its_later;
      added_is = added;
      gone_is = gone_is x.cells ∙ none_gone x.cells none_there;
    };
  }

pub one : LaterVouches
one a new ps n set long free h =
    vouched a new ps set long free (accepted a (root new) ps (record { added = n; gone = 0 }) h) (gone_by _ ps (record { added = n; gone = 0 }) h)

pub chain : ChainIsVouched
chain new [] set free steps = tt
chain new (s ∷ ss) set free steps =
    let v = one s.0 new s.1 steps.0.1.0 set steps.0.0 (λ x y p q e. free x y (inl p) (inl q) e) steps.0.1.1 in
    (v, chain (without (leaves_of Added s.1) new) ss v.set (λ x y p q e. free x y (inr p) (inr q) e) (subst (λ r. AreSteps r ss) v.is steps.1))
