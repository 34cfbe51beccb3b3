-- The tree that is made is read back, and both its sides have their roots.
use Rattle.cadf_tree.proofs.Common.{◌≡◌, ◌∙◌, ◌+◌, ◌≤◌, ◌++◌, ℕ, zero, suc, Bool, true, false, List, [], ◌∷◌, Option, None, Some, length, take, drop, refl, ap, sym, arith, append_assoc, append-nil, length-append, length-drop, length-take-le, ◌||◌, not, option_map, unwrap_or, if◌then◌else◌, filter, AllByRecursion, sha256, Text, Tree, Tip, Branch, leaf_hash, hash, leaves, tree_hash, all_leaves, beside, bit, zeros, ones, divided, tree_of, Rises, Pruned, Hidden, Shown, Fork, beside_read, both_read, read, whole, read_all, joined, side_hash, side_root, Kinds, first_kind, is_shown, any_shown, size, made_leaf, made, preorder, made_of, all_parts, is_on, side, MadeIsRead, MadeHasBothRoots, Kind, Part}
use Rattle.cadf_tree.proofs.OnePass.{AllBit, parted}
use Rattle.cadf_tree.proofs.Sorted.{AllHave, with_bit, leaves_from, halves_are, zeros_have, ones_have, rises_kept, one_at_most, none_have, set_rises}
use Rattle.cadf_tree.proofs.Filling.{beside_hash}

-- ---- it is read back

abbrev pub IsWithin : ℕ → Pruned → Type 0
IsWithin n (Hidden h) = Unit {0}
IsWithin n (Shown k d) = Unit {0}
IsWithin zero (Fork l r) = ⊥
IsWithin (suc n) (Fork l r) = IsWithin n l × IsWithin n r

read_one : (n : ℕ) (p : Pruned) (rest : List Part) → IsWithin n p → read (suc n) (preorder p ++ rest) ≡ Some (p, rest)
read_one n (Hidden h) rest in_it = refl
read_one n (Shown k d) rest in_it = refl
read_one zero (Fork l r) rest in_it = absurd in_it
read_one (suc n) (Fork l r) rest in_it =
    ap (λ x. both_read (read (suc n) x) (λ y. read (suc n) y)) (append_assoc (preorder l) (preorder r) rest)
    ∙ ap (λ x. both_read x (λ y. read (suc n) y)) (read_one n l (preorder r ++ rest) in_it.0)
    ∙ ap (beside_read l) (read_one n r rest in_it.1)

abbrev pub IsTreeWithin : ℕ → Tree → Type 0
IsTreeWithin n (Tip d) = Unit {0}
IsTreeWithin zero (Branch l r) = ⊥
IsTreeWithin (suc n) (Branch l r) = IsTreeWithin n l × IsTreeWithin n r

abbrev pub AllWithin : ℕ → Option Tree → Type 0
AllWithin n None = Unit {0}
AllWithin n (Some t) = IsTreeWithin n t

one_more_level : (n : ℕ) (t : Tree) → IsTreeWithin n t → IsTreeWithin (suc n) t
one_more_level n (Tip d) h = tt
one_more_level zero (Branch l r) h = absurd h
one_more_level (suc n) (Branch l r) h = (one_more_level n l h.0, one_more_level n r h.1)

beside_within : (n : ℕ) (s t : Option Tree) → AllWithin n s → AllWithin n t → AllWithin (suc n) (beside s t)
beside_within n None None h k = tt
beside_within n None (Some t) h k = one_more_level n t k
beside_within n (Some s) None h k = one_more_level n s h
beside_within n (Some s) (Some t) h k = (h, k)

pub divided_within : (n i : ℕ) (ds : List Text) → AllWithin n (divided n i ds)
unfolding divided
divided_within zero i [] = tt
divided_within zero i (d ∷ ds) = tt
divided_within (suc n) i ds =
    beside_within n (divided n (suc i) (zeros i ds)) (divided n (suc i) (ones i ds)) (divided_within n (suc i) (zeros i ds)) (divided_within n (suc i) (ones i ds))

leaf_within : (n : ℕ) (d : Text) (k : Option Kind) → IsWithin n (made_leaf d k)
leaf_within n d None = tt
leaf_within n d (Some k) = tt

made_within : (n : ℕ) (t : Tree) (ks : Kinds) → IsTreeWithin n t → IsWithin n (made t ks)
unfolding made
made_within n (Tip d) ks h = leaf_within n d (first_kind ks)
made_within zero (Branch l r) ks h = absurd h
made_within (suc n) (Branch l r) ks h =
    by (any_shown ks) (made_within n l (take (size l) ks) h.0) (made_within n r (drop (size l) ks) h.1)
  where
    by : (z : Bool) → IsWithin n (made l (take (size l) ks)) → IsWithin n (made r (drop (size l) ks))
        → IsWithin (suc n) (if z then Fork (made l (take (size l) ks)) (made r (drop (size l) ks)) else Hidden (hash (Branch l r)))
    by true a b = (a, b)
    by false a b = tt

all_whole : (ps : List Part) (p : Pruned) → read 257 ps ≡ Some (p, []) → read_all ps ≡ Some (Some p)
all_whole [] p e = absurd (cc)
all_whole (x ∷ xs) p e = ap whole e

read_by : (n : ℕ) (o : Option Tree) (ks : Kinds) → suc n ≡ 257 → AllWithin n o → read_all (all_parts (made_of o ks)) ≡ Some (made_of o ks)
read_by n None ks full h = refl
read_by n (Some t) ks full h =
    all_whole (preorder (made t ks)) (made t ks)
    (ap (λ m. read m (preorder (made t ks))) (sym full) ∙ ap (λ l. read (suc n) l) (sym (append-nil (preorder (made t ks)))) ∙ read_one n (made t ks) [] (made_within n t ks h))

pub made_read : MadeIsRead
unfolding tree_of
made_read ds ks = read_by 256 (divided 256 0 ds) ks (omega arith) (divided_within 256 0 ds)

-- ---- the tree of one side

abbrev pub kept : (Kind → Bool) → Tree → Kinds → Option Tree
kept on (Tip d) ks = if is_on on (first_kind ks) then Some (Tip d) else None
kept on (Branch l r) ks = beside (kept on l (take (size l) ks)) (kept on r (drop (size l) ks))

abbrev pub kept_of : (Kind → Bool) → Option Tree → Kinds → Option Tree
kept_of on None ks = None
kept_of on (Some t) ks = kept on t ks

pub or_left : (a b : Bool) → (a || b) ≡ false → a ≡ false
or_left true b h = h
or_left false b h = refl

pub or_rest : (a b : Bool) → (a || b) ≡ false → b ≡ false
or_rest true b h = absurd (cc)
or_rest false b h = h

none_taken : (n : ℕ) (ks : Kinds) → any_shown ks ≡ false → any_shown (take n ks) ≡ false
none_taken zero ks h = refl
none_taken (suc n) [] h = refl
none_taken (suc n) (k ∷ ks) h = (λ i. or_left (is_shown k) (any_shown ks) h i || any_shown (take n ks)) ∙ none_taken n ks (or_rest (is_shown k) (any_shown ks) h)

none_left : (n : ℕ) (ks : Kinds) → any_shown ks ≡ false → any_shown (drop n ks) ≡ false
none_left zero ks h = h
none_left (suc n) [] h = refl
none_left (suc n) (k ∷ ks) h = none_left n ks (or_rest (is_shown k) (any_shown ks) h)

pub first_none : (ks : Kinds) → any_shown ks ≡ false → first_kind ks ≡ None
first_none [] h = refl
first_none (None ∷ ks) h = refl
first_none (Some k ∷ ks) h = absurd (cc)

pub all_kept : (on : Kind → Bool) (t : Tree) (ks : Kinds) → any_shown ks ≡ false → kept on t ks ≡ Some t
all_kept on (Tip d) ks h = ap (λ k. if is_on on k then Some (Tip d) else None) (first_none ks h)
all_kept on (Branch l r) ks h =
    λ i. beside (all_kept on l (take (size l) ks) (none_taken (size l) ks h) i) (all_kept on r (drop (size l) ks) (none_left (size l) ks h) i)

leaf_side : (on : Kind → Bool) (d : Text) (k : Option Kind) → side_hash on (made_leaf d k) ≡ option_map hash (if is_on on k then Some (Tip d) else None)
leaf_side on d None = refl
leaf_side on d (Some k) = by (on k)
  where
    by : (z : Bool) → (if z then Some (leaf_hash d) else None) ≡ option_map hash (if z then Some (Tip d) else None)
    by true = refl
    by false = refl

made_side : (on : Kind → Bool) (t : Tree) (ks : Kinds) → side_hash on (made t ks) ≡ option_map hash (kept on t ks)
unfolding made
made_side on (Tip d) ks = leaf_side on d (first_kind ks)
made_side on (Branch l r) ks = by (any_shown ks) refl (made_side on l (take (size l) ks)) (made_side on r (drop (size l) ks))
  where
    by : (z : Bool) → any_shown ks ≡ z → side_hash on (made l (take (size l) ks)) ≡ option_map hash (kept on l (take (size l) ks))
        → side_hash on (made r (drop (size l) ks)) ≡ option_map hash (kept on r (drop (size l) ks))
        → side_hash on (if z then Fork (made l (take (size l) ks)) (made r (drop (size l) ks)) else Hidden (hash (Branch l r)))
        ≡ option_map hash (kept on (Branch l r) ks)
    by true e a b = (λ i. joined (a i) (b i)) ∙ beside_hash (kept on l (take (size l) ks)) (kept on r (drop (size l) ks))
    by false e a b = sym (ap (option_map hash) (all_kept on (Branch l r) ks e))

root_side : (on : Kind → Bool) (o : Option Tree) (ks : Kinds) → side_root on (made_of o ks) ≡ tree_hash (kept_of on o ks)
root_side on None ks = refl
root_side on (Some t) ks = ap (λ h. unwrap_or h (sha256 [])) (made_side on t ks) ∙ hash_or (kept on t ks)
  where
    hash_or : (o : Option Tree) → unwrap_or (option_map hash o) (sha256 []) ≡ tree_hash o
    hash_or None = refl
    hash_or (Some t) = refl

-- ---- it is the tree of that side's digests

pub size_leaves : (t : Tree) → size t ≡ length (leaves t)
size_leaves (Tip d) = refl
size_leaves (Branch l r) = (λ i. size_leaves l i + size_leaves r i) ∙ sym (length-append (leaves l) (leaves r))

take_whole : (n : ℕ) (ks : Kinds) → length ks ≡ n → take n ks ≡ ks
take_whole zero [] e = refl
take_whole zero (k ∷ ks) e = absurd (omega (arith, e))
take_whole (suc n) [] e = refl
take_whole (suc n) (k ∷ ks) e = ap (λ l. k ∷ l) (take_whole n ks (omega (arith, e)))

beside_none : (o : Option Tree) → beside o None ≡ o
beside_none None = refl
beside_none (Some t) = refl

-- the kept part of two trees beside each other
kept_beside : (on : Kind → Bool) (s t : Option Tree) (ks : Kinds) → length ks ≡ length (all_leaves s) + length (all_leaves t)
    → kept_of on (beside s t) ks ≡ beside (kept_of on s (take (length (all_leaves s)) ks)) (kept_of on t (drop (length (all_leaves s)) ks))
kept_beside on None t ks e = refl
kept_beside on (Some s) None ks e =
    ap (λ l. kept on s l) (sym (take_whole (length (leaves s)) ks (omega (arith, e)))) ∙ sym (beside_none (kept on s (take (length (leaves s)) ks)))
kept_beside on (Some s) (Some t) ks e = λ i. beside (kept on s (take (size_leaves s i) ks)) (kept on t (drop (size_leaves s i) ks))

side_append : (on : Kind → Bool) (ds es : List Text) (ks : Kinds) → side on (ds ++ es) ks ≡ side on ds (take (length ds) ks) ++ side on es (drop (length ds) ks)
side_append on [] es ks = refl
side_append on (d ∷ ds) es [] = ap (λ l. d ∷ l) (side_append on ds es [] ∙ (λ i. side on ds (take_nil (length ds) i) ++ side on es (drop_nil (length ds) i)))
  where
    take_nil : (n : ℕ) → ◌≡◌ {A = Kinds} (take n []) []
    take_nil zero = refl
    take_nil (suc n) = refl

    drop_nil : (n : ℕ) → ◌≡◌ {A = Kinds} (drop n []) []
    drop_nil zero = refl
    drop_nil (suc n) = refl
side_append on (d ∷ ds) es (k ∷ ks) = by (is_on on k) (side_append on ds es ks)
  where
    by : (z : Bool) → side on (ds ++ es) ks ≡ side on ds (take (length ds) ks) ++ side on es (drop (length ds) ks)
        → (if z then d ∷ side on (ds ++ es) ks else side on (ds ++ es) ks)
        ≡ (if z then d ∷ side on ds (take (length ds) ks) else side on ds (take (length ds) ks)) ++ side on es (drop (length ds) ks)
    by true e = ap (λ l. d ∷ l) e
    by false e = e

side_all : (P : Text → Type 0) (on : Kind → Bool) (ds : List Text) (ks : Kinds) → AllByRecursion P ds → AllByRecursion P (side on ds ks)
side_all P on [] ks h = tt
side_all P on (d ∷ ds) [] h = (h.0, side_all P on ds [] h.1)
side_all P on (d ∷ ds) (k ∷ ks) h = by (is_on on k) (side_all P on ds ks h.1)
  where
    by : (z : Bool) → AllByRecursion P (side on ds ks) → AllByRecursion P (if z then d ∷ side on ds ks else side on ds ks)
    by true rest = (h.0, rest)
    by false rest = rest

not_true : (x : Bool) → not x ≡ true → x ≡ false
not_true true e = sym e
not_true false e = refl

bits : (p : Text → Bool) (ds : List Text) → AllByRecursion (λ d. p d ≡ true) (filter p ds)
bits p [] = tt
bits p (d ∷ ds) = by (p d) refl (bits p ds)
  where
    by : (z : Bool) → p d ≡ z → AllByRecursion (λ e. p e ≡ true) (filter p ds) → AllByRecursion (λ e. p e ≡ true) (if z then d ∷ filter p ds else filter p ds)
    by true e rest = (e, rest)
    by false e rest = rest

taken : (ds : List Text) (ks : Kinds) → length ds ≤ length ks → length (take (length ds) ks) ≡ length ds
taken ds ks h = length-take-le (length ds) ks h

low_bits : (i : ℕ) (ds : List Text) → AllByRecursion (λ d. not (bit i d) ≡ true) ds → AllBit i false ds
low_bits i [] h = tt
low_bits i (d ∷ ds) h = (not_true (bit i d) h.0, low_bits i ds h.1)

last_kept : (on : Kind → Bool) (d : Text) (k : Option Kind) → (if is_on on k then Some (Tip d) else None) ≡ divided 0 0 (if is_on on k then d ∷ [] else [])
unfolding divided
last_kept on d k = by (is_on on k)
  where
    by : (z : Bool) → (if z then Some (Tip d) else None) ≡ divided 0 0 (if z then d ∷ [] else [])
    by true = refl
    by false = refl

pub kept_divided : (on : Kind → Bool) (n i : ℕ) (w : ℕ → Bool) (ds : List Text) (ks : Kinds) → n + i ≡ 256 → AllHave i w ds → Rises ds → length ks ≡ length ds
    → kept_of on (divided n i ds) ks ≡ divided n i (side on ds ks)
unfolding divided
kept_divided on zero i w [] ks full h r e = refl
kept_divided on zero i w (d ∷ []) [] full h r e = absurd (omega (arith, e))
kept_divided on zero i w (d ∷ []) (k ∷ ks) full h r e = last_kept on d k
kept_divided on zero i w (d ∷ c ∷ ds) ks full h r e = absurd (omega (arith, one_at_most i 0 w (d ∷ c ∷ ds) (omega (arith, full)) h r))
kept_divided on (suc n) i w ds ks full h r e =
    kept_beside on (divided n (suc i) low) (divided n (suc i) high) ks (omega (arith, e, total, ap length first, ap length second))
    ∙ (λ j. beside (kept_of on (divided n (suc i) low) (take (length (first j)) ks)) (kept_of on (divided n (suc i) high) (drop (length (first j)) ks)))
    ∙ (λ j. beside (kept_divided on n (suc i) (with_bit i false w) low (take (length low) ks) (omega (arith, full)) (zeros_have i w ds h) (rises_kept (λ d. not (bit i d)) ds r) (taken low ks total_low) j)
    (kept_divided on n (suc i) (with_bit i true w) high (drop (length low) ks) (omega (arith, full)) (ones_have i w ds h) (rises_kept (λ d. bit i d) ds r)
    (omega (arith, length-drop (length low) ks, total, e)) j))
    ∙ sym (parted n i (side on low (take (length low) ks)) (side on high (drop (length low) ks))
    (side_all (λ d. bit i d ≡ false) on low (take (length low) ks) (low_bits i low (bits (λ d. not (bit i d)) ds)))
    (side_all (λ d. bit i d ≡ true) on high (drop (length low) ks) (bits (λ d. bit i d) ds)))
    ∙ ap (divided (suc n) i) (sym (side_append on low high ks) ∙ ap (λ l. side on l ks) (halves_are i w ds h r))
  where
    low : List Text
    low = zeros i ds

    high : List Text
    high = ones i ds

    total_low : length low ≤ length ks
    total_low = omega (arith, e, sym (ap length (halves_are i w ds h r)) ∙ length-append low high)

    total : length ds ≡ length low + length high
    total = sym (ap length (halves_are i w ds h r)) ∙ length-append low high

    first : all_leaves (divided n (suc i) low) ≡ low
    first = leaves_from n (suc i) (with_bit i false w) low (omega (arith, full)) (zeros_have i w ds h) (rises_kept (λ d. not (bit i d)) ds r)

    second : all_leaves (divided n (suc i) high) ≡ high
    second = leaves_from n (suc i) (with_bit i true w) high (omega (arith, full)) (ones_have i w ds h) (rises_kept (λ d. bit i d) ds r)

pub made_roots : MadeHasBothRoots
unfolding tree_of
made_roots on ds ks set e =
    root_side on (divided 256 0 ds) ks
    ∙ ap tree_hash (kept_divided on 256 0 (λ j. false) ds ks (omega arith) (none_have (λ j. false) ds) (set_rises ds set) e)
