-- A pruned tree with the hash of a tree shows leaves of it, and its hashes are those of parts of it.
use Rattle.cadf_tree.proofs.Common.{◌≡◌, ◌∙◌, ◌++◌, ℕ, Bool, true, false, List, [], ◌∷◌, Option, None, Some, length, take, drop, refl, ap, sym, subst, append_assoc, append-nil, inl, inr, option_map, if◌then◌else◌, take_at, append_cancel_left, sha256, length-sha256, Text, Tree, Tip, Branch, leaf_text, node_text, leaf_hash, node_hash, hash, leaves, tree_hash, all_leaves, beside, Pruned, Hidden, Shown, Fork, joined, side_hash, DoNotCollide, Hashes, JoinedHashes, SideHashes, Marked, those, Kind, Both, Part, Hash, Leaf}
use Rattle.cadf_tree.proofs.OnePass.{beside_leaves}

-- ---- hashes

pub hash_long : (t : Tree) → length (hash t) ≡ 32
hash_long (Tip d) = length-sha256 (leaf_text d)
hash_long (Branch l r) = length-sha256 (node_text (hash l) (hash r))

halves_of : (a b c d : Text) → length a ≡ 32 → length c ≡ 32 → node_text a b ≡ node_text c d → (a ≡ c) × (b ≡ d)
halves_of a b c d m n e =
    let same : a ++ b ≡ c ++ d = ap (drop 1) e in
    let first : a ≡ c = sym (take_at a b 32 m) ∙ ap (take 32) same ∙ take_at c d 32 n in
    (first, append_cancel_left c b d (ap (λ x. x ++ b) (sym first) ∙ same))

pub apart : (d a b : Text) → leaf_text d ≡ node_text a b → ⊥
apart d a b e = absurd (cc)

filled : (x : ℕ) (d : Text) → [] ≡ x ∷ d → ⊥
filled x d e = absurd (cc)

pub same_some : (x y : Text) → Some x ≡ Some y → x ≡ y
same_some x y e = cc

pub none_some : (x : Text) → None ≡ Some x → ⊥
none_some x e = absurd (cc)

pub beside_hash : (s t : Option Tree) → joined (option_map hash s) (option_map hash t) ≡ option_map hash (beside s t)
beside_hash None t = refl
beside_hash (Some s) None = refl
beside_hash (Some s) (Some t) = refl

abbrev pub AreLong : Pruned → Type 0
AreLong (Hidden h) = length h ≡ 32
AreLong (Shown k d) = Unit {0}
AreLong (Fork l r) = AreLong l × AreLong r

-- ---- cells

-- what stands at an item: the leaves of a part, of which there is one at least, or a leaf
pub data Cell : Type 0 where
  Block : Text → Text → List Text → Cell
  One : Kind → Text → Cell

abbrev pub cell_item : Cell → Part
cell_item (Block h b bs) = Hash h
cell_item (One k d) = Leaf k d

abbrev pub cell_items : List Cell → List Part
cell_items [] = []
cell_items (c ∷ cs) = cell_item c ∷ cell_items cs

abbrev pub shown_items : Pruned → List Part
shown_items (Hidden h) = Hash h ∷ []
shown_items (Shown k d) = Leaf k d ∷ []
shown_items (Fork l r) = shown_items l ++ shown_items r

abbrev pub its_side : (Kind → Bool) → Cell → List Text
its_side on (Block h b bs) = b ∷ bs
its_side on (One k d) = if on k then d ∷ [] else []

abbrev pub side_leaves : (Kind → Bool) → List Cell → List Text
side_leaves on [] = []
side_leaves on (c ∷ cs) = its_side on c ++ side_leaves on cs

pub items_append : (cs ds : List Cell) → cell_items (cs ++ ds) ≡ cell_items cs ++ cell_items ds
items_append [] ds = refl
items_append (c ∷ cs) ds = ap (λ l. cell_item c ∷ l) (items_append cs ds)

pub side_append : (on : Kind → Bool) (cs ds : List Cell) → side_leaves on (cs ++ ds) ≡ side_leaves on cs ++ side_leaves on ds
side_append on [] ds = refl
side_append on (c ∷ cs) ds = ap (λ l. its_side on c ++ l) (side_append on cs ds) ∙ sym (append_assoc (its_side on c) (side_leaves on cs) (side_leaves on ds))

-- the leaves of both trees
abbrev pub plain : List Text → List Marked
plain [] = []
plain (d ∷ ds) = (Both, d) ∷ plain ds

abbrev pub its_marked : Cell → List Marked
its_marked (Block h b bs) = plain (b ∷ bs)
its_marked (One k d) = (k, d) ∷ []

abbrev pub marked : List Cell → List Marked
marked [] = []
marked (c ∷ cs) = its_marked c ++ marked cs

pub those_append : (on : Kind → Bool) (xs ys : List Marked) → those on (xs ++ ys) ≡ those on xs ++ those on ys
those_append on [] ys = refl
those_append on (x ∷ xs) ys =
    ap (λ l. (if on x.0 then x.1 ∷ [] else []) ++ l) (those_append on xs ys) ∙ sym (append_assoc (if on x.0 then x.1 ∷ [] else []) (those on xs) (those on ys))

those_plain : (on : Kind → Bool) (ds : List Text) → on Both ≡ true → those on (plain ds) ≡ ds
those_plain on [] e = refl
those_plain on (d ∷ ds) e = λ i. (if e i then d ∷ [] else []) ++ those_plain on ds e i

pub those_marked : (on : Kind → Bool) (cs : List Cell) → on Both ≡ true → those on (marked cs) ≡ side_leaves on cs
those_marked on [] e = refl
those_marked on (Block h b bs ∷ cs) e =
    those_append on (plain (b ∷ bs)) (marked cs) ∙ (λ i. those_plain on (b ∷ bs) e i ++ those_marked on cs e i)
those_marked on (One k d ∷ cs) e =
    those_append on ((k, d) ∷ []) (marked cs) ∙ (λ i. append-nil (if on k then d ∷ [] else []) i ++ those_marked on cs e i)

-- ---- where nothing collides

pub record IsSome (ds : List Text) : Type 0 where
  pub head : Text
  pub tail : List Text
  pub is : ds ≡ head ∷ tail

pub some_leaf : (t : Tree) → IsSome (leaves t)
some_leaf (Tip d) = record { head = d; tail = []; is = refl }
some_leaf (Branch l r) =
    let left = some_leaf l in
    record { head = left.head; tail = left.tail ++ leaves r; is = ap (λ x. x ++ leaves r) left.is }

joined_long : (a b : Option Text) → ((x : Text) → a ≡ Some x → length x ≡ 32) → ((x : Text) → b ≡ Some x → length x ≡ 32) → (x : Text) → joined a b ≡ Some x → length x ≡ 32
joined_long None b f g x e = g x e
joined_long (Some a) None f g x e = f x e
joined_long (Some a) (Some b) f g x e = ap length (sym (same_some (node_hash a b) x e)) ∙ length-sha256 (node_text a b)

leaf_long : (z : Bool) (d x : Text) → (if z then Some (leaf_hash d) else None) ≡ Some x → length x ≡ 32
leaf_long true d x e = ap length (sym (same_some (leaf_hash d) x e)) ∙ length-sha256 (leaf_text d)
leaf_long false d x e = absurd (none_some x e)

pub side_long : (on : Kind → Bool) (p : Pruned) → AreLong p → (x : Text) → side_hash on p ≡ Some x → length x ≡ 32
side_long on (Hidden h) long x e = ap length (sym (same_some h x e)) ∙ long
side_long on (Shown k d) long x e = leaf_long (on k) d x e
side_long on (Fork l r) long x e = joined_long (side_hash on l) (side_hash on r) (side_long on l long.0) (side_long on r long.1) x e

abbrev pub leaf_if : Bool → Text → Option Tree
leaf_if z d = if z then Some (Tip d) else None

pub hash_if : (z : Bool) (d : Text) → option_map hash (leaf_if z d) ≡ (if z then Some (leaf_hash d) else None)
hash_if true d = refl
hash_if false d = refl

leaves_if : (z : Bool) (d : Text) → (if z then d ∷ [] else []) ++ [] ≡ all_leaves (leaf_if z d)
leaves_if true d = refl
leaves_if false d = refl

module _ (Q : Text → Type 0) (free : DoNotCollide Q) where
  abbrev pub All : Tree → Type 0
  All t = (x : Text) → Hashes t x → Q x

  abbrev pub AllOf : Option Tree → Type 0
  AllOf None = Unit {0}
  AllOf (Some t) = All t

  pub record AreHalves (u v : Text) (t : Tree) : Type 0 where
    pub left : Tree
    pub right : Tree
    pub is : t ≡ Branch left right
    pub low : u ≡ hash left
    pub high : v ≡ hash right
    pub all_left : All left
    pub all_right : All right

  pub halves : (u v : Text) (t : Tree) → Q (node_text u v) → length u ≡ 32 → All t → node_hash u v ≡ hash t → AreHalves u v t
  halves u v (Tip d) q long all e = absurd (apart d u v (sym (free (node_text u v) (leaf_text d) q (all (leaf_text d) refl) e)))
  halves u v (Branch a b) q long all e =
      let both = halves_of u v (hash a) (hash b) long (hash_long a)
      (free (node_text u v) (node_text (hash a) (hash b)) q (all (node_text (hash a) (hash b)) (inl refl)) e) in
      record { left = a; right = b; is = refl; low = both.0; high = both.1; all_left = λ x m. all x (inr (inl m)); all_right = λ x m. all x (inr (inr m)) }

  -- a tree or none of which these are the hashes of both halves
  record IsSplit (u v : Option Text) (o : Option Tree) : Type 0 where
    left : Option Tree
    right : Option Tree
    low : u ≡ option_map hash left
    high : v ≡ option_map hash right
    leaves : all_leaves left ++ all_leaves right ≡ all_leaves o
    all_left : AllOf left
    all_right : AllOf right

  split : (u v : Option Text) (o : Option Tree) → ((x : Text) → JoinedHashes u v x → Q x) → ((x : Text) → u ≡ Some x → length x ≡ 32) → AllOf o
      → joined u v ≡ option_map hash o → IsSplit u v o
  split None v o q long all e = record { left = None; right = o; low = refl; high = e; leaves = refl; all_left = tt; all_right = all }
  split (Some u) None o q long all e =
      record { left = o; right = None; low = e; high = refl; leaves = append-nil (all_leaves o); all_left = all; all_right = tt }
  split (Some u) (Some v) None q long all e = absurd (none_some (node_hash u v) (sym e))
  split (Some u) (Some v) (Some t) q long all e =
      let h = halves u v t (q (node_text u v) refl) (long u refl) all (same_some (node_hash u v) (hash t) e) in
      record {
        left = Some h.left;
        right = Some h.right;
        low = ap Some h.low;
        high = ap Some h.high;
        leaves = ap leaves (sym h.is);
        all_left = h.all_left;
        all_right = h.all_right;
      }

  is_leaf : (z : Bool) (d : Text) (o : Option Tree) → Q (leaf_text d) → AllOf o → (if z then Some (leaf_hash d) else None) ≡ option_map hash o
      → (if z then d ∷ [] else []) ++ [] ≡ all_leaves o
  is_leaf true d None q all e = absurd (none_some (leaf_hash d) (sym e))
  is_leaf true d (Some (Tip c)) q all e =
      ap (λ x. x ∷ []) (ap (drop 1) (free (leaf_text d) (leaf_text c) q (all (leaf_text c) refl) (same_some (leaf_hash d) (leaf_hash c) e)))
  is_leaf true d (Some (Branch l r)) q all e =
      absurd (apart d (hash l) (hash r) (free (leaf_text d) (node_text (hash l) (hash r)) q (all (node_text (hash l) (hash r)) (inl refl))
      (same_some (leaf_hash d) (node_hash (hash l) (hash r)) e)))
  is_leaf false d None q all e = refl
  is_leaf false d (Some t) q all e = absurd (none_some (hash t) e)

  all_leaf : (z : Bool) (d : Text) → Q (leaf_text d) → AllOf (leaf_if z d)
  all_leaf true d q = λ x m. subst Q (sym m) q
  all_leaf false d q = tt

  all_branch : (s t : Tree) → Q (node_text (hash s) (hash t)) → All s → All t → (x : Text) → Hashes (Branch s t) x → Q x
  all_branch s t q f g x (inl m) = subst Q (sym m) q
  all_branch s t q f g x (inr (inl m)) = f x m
  all_branch s t q f g x (inr (inr m)) = g x m

  all_beside : (s t : Option Tree) → ((x : Text) → JoinedHashes (option_map hash s) (option_map hash t) x → Q x) → AllOf s → AllOf t → AllOf (beside s t)
  all_beside None t q f g = g
  all_beside (Some s) None q f g = f
  all_beside (Some s) (Some t) q f g = all_branch s t (q (node_text (hash s) (hash t)) refl) f g

  -- the cells of a pruned tree by the tree that one side is, and the tree that the other side is
  pub record IsFilled (on off : Kind → Bool) (p : Pruned) (o : Option Tree) : Type 0 where
    pub cells : List Cell
    pub other : Option Tree
    pub items : cell_items cells ≡ shown_items p
    pub on_is : side_leaves on cells ≡ all_leaves o
    pub off_is : side_leaves off cells ≡ all_leaves other
    pub hash : option_map hash other ≡ side_hash off p
    pub texts : ((x : Text) → SideHashes off p x → Q x) → AllOf other

  fill_fork : (on off : Kind → Bool) (l r : Pruned) (a b o : Option Tree) → all_leaves a ++ all_leaves b ≡ all_leaves o → IsFilled on off l a → IsFilled on off r b
      → IsFilled on off (Fork l r) o
  fill_fork on off l r a b o both x y = record {
    cells = x.cells ++ y.cells;
    other = beside x.other y.other;
    items = items_append x.cells y.cells ∙ (λ i. x.items i ++ y.items i);
    on_is = side_append on x.cells y.cells ∙ (λ i. x.on_is i ++ y.on_is i) ∙ both;
    off_is = side_append off x.cells y.cells ∙ (λ i. x.off_is i ++ y.off_is i) ∙ sym (beside_leaves x.other y.other);
    hash = sym (beside_hash x.other y.other) ∙ (λ i. joined (x.hash i) (y.hash i));
    texts = λ q. all_beside x.other y.other (λ z m. q z (inl (subst (λ (u : Option Text × Option Text). JoinedHashes u.0 u.1 z) (λ i. (x.hash i, y.hash i)) m)))
        (x.texts (λ z m. q z (inr (inl m)))) (y.texts (λ z m. q z (inr (inr m))));
  }

  pub fill : (on off : Kind → Bool) (p : Pruned) (o : Option Tree) → AreLong p → ((x : Text) → SideHashes on p x → Q x) → AllOf o
      → side_hash on p ≡ option_map hash o → IsFilled on off p o
  fill on off (Hidden h) None long q all e = absurd (none_some h (sym e))
  fill on off (Hidden h) (Some t) long q all e =
      let some = some_leaf t in
      record {
        cells = Block h some.head some.tail ∷ [];
        other = Some t;
        items = refl;
        on_is = append-nil (some.head ∷ some.tail) ∙ sym some.is;
        off_is = append-nil (some.head ∷ some.tail) ∙ sym some.is;
        hash = sym e;
        texts = λ q. all;
      }
  fill on off (Shown k d) o long q all e = record {
    cells = One k d ∷ [];
    other = leaf_if (off k) d;
    items = refl;
    on_is = is_leaf (on k) d o (q (leaf_text d) refl) all e;
    off_is = leaves_if (off k) d;
    hash = hash_if (off k) d;
    texts = λ r. all_leaf (off k) d (r (leaf_text d) refl);
  }
  fill on off (Fork l r) o long q all e =
      let s = split (side_hash on l) (side_hash on r) o (λ x m. q x (inl m)) (side_long on l long.0) all e in
      fill_fork on off l r s.left s.right o s.leaves
      (fill on off l s.left long.0 (λ x m. q x (inr (inl m))) s.all_left s.low)
      (fill on off r s.right long.1 (λ x m. q x (inr (inr m))) s.all_right s.high)

  -- ---- roots

  -- a tree is determined by its hash
  determined : (s t : Tree) → All s → All t → hash s ≡ hash t → s ≡ t
  determined (Tip d) (Tip e) a b is = ap Tip (ap (drop 1) (free (leaf_text d) (leaf_text e) (a (leaf_text d) refl) (b (leaf_text e) refl) is))
  determined (Tip d) (Branch l r) a b is =
      absurd (apart d (hash l) (hash r) (free (leaf_text d) (node_text (hash l) (hash r)) (a (leaf_text d) refl) (b (node_text (hash l) (hash r)) (inl refl)) is))
  determined (Branch l r) (Tip d) a b is =
      absurd (apart d (hash l) (hash r) (sym (free (node_text (hash l) (hash r)) (leaf_text d) (a (node_text (hash l) (hash r)) (inl refl)) (b (leaf_text d) refl) is)))
  determined (Branch l r) (Branch m s) a b is =
      let both = halves_of (hash l) (hash r) (hash m) (hash s) (hash_long l) (hash_long m)
      (free (node_text (hash l) (hash r)) (node_text (hash m) (hash s)) (a (node_text (hash l) (hash r)) (inl refl)) (b (node_text (hash m) (hash s)) (inl refl)) is) in
      let left = determined l m (λ x n. a x (inr (inl n))) (λ x n. b x (inr (inl n))) both.0 in
      let right = determined r s (λ x n. a x (inr (inr n))) (λ x n. b x (inr (inr n))) both.1 in
      λ i. Branch (left i) (right i)

  pub not_none : (t : Tree) → Q [] → All t → sha256 [] ≡ hash t → ⊥
  not_none (Tip d) q a is = filled 0 d (free [] (leaf_text d) q (a (leaf_text d) refl) is)
  not_none (Branch l r) q a is = filled 1 (hash l ++ hash r) (free [] (node_text (hash l) (hash r)) q (a (node_text (hash l) (hash r)) (inl refl)) is)

  pub all_determined : (s t : Option Tree) → Q [] → AllOf s → AllOf t → tree_hash s ≡ tree_hash t → s ≡ t
  all_determined None None q a b is = refl
  all_determined None (Some t) q a b is = absurd (not_none t q b is)
  all_determined (Some s) None q a b is = absurd (not_none s q a (sym is))
  all_determined (Some s) (Some t) q a b is = ap Some (determined s t a b is)
