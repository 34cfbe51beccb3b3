-- What is accepted under the root of a set is so.
use Rattle.cadf_tree.proofs.Common.{◌≡◌, ◌∙◌, ◌+◌, ◌++◌, ℕ, Bool, true, false, List, [], ◌∷◌, Option, None, Some, length, drop, refl, ap, sym, subst, arith, inl, inr, ◌⊎◌, option_map, unwrap_or, nat_cmp, is_lt, slice_cmp, IsStrictlySortedBy, sha256, Text, Tree, hash, tree_hash, all_leaves, tree_of, root, root_text, root_hash, IsSet, Pruned, side_hash, side_root, read_all, items, leaves_of, is_earlier, is_later, number, hidden_leaves, are_equal, all_beside, rise, is_seen, has_changed, DoNotCollide, TreeHashes, IsHashedFor, SideHashes, AllSideHashes, IsHashedOf, IsHashedBy, HaveHashes, all_kinds, is_added, is_gone, those, AreRising, IsDifference, GrownFrom, GrownTo, EarlierIsHonest, LaterIsHonest, IsHashedForBoth, BothAreHonest, Root, Kind, Both, Added, Gone, Part, Leaf}
use Rattle.cadf_tree.proofs.Sorted.{leaves_are}
use Rattle.cadf_tree.proofs.Filling.{Cell, Block, One, cell_items, side_leaves, marked, those_marked, those_append, plain, AllOf, fill, none_some, not_none, all_determined}
use Rattle.cadf_tree.proofs.Rising.{rises, false_true}
use Rattle.cadf_tree.proofs.Judged.{IsAccepted, accepted, tree_of_parts, tree_items, AllLong, number_items, leaves_items, none_there, are_equal_swap, none_on}

-- ---- a set's digests rise

pub sorted_rising : (ds : List Text) → IsStrictlySortedBy (slice_cmp nat_cmp) ds → AreRising ds
unfolding IsStrictlySortedBy
sorted_rising [] h = tt
sorted_rising (d ∷ []) h = tt
sorted_rising (d ∷ e ∷ ds) h = (ap is_lt h.0.0, sorted_rising (e ∷ ds) h.1)

-- ---- leaves that changed

pub added_is : (cs : List Cell) → those is_added (marked cs) ≡ leaves_of Added (cell_items cs)
added_is [] = refl
added_is (Block h b bs ∷ cs) = those_append is_added (plain bs) (marked cs) ∙ (λ i. none_of bs i ++ added_is cs i)
  where
    none_of : (ds : List Text) → those is_added (plain ds) ≡ []
    none_of [] = refl
    none_of (d ∷ ds) = none_of ds
added_is (One Both d ∷ cs) = added_is cs
added_is (One Added d ∷ cs) = ap (λ l. d ∷ l) (added_is cs)
added_is (One Gone d ∷ cs) = added_is cs

pub gone_is : (cs : List Cell) → those is_gone (marked cs) ≡ leaves_of Gone (cell_items cs)
gone_is [] = refl
gone_is (Block h b bs ∷ cs) = those_append is_gone (plain bs) (marked cs) ∙ (λ i. none_of bs i ++ gone_is cs i)
  where
    none_of : (ds : List Text) → those is_gone (plain ds) ≡ []
    none_of [] = refl
    none_of (d ∷ ds) = none_of ds
gone_is (One Both d ∷ cs) = gone_is cs
gone_is (One Added d ∷ cs) = gone_is cs
gone_is (One Gone d ∷ cs) = ap (λ l. d ∷ l) (gone_is cs)

-- ---- both sides of a pruned tree

-- what changed isn't on the one side
pub added_off : (k : Kind) (d : Text) → is_earlier k ≡ false → has_changed (Leaf k d) ≡ true
added_off Both d e = sym e
added_off Added d e = refl
added_off Gone d e = refl

gone_off : (k : Kind) (d : Text) → is_later k ≡ false → has_changed (Leaf k d) ≡ true
gone_off Both d e = sym e
gone_off Added d e = refl
gone_off Gone d e = refl

module _ (Q : Text → Type 0) (free : DoNotCollide Q) (on off : Kind → Bool) where
  -- the cells of a pruned tree or none
  pub record IsFound (t : Option Pruned) (o : Option Tree) : Type 0 where
    pub cells : List Cell
    pub other : Option Tree
    pub items : cell_items cells ≡ tree_items t
    pub on_is : side_leaves on cells ≡ all_leaves o
    pub off_is : side_leaves off cells ≡ all_leaves other
    pub hash : tree_hash other ≡ side_root off t
    pub texts : ((x : Text) → AllSideHashes off t x → Q x) → AllOf Q free other

  hash_or : (o : Option Tree) (u : Option Text) → option_map hash o ≡ u → tree_hash o ≡ unwrap_or u (sha256 [])
  hash_or None u e = ap (λ v. unwrap_or v (sha256 [])) e
  hash_or (Some t) u e = ap (λ v. unwrap_or v (sha256 [])) e

  found_by : (p : Pruned) (o : Option Tree) → AllLong (Some p) → ((x : Text) → SideHashes on p x → Q x) → AllOf Q free o → side_hash on p ≡ option_map hash o
      → IsFound (Some p) o
  found_by p o long q all e =
      let x = fill Q free on off p o long q all e in
      record {
        cells = x.cells;
        other = x.other;
        items = x.items;
        on_is = x.on_is;
        off_is = x.off_is;
        hash = hash_or x.other (side_hash off p) x.hash;
        texts = x.texts;
      }

  side_is : (u : Option Text) (o : Option Tree) → Q [] → AllOf Q free o → (all_leaves o ≡ [] → u ≡ None) → unwrap_or u (sha256 []) ≡ tree_hash o → u ≡ option_map hash o
  side_is None None q all f e = refl
  side_is None (Some t) q all f e = absurd (not_none Q free t q all e)
  side_is (Some h) None q all f e = absurd (none_some h (sym (f refl)))
  side_is (Some h) (Some t) q all f e = ap Some e

  pub found : (t : Option Pruned) (o : Option Tree) → Q [] → AllLong t → ((x : Text) → AllSideHashes on t x → Q x) → AllOf Q free o
      → ((p : Pruned) → t ≡ Some p → all_leaves o ≡ [] → side_hash on p ≡ None) → side_root on t ≡ tree_hash o → IsFound t o
  found None None q long texts all f e = record { cells = []; other = None; items = refl; on_is = refl; off_is = refl; hash = refl; texts = λ r. tt }
  found None (Some t) q long texts all f e = absurd (not_none Q free t q all e)
  found (Some p) o q long texts all f e = found_by p o long texts all (side_is (side_hash on p) o q all (f p refl) e)

-- ---- one root of a set

pub tree_texts : (Q : Text → Type 0) (free : DoNotCollide Q) (o : Option Tree) → ((x : Text) → TreeHashes o x → Q x) → AllOf Q free o
tree_texts Q free None h = tt
tree_texts Q free (Some t) h = h

-- what stands after the number
pub root_tree : (n m : ℕ) (g h : Text) → root_text n g ≡ root_text m h → g ≡ h
root_tree n m g h e = ap (drop 9) e

-- the parts under two roots of which one is that of a set
module _ (Q : Text → Type 0) (free : DoNotCollide Q) (on off : Kind → Bool) (ds : List Text) (ps : List Part) (t : Option Pruned) where
  pub root_found : Q [] → IsSet ds → read_all ps ≡ Some t → HaveHashes ps → ((x : Text) → IsHashedFor ds x → Q x) → ((x : Text) → IsHashedBy on (length ds) ps x → Q x)
      → (length ds ≡ 0 → (number None ps ≡ 0) × ((k : Kind) → on k ≡ true → number (Some k) ps ≡ 0))
      → root_hash (length ds) (side_root on t) ≡ (root ds).hash → IsFound Q free on off t (tree_of ds)
  root_found q set read long honest texts none same =
      found Q free on off t (tree_of ds) q (parts.1 long) (λ x m. texts x (there x (inr (inr m)))) (tree_texts Q free (tree_of ds) (λ x m. honest x (inr m)))
      (λ p e empty. none_by p e (ap length (sym (leaves_are ds set) ∙ empty)))
      (root_tree (length ds) (length ds) (side_root on t) (tree_hash (tree_of ds))
      (free _ _ (texts _ (there _ (inr (inl refl)))) (honest _ (inl refl)) same))
    where
      parts : (items ps ≡ tree_items t) × (HaveHashes ps → AllLong t)
      parts = tree_of_parts ps t read

      there : (x : Text) → (x ≡ []) ⊎ ((x ≡ root_text (length ds) (side_root on t)) ⊎ AllSideHashes on t x) → IsHashedBy on (length ds) ps x
      there x m = subst (λ r. IsHashedOf on (length ds) r x) (sym read) m

      none_by : (p : Pruned) → t ≡ Some p → length ds ≡ 0 → side_hash on p ≡ None
      none_by p e empty =
          let zero = none empty in
          let same_items = parts.0 ∙ ap tree_items e in
          none_on on p (ap (number None) (sym same_items) ∙ sym (number_items None ps) ∙ zero.0)
          (λ k is. ap (number (Some k)) (sym same_items) ∙ sym (number_items (Some k) ps) ∙ zero.1 k is)

-- the leaves that are shown differ as the parts say
module _ (Q : Text → Type 0) (free : DoNotCollide Q) (on off : Kind → Bool) (ds : List Text) (ps : List Part) (t : Option Pruned) (x : IsFound Q free on off t (tree_of ds)) where
  pub its_items : items ps ≡ tree_items t → items ps ≡ cell_items x.cells
  its_items e = e ∙ sym x.items

  pub all_rise : ((k : Kind) (d : Text) → on k ≡ false → has_changed (Leaf k d) ≡ true) → items ps ≡ tree_items t → IsSet ds
      → all_beside rise (items ps) ≡ true → all_beside is_seen (items ps) ≡ true → AreRising (those all_kinds (marked x.cells))
  all_rise changed e set r s =
      subst AreRising (sym (those_marked all_kinds x.cells refl))
      (rises on changed x.cells (ap (all_beside rise) (sym (its_items e)) ∙ r) (ap (all_beside is_seen) (sym (its_items e)) ∙ s)
      (subst AreRising (sym (x.on_is ∙ leaves_are ds set)) (sorted_rising ds set.rising)))

  pub its_added : items ps ≡ tree_items t → those is_added (marked x.cells) ≡ leaves_of Added ps
  its_added e = added_is x.cells ∙ ap (leaves_of Added) (sym (its_items e)) ∙ sym (leaves_items Added ps)

  pub its_gone : items ps ≡ tree_items t → those is_gone (marked x.cells) ≡ leaves_of Gone ps
  its_gone e = gone_is x.cells ∙ ap (leaves_of Gone) (sym (its_items e)) ∙ sym (leaves_items Gone ps)

none_earlier : (n : ℕ) (b : Root) (ps : List Part) → n ≡ 0 → are_equal (hidden_leaves n (number (Some Both) ps + number (Some Gone) ps) (number None ps))
    (hidden_leaves b.count (number (Some Both) ps + number (Some Added) ps) (number None ps)) ≡ true
    → (number None ps ≡ 0) × ((k : Kind) → is_earlier k ≡ true → number (Some k) ps ≡ 0)
none_earlier n b ps empty h = (none.1, by)
  where
    none : (number (Some Both) ps + number (Some Gone) ps ≡ 0) × (number None ps ≡ 0)
    none = none_there _ _ (hidden_leaves b.count (number (Some Both) ps + number (Some Added) ps) (number None ps))
        (subst (λ m. are_equal (hidden_leaves m (number (Some Both) ps + number (Some Gone) ps) (number None ps))
        (hidden_leaves b.count (number (Some Both) ps + number (Some Added) ps) (number None ps)) ≡ true) empty h)

    by : (k : Kind) → is_earlier k ≡ true → number (Some k) ps ≡ 0
    by Both e = omega (arith, none.0)
    by Added e = absurd (false_true e)
    by Gone e = omega (arith, none.0)

pub none_later : (a : Root) (n : ℕ) (ps : List Part) → n ≡ 0 → are_equal (hidden_leaves a.count (number (Some Both) ps + number (Some Gone) ps) (number None ps))
    (hidden_leaves n (number (Some Both) ps + number (Some Added) ps) (number None ps)) ≡ true
    → (number None ps ≡ 0) × ((k : Kind) → is_later k ≡ true → number (Some k) ps ≡ 0)
none_later a n ps empty h = (none.1, by)
  where
    left : Option ℕ
    left = hidden_leaves a.count (number (Some Both) ps + number (Some Gone) ps) (number None ps)

    swapped : are_equal (hidden_leaves n (number (Some Both) ps + number (Some Added) ps) (number None ps)) left ≡ true
    swapped = are_equal_swap left (hidden_leaves n (number (Some Both) ps + number (Some Added) ps) (number None ps)) h

    none : (number (Some Both) ps + number (Some Added) ps ≡ 0) × (number None ps ≡ 0)
    none = none_there _ _ left (subst (λ m. are_equal (hidden_leaves m (number (Some Both) ps + number (Some Added) ps) (number None ps)) left ≡ true) empty swapped)

    by : (k : Kind) → is_later k ≡ true → number (Some k) ps ≡ 0
    by Both e = omega (arith, none.0)
    by Added e = omega (arith, none.0)
    by Gone e = absurd (false_true e)

-- ---- the laws

module _ (Q : Text → Type 0) (free : DoNotCollide Q) (old : List Text) (b : Root) (ps : List Part) where
  empty_text : IsAccepted (root old) b ps → ((x : Text) → IsHashedBy is_earlier (length old) ps x → Q x) → Q []
  empty_text ok texts = texts [] (subst (λ r. IsHashedOf is_earlier (length old) r []) (sym ok.read) (inl refl))

  pub earlier_found : IsSet old → HaveHashes ps → ((x : Text) → IsHashedFor old x → Q x) → ((x : Text) → IsHashedBy is_earlier (length old) ps x → Q x)
      → (ok : IsAccepted (root old) b ps) → IsFound Q free is_earlier is_later ok.tree (tree_of old)
  earlier_found set long honest texts ok =
      root_found Q free is_earlier is_later old ps ok.tree (empty_text ok texts) set ok.read long honest texts (λ e. none_earlier (length old) b ps e ok.counts) ok.earlier

  earlier_difference : IsSet old → (ok : IsAccepted (root old) b ps) → (x : IsFound Q free is_earlier is_later ok.tree (tree_of old))
      → IsDifference old (all_leaves x.other) (leaves_of Added ps) (leaves_of Gone ps)
  earlier_difference set ok x =
      let e = (tree_of_parts ps ok.tree ok.read).0 in
      record {
        all = marked x.cells;
        rising = all_rise Q free is_earlier is_later old ps ok.tree x added_off e set ok.rise ok.seen;
        old_is = those_marked is_earlier x.cells refl ∙ x.on_is ∙ leaves_are old set;
        new_is = those_marked is_later x.cells refl ∙ x.off_is;
        added_is = its_added Q free is_earlier is_later old ps ok.tree x e;
        gone_is = its_gone Q free is_earlier is_later old ps ok.tree x e;
      }

  earlier_by : IsSet old → HaveHashes ps → ((x : Text) → IsHashedFor old x → Q x) → ((x : Text) → IsHashedBy is_earlier (length old) ps x → Q x)
      → IsAccepted (root old) b ps → GrownFrom old b ps
  earlier_by set long honest texts ok =
      let x = earlier_found set long honest texts ok in
      record { later = x.other; is = ap (root_hash b.count) x.hash ∙ ok.later; difference = earlier_difference set ok x }

pub earlier : EarlierIsHonest
earlier old b ps g set long free h =
    earlier_by (λ x. IsHashedFor old x ⊎ IsHashedBy is_earlier (length old) ps x) free old b ps set long (λ x m. inl m) (λ x m. inr m) (accepted (root old) b ps g h)

module _ (Q : Text → Type 0) (free : DoNotCollide Q) (a : Root) (new : List Text) (ps : List Part) where
  later_by : IsSet new → HaveHashes ps → ((x : Text) → IsHashedFor new x → Q x) → ((x : Text) → IsHashedBy is_later (length new) ps x → Q x)
      → IsAccepted a (root new) ps → GrownTo a new ps
  later_by set long honest texts ok =
      let q = texts [] (subst (λ r. IsHashedOf is_later (length new) r []) (sym ok.read) (inl refl)) in
      let x = root_found Q free is_later is_earlier new ps ok.tree q set ok.read long honest texts (λ e. none_later a (length new) ps e ok.counts) ok.later in
      let e = (tree_of_parts ps ok.tree ok.read).0 in
      record {
        earlier = x.other;
        is = ap (root_hash a.count) x.hash ∙ ok.earlier;
        difference = record {
          all = marked x.cells;
          rising = all_rise Q free is_later is_earlier new ps ok.tree x gone_off e set ok.rise ok.seen;
          old_is = those_marked is_earlier x.cells refl ∙ x.off_is;
          new_is = those_marked is_later x.cells refl ∙ x.on_is ∙ leaves_are new set;
          added_is = its_added Q free is_later is_earlier new ps ok.tree x e;
          gone_is = its_gone Q free is_later is_earlier new ps ok.tree x e;
        };
      }

pub later : LaterIsHonest
later a new ps g set long free h =
    later_by (λ x. IsHashedFor new x ⊎ IsHashedBy is_later (length new) ps x) free a new ps set long (λ x m. inl m) (λ x m. inr m) (accepted a (root new) ps g h)

pub both : BothAreHonest
both old new ps g set set_too long free h =
    let Q : Text → Type 0 = IsHashedForBoth old new ps in
    let ok = accepted (root old) (root new) ps g h in
    let x = earlier_found Q free old (root new) ps set long (λ y m. inl (inl m)) (λ y m. inl (inr m)) ok in
    let there : (y : Text) → IsHashedOf is_later (length new) (Some ok.tree) y → IsHashedForBoth old new ps y =
    λ y m. inr (inr (subst (λ r. IsHashedOf is_later (length new) r y) (sym ok.read) m)) in
    let same : x.other ≡ tree_of new = all_determined Q free x.other (tree_of new) (there [] (inl refl)) (x.texts (λ y m. there y (inr (inr m))))
    (tree_texts Q free (tree_of new) (λ y m. inr (inl (inr m))))
    (x.hash ∙ root_tree (length new) (length new) (side_root is_later ok.tree) (tree_hash (tree_of new))
    (free _ _ (there _ (inr (inl refl))) (inr (inl (inl refl))) ok.later)) in
    subst (λ l. IsDifference old l (leaves_of Added ps) (leaves_of Gone ps)) (ap all_leaves same ∙ leaves_are new set_too)
    (earlier_difference Q free old (root new) ps set ok x)
