-- If one side's leaves rise and what changed has its neighbours shown, all leaves rise.
use Rattle.cadf_tree.proofs.Common.{◌≡◌, ◌++◌, Bool, true, false, List, [], ◌∷◌, refl, sym, subst, ◌&&◌, if◌then◌else◌, Text, less, all_beside, rise, is_seen, has_changed, AreRising, all_kinds, Kind, Both, Added, Gone, Part, Hash, Leaf}
use Rattle.cadf_tree.proofs.Filling.{Cell, Block, One, cell_items, side_leaves}

pub and_left : (a b : Bool) → (a && b) ≡ true → a ≡ true
and_left true b h = refl
and_left false b h = h

pub and_right : (a b : Bool) → (a && b) ≡ true → b ≡ true
and_right true b h = h
and_right false b h = absurd (cc)

pub false_true : false ≡ true → ⊥
false_true e = absurd (cc)

gap_before : (h : Text) (k : Kind) (d : Text) → has_changed (Leaf k d) ≡ true → is_seen (Hash h) (Leaf k d) ≡ true → ⊥
gap_before h Both d c e = false_true c
gap_before h Added d c e = false_true e
gap_before h Gone d c e = false_true e

gap_after : (h : Text) (k : Kind) (d : Text) → has_changed (Leaf k d) ≡ true → is_seen (Leaf k d) (Hash h) ≡ true → ⊥
gap_after h Both d c e = false_true c
gap_after h Added d c e = false_true e
gap_after h Gone d c e = false_true e

rest_fits : (fit : Part → Part → Bool) (x : Part) (xs : List Part) → all_beside fit (x ∷ xs) ≡ true → all_beside fit xs ≡ true
rest_fits fit x [] h = refl
rest_fits fit x (y ∷ ys) h = and_right (fit x y) (all_beside fit (y ∷ ys)) h

pub rest_rising : (d : Text) (ds : List Text) → AreRising (d ∷ ds) → AreRising ds
rest_rising d [] h = tt
rest_rising d (e ∷ ds) h = h.1

-- what follows a block follows its last leaf
after_block : (b : Text) (bs us vs : List Text) → AreRising (b ∷ bs ++ us) → ((x : Text) → AreRising (x ∷ us) → AreRising (x ∷ vs)) → AreRising (b ∷ bs ++ vs)
after_block b [] us vs h f = f b h
after_block b (c ∷ bs) us vs h f = (h.0, after_block c bs us vs h.1 f)

module _ (on : Kind → Bool) (changed : (k : Kind) (d : Text) → on k ≡ false → has_changed (Leaf k d) ≡ true) where
  abbrev pub Rises : List Cell → Type 0
  Rises cs = all_beside rise (cell_items cs) ≡ true → all_beside is_seen (cell_items cs) ≡ true → AreRising (side_leaves on cs) → AreRising (side_leaves all_kinds cs)

  -- the leaf x, which is before those of cs, is beside them on this side too
  beside_gap : (h : Text) (cs : List Cell) → Rises cs → all_beside rise (Hash h ∷ cell_items cs) ≡ true → all_beside is_seen (Hash h ∷ cell_items cs) ≡ true
      → (x : Text) → AreRising (x ∷ side_leaves on cs) → AreRising (x ∷ side_leaves all_kinds cs)
  beside_gap h [] f r s x a = tt
  beside_gap h (Block g b bs ∷ cs) f r s x a =
      (a.0, f (rest_fits rise (Hash h) (Hash g ∷ cell_items cs) r) (rest_fits is_seen (Hash h) (Hash g ∷ cell_items cs) s) a.1)
  beside_gap h (One k d ∷ cs) f r s x a = by (on k) refl a
    where
      by : (z : Bool) → on k ≡ z → AreRising (x ∷ (if z then d ∷ [] else []) ++ side_leaves on cs) → AreRising (x ∷ d ∷ side_leaves all_kinds cs)
      by true e b = (
        b.0,
        f (rest_fits rise (Hash h) (Leaf k d ∷ cell_items cs) r) (rest_fits is_seen (Hash h) (Leaf k d ∷ cell_items cs) s)
            (subst (λ z. AreRising ((if z then d ∷ [] else []) ++ side_leaves on cs)) (sym e) b.1),
      )
      by false e b = absurd (gap_before h k d (changed k d e) (and_left (is_seen (Hash h) (Leaf k d)) (all_beside is_seen (Leaf k d ∷ cell_items cs)) s))

  beside_on : (k : Kind) (d : Text) (cs : List Cell) → Rises cs → all_beside rise (Leaf k d ∷ cell_items cs) ≡ true → all_beside is_seen (Leaf k d ∷ cell_items cs) ≡ true
      → AreRising (d ∷ side_leaves on cs) → AreRising (d ∷ side_leaves all_kinds cs)
  beside_on k d [] f r s a = tt
  beside_on k d (Block g b bs ∷ cs) f r s a =
      (a.0, f (rest_fits rise (Leaf k d) (Hash g ∷ cell_items cs) r) (rest_fits is_seen (Leaf k d) (Hash g ∷ cell_items cs) s) a.1)
  beside_on k d (One l e ∷ cs) f r s a = (
    and_left (less d e) (all_beside rise (Leaf l e ∷ cell_items cs)) r,
    f (rest_fits rise (Leaf k d) (Leaf l e ∷ cell_items cs) r) (rest_fits is_seen (Leaf k d) (Leaf l e ∷ cell_items cs) s)
        (rest_rising d (side_leaves on (One l e ∷ cs)) a),
  )

  beside_off : (k : Kind) (d : Text) (cs : List Cell) → has_changed (Leaf k d) ≡ true → Rises cs → all_beside rise (Leaf k d ∷ cell_items cs) ≡ true
      → all_beside is_seen (Leaf k d ∷ cell_items cs) ≡ true → AreRising (side_leaves on cs) → AreRising (d ∷ side_leaves all_kinds cs)
  beside_off k d [] c f r s a = tt
  beside_off k d (Block g b bs ∷ cs) c f r s a = absurd (gap_after g k d c (and_left (is_seen (Leaf k d) (Hash g)) (all_beside is_seen (Hash g ∷ cell_items cs)) s))
  beside_off k d (One l e ∷ cs) c f r s a = (
    and_left (less d e) (all_beside rise (Leaf l e ∷ cell_items cs)) r,
    f (rest_fits rise (Leaf k d) (Leaf l e ∷ cell_items cs) r) (rest_fits is_seen (Leaf k d) (Leaf l e ∷ cell_items cs) s) a,
  )

  pub rises : (cs : List Cell) → Rises cs
  rises [] r s a = tt
  rises (Block h b bs ∷ cs) r s a = after_block b bs (side_leaves on cs) (side_leaves all_kinds cs) a (beside_gap h cs (rises cs) r s)
  rises (One k d ∷ cs) r s a = by (rises cs) (on k) refl a
    where
      by : Rises cs → (z : Bool) → on k ≡ z → AreRising ((if z then d ∷ [] else []) ++ side_leaves on cs) → AreRising (d ∷ side_leaves all_kinds cs)
      by f true e b = beside_on k d cs f r s b
      by f false e b = beside_off k d cs (changed k d e) f r s b
