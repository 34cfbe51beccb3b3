-- A sketch with enough cells is decoded.
use Rattle.cadf_sketch.proofs.Common.{common_steps, ◌≡◌, ◌∙◌, ◌<◌, ◌*◌, ◌+◌, ◌++◌, ℕ, suc, Bool, true, false, rules, List, [], ◌∷◌, length, replicate, refl, ap, sym, subst, arith, inl, inr, length-append, ◌||◌, ◌&&◌, not, AllByRecursion, IsStrictlySortedBy, eq_by_cmp, is_eq, tied_itself, insert_key, length-replicate, true≢false, Listed, rising, sorted_keys, sorted_once, sorted_keys_are_sorted, listed_sorted, sorted_listed, listed-rising, rising-listed, rising_is_sorted, from_list-rising, any_listed, listed_any, text_total, text_same, or_cases, bool_cases, Text, text_cmp, IsWithin, IsDigest, InventoryModel, AreDigests, Digests, AreDigests-listed, each_digest, inventory_digest, LayoutModel, cell_at, is_lone, toggled, toggled_all, nothing, IsEnough, apart, flipped, Peels, none, more, differing, HasTooFewCells, cells_of, sketch_of, Cell}
use Rattle.cadf_join.specs.Sets as set
use Rattle.cadf_sketch.proofs.CellLemmas.{length-toggled_all}
use Rattle.cadf_sketch.proofs.FlipLemmas.{either, one, in_one, in_apart, by_members, told, apart_none, apart-insert, first_is_new, rest_sorted}
use Rattle.cadf_sketch.proofs.CancelledDigests.{AreWide, toggled_twice, wide-toggled_all, wide-nothing, toggled_all_push, toggled_all_insert, length-insert}

-- ---- sets

back_again : (a e : Bool) → (e ≡ true → a ≡ true) → (e || either a e) ≡ a
back_again a e h = grind (arith, common_steps)

-- a set that has d is the set without d, with d inserted
insert-apart : (s : Digests) (d : Text) → set.contains s d ≡ true → set.insert (apart s (one d)) d ≡ s
insert-apart s d there = by_members (set.insert (apart s (one d)) d) s (λ q.
    set.contains-insert text_total (apart s (one d)) d q
    ∙ ap (λ b. eq_by_cmp text_cmp q d || b) (in_apart s (one d) q ∙ ap (either (set.contains s q)) (in_one d q))
    ∙ back_again (set.contains s q) (eq_by_cmp text_cmp q d) (told s d q true there))

gone : (s : Digests) (d : Text) → set.contains s d ≡ true → set.contains (apart s (one d)) d ≡ false
gone s d there = in_apart s (one d) d ∙ (λ i. either (there i) ((in_one d d ∙ ap is_eq (tied_itself text_total d)) i))

with_one_more : (a t e : Bool) → (e ≡ true → t ≡ false) → either (either a t) e ≡ either a (e || t)
with_one_more a t e h = grind (arith, common_steps)

apart_more : (s : Digests) (d : Text) (ds : List Text) → set.contains (set.from_list {R = text_cmp} ds) d ≡ false
    → apart (apart s (set.from_list ds)) (one d) ≡ apart s (set.from_list (d ∷ ds))
apart_more s d ds new = by_members (apart (apart s (set.from_list ds)) (one d)) (apart s (set.from_list (d ∷ ds))) (λ q.
    let t : Bool = set.contains (set.from_list {R = text_cmp} ds) q in
    in_apart (apart s (set.from_list ds)) (one d) q ∙ (λ i. either (in_apart s (set.from_list ds) q i) (in_one d q i))
    ∙ with_one_more (set.contains s q) t (eq_by_cmp text_cmp q d) (told (set.from_list ds) d q false new)
    ∙ sym (in_apart s (set.from_list (d ∷ ds)) q ∙ ap (either (set.contains s q)) (set.contains-insert text_total (set.from_list ds) d q)))

AreDigests-apart : (s t : Digests) → AreDigests s → AreDigests t → AreDigests (apart s t)
AreDigests-apart s t f g q h = grind (arith, common_steps, in_apart, either)

-- ---- their cells

rising_of : (ks : List Text) → rising (set.from_list {R = text_cmp} ks) ≡ sorted_keys text_cmp ks
rising_of ks = sorted_once text_total (rising (set.from_list ks)) (sorted_keys text_cmp ks) (rising_is_sorted text_total text_same (set.from_list ks))
    (sorted_keys_are_sorted text_total text_same ks)
    (λ q l. listed_sorted text_total text_same ks q
    (listed_any text_total text_same ks q (sym (set.contains-from_list text_total ks q) ∙ listed-rising text_total text_same (set.from_list ks) q l)))
    (λ q l. rising-listed text_total text_same (set.from_list ks) q
    (set.contains-from_list text_total ks q ∙ any_listed text_total text_same ks q (sorted_listed text_total text_same ks q l)))

rising-insert : (s : Digests) (d : Text) → rising (set.insert s d) ≡ insert_key text_cmp (rising s) d
rising-insert s d =
    ap (λ (t : Digests). rising (set.insert t d)) (sym (from_list-rising text_total text_same s)) ∙ rising_of (d ∷ rising s)
    ∙ ap (λ (l : List Text). insert_key text_cmp l d) (sym (rising_of (rising s)) ∙ ap rising (from_list-rising text_total text_same s))

not_listed : (s : Digests) (d : Text) → set.contains s d ≡ false → Listed d (rising s) → ⊥
not_listed s d new l = true≢false (sym (listed-rising text_total text_same s d l) ∙ new)

cells_insert : (s : Digests) (d : Text) (layout : LayoutModel) → 0 < layout.size → set.contains s d ≡ false
    → cells_of (set.insert s d) layout ≡ toggled (cells_of s layout) d layout
unfolding cells_of
cells_insert s d layout some new = grind (arith, common_steps, rising-insert, toggled_all_insert, not_listed)

wide-cells_of : (s : Digests) (layout : LayoutModel) → 0 < layout.size → AreDigests s → AreWide (cells_of s layout)
unfolding cells_of
wide-cells_of s layout some are = grind (arith, common_steps, wide-toggled_all, wide-nothing, each_digest)

length-cells_of : (s : Digests) (layout : LayoutModel) → length (cells_of s layout) ≡ 3 * layout.size
unfolding cells_of
length-cells_of s layout = length-toggled_all (replicate (3 * layout.size) nothing) (rising s) layout ∙ length-replicate (3 * layout.size) nothing

-- a digest is added if the set lacks it, and removed if the set has it
cells_turned : (s : Digests) (d : Text) (layout : LayoutModel) → 0 < layout.size → AreDigests s → IsDigest d
    → toggled (cells_of s layout) d layout ≡ cells_of (apart s (one d)) layout
cells_turned s d layout some are digest = bool_cases (set.contains s d)
    (λ there.
    let rest = apart s (one d) in
    let rest_are = AreDigests-apart s (one d) are (AreDigests-listed (d ∷ []) (digest, tt)) in
    ap (λ (t : Digests). toggled (cells_of t layout) d layout) (sym (insert-apart s d there))
    ∙ ap (λ (l : List Cell). toggled l d layout) (cells_insert rest d layout some (gone s d there))
    ∙ toggled_twice (cells_of rest layout) d layout some (wide-cells_of rest layout some rest_are) digest.size)
    (λ new. sym (cells_insert s d layout some new) ∙ ap (λ (t : Digests). cells_of t layout) (sym (apart-insert s d new)))

-- digests that both have cancel
cells_apart : (s : Digests) (ds : List Text) (layout : LayoutModel) → 0 < layout.size → AreDigests s → AllByRecursion IsDigest ds
    → IsStrictlySortedBy text_cmp ds
    → toggled_all (cells_of s layout) ds layout ≡ cells_of (apart s (set.from_list ds)) layout
cells_apart s [] layout some are each up = ap (λ (t : Digests). cells_of t layout) (apart_none s)
cells_apart s (d ∷ ds) layout some are each up = grind (arith, common_steps, toggled_all_push, rest_sorted, cells_turned, apart, AreDigests-apart, AreDigests-listed, apart_more, first_is_new, (cells_apart s ds layout some are each.1 (rest_sorted d ds up)))

pub differing_is : (own n : InventoryModel) (layout : LayoutModel) → 0 < layout.size → AreDigests own.digests → AreDigests n.digests
    → differing own (sketch_of n layout) ≡ cells_of (apart n.digests own.digests) layout
unfolding sketch_of
differing_is own n layout some f g =
    cells_apart n.digests (rising own.digests) layout some g (each_digest own.digests f) (rising_is_sorted text_total text_same own.digests)
    ∙ ap (λ (t : Digests). cells_of (apart n.digests t) layout) (from_list-rising text_total text_same own.digests)

-- ---- the digests left after some were removed

abbrev left : Digests → List Text → Digests
left all taken = set.difference all (set.from_list taken)

in_left : (all : Digests) (taken : List Text) (q : Text) → set.contains (left all taken) q
    ≡ (set.contains all q && not (set.contains (set.from_list {R = text_cmp} taken) q))
in_left all taken q = set.contains-difference text_total all (set.from_list taken) q

left-within : (all : Digests) (taken : List Text) → IsWithin (left all taken) all
left-within all taken q h = grind (arith, common_steps, in_left)

left_none : (all : Digests) → all ≡ left all []
left_none all = by_members all (left all []) (λ q. sym (in_left all [] q ∙ ap (λ b. set.contains all q && not b) (set.contains-empty text_cmp q)
    ∙ by (set.contains all q)))
  where
    by : (a : Bool) → (a && true) ≡ a
    by a = grind (arith, common_steps)

left_fewer : (a t e : Bool) → (e ≡ true → (a && not t) ≡ true) → either (a && not t) e ≡ (a && not (e || t))
left_fewer a t e h = grind (arith, common_steps)

left_more : (all : Digests) (taken : List Text) (d : Text) → set.contains (left all taken) d ≡ true
    → apart (left all taken) (one d) ≡ left all (taken ++ d ∷ [])
left_more all taken d there = by_members (apart (left all taken) (one d)) (left all (taken ++ d ∷ [])) (λ q.
    let t : Bool = set.contains (set.from_list {R = text_cmp} taken) q in
    in_apart (left all taken) (one d) q ∙ (λ i. either (in_left all taken q i) (in_one d q i))
    ∙ left_fewer (set.contains all q) t (eq_by_cmp text_cmp q d) (λ e. sym (in_left all taken q) ∙ told (left all taken) d q true there e)
    ∙ sym (in_left all (taken ++ d ∷ []) q
    ∙ ap (λ b. set.contains all q && not b)
    (ap (λ (s : Digests). set.contains s q) (set.from_list_push text_total text_same taken d) ∙ set.contains-insert text_total (set.from_list taken) d q)))

pub record IsLeft (layout : LayoutModel) (all : Digests) (taken : List Text) (rest : List Cell) : Type 0 where
  pub cells : rest ≡ cells_of (left all taken) layout
  pub within : IsWithin (set.from_list {R = text_cmp} taken) all
  pub count : length (rising (left all taken)) + length taken ≡ length (rising all)

left_at_first : (layout : LayoutModel) (all : Digests) (start : List Cell) → start ≡ cells_of all layout → IsLeft layout all [] start
left_at_first layout all start e = record {
  cells = e ∙ ap (λ (s : Digests). cells_of s layout) (left_none all);
  within = λ q h. absurd (true≢false (sym h ∙ set.contains-empty text_cmp q));
  count =
      let same : length (rising (left all [])) ≡ length (rising all) = ap (λ (s : Digests). length (rising s)) (sym (left_none all)) in
      omega arith;
}

one_fewer : (s : Digests) (d : Text) → set.contains s d ≡ true → length (rising s) ≡ suc (length (rising (apart s (one d))))
one_fewer s d there =
    ap (λ (t : Digests). length (rising t)) (sym (insert-apart s d there)) ∙ ap length (rising-insert (apart s (one d)) d)
    ∙ length-insert (rising (apart s (one d))) d (not_listed (apart s (one d)) d (gone s d there))

left_later : (layout : LayoutModel) (place : ℕ) (all : Digests) (taken : List Text) (cells : List Cell) → 0 < layout.size → AreDigests all → IsEnough layout all
    → place < length cells → is_lone (cell_at cells place) place layout ≡ true → IsLeft layout all taken cells
    → IsLeft layout all (taken ++ (cell_at cells place).digest ∷ []) (toggled cells (cell_at cells place).digest layout)
left_later layout place all taken cells some are enough within lone before =
    let d = (cell_at cells place).digest in
    let s = left all taken in
    let at : cell_at cells place ≡ cell_at (cells_of s layout) place = ap (λ (l : List Cell). cell_at l place) before.cells in
    let count : place < 3 * layout.size = subst (λ (n : ℕ). place < n) (ap length before.cells ∙ length-cells_of s layout) within in
    let there : set.contains s d ≡ true =
    ap (λ (c : Cell). set.contains s c.digest) at
    ∙ enough.lone_is_one s place (left-within all taken) count (subst (λ (c : Cell). is_lone c place layout ≡ true) at lone) in
    let held : set.contains all d ≡ true = left-within all taken d there in
    let s_are : AreDigests s = λ q h. are q (left-within all taken q h) in
    record {
      cells = ap (λ (l : List Cell). toggled l d layout) before.cells ∙ cells_turned s d layout some s_are (are d held)
          ∙ ap (λ (t : Digests). cells_of t layout) (left_more all taken d there);
      within = λ q h.
          or_cases {P = set.contains all q ≡ true} (eq_by_cmp text_cmp q d) (set.contains (set.from_list taken) q)
          (sym (ap (λ (t : Digests). set.contains t q) (set.from_list_push text_total text_same taken d)
          ∙ set.contains-insert text_total (set.from_list taken) d q) ∙ h)
          (λ e. told all d q true held e) (before.within q);
      count =
          let fewer : length (rising s) ≡ suc (length (rising (apart s (one d)))) = one_fewer s d there in
          let same : length (rising (apart s (one d))) ≡ length (rising (left all (taken ++ d ∷ []))) = ap
          (λ (t : Digests). length (rising t)) (left_more all taken d there) in
          let longer : length (taken ++ d ∷ []) ≡ length taken + length (d ∷ []) = length-append taken (d ∷ []) in
          let counted = before.count in
          omega arith;
    }

is_left : (layout : LayoutModel) (all : Digests) (start : List Cell) (taken : List Text) (rest : List Cell) → 0 < layout.size → AreDigests all
    → IsEnough layout all
    → start ≡ cells_of all layout → Peels layout start taken rest → IsLeft layout all taken rest
is_left layout all start [] start' some are enough e none = left_at_first layout all start e
is_left layout all start taken rest some are enough e (more {taken = before} {cells = cells} place chain within lone) = search (rules, left_later, (is_left layout all start before cells some are enough e chain))

-- ---- peeling that ends has found the digests that differ

both_again : (a b : Bool) → either a (either b a) ≡ b
both_again a b = grind (arith, common_steps)

flipped-back : (own n : InventoryModel) (taken : List Text) → own.log ≡ n.log → set.from_list taken ≡ apart n.digests own.digests → flipped own taken ≡ n
unfolding flipped
flipped-back own n taken log all =
    let digests : apart own.digests (set.from_list taken) ≡ n.digests = ap (apart own.digests) all
    ∙ by_members (apart own.digests (apart n.digests own.digests)) n.digests (λ q.
    in_apart own.digests (apart n.digests own.digests) q ∙ ap (either (set.contains own.digests q)) (in_apart n.digests own.digests q)
    ∙ both_again (set.contains own.digests q) (set.contains n.digests q)) in
    λ i. record { log = log i; digests = digests i }

all_taken : (all : Digests) (taken : List Text) → IsWithin (set.from_list {R = text_cmp} taken) all → left all taken ≡ set.empty → set.from_list taken ≡ all
all_taken all taken within nothing = by_members (set.from_list taken) all (λ q.
    by (set.contains (set.from_list taken) q) (set.contains all q) (within q)
    (sym (in_left all taken q) ∙ ap (λ (s : Digests). set.contains s q) nothing ∙ set.contains-empty text_cmp q))
  where
    by : (t a : Bool) → (t ≡ true → a ≡ true) → (a && not t) ≡ false → t ≡ a
    by true a h e = sym (h refl)
    by false true h e = absurd (true≢false e)
    by false false h e = refl

pub not_refused : (own n : InventoryModel) (layout : LayoutModel) → 0 < layout.size → own.log ≡ n.log → AreDigests own.digests → AreDigests n.digests
    → IsEnough layout (apart n.digests own.digests) → HasTooFewCells own (sketch_of n layout) → ⊥
unfolding sketch_of
not_refused own n layout some log f g enough refused =
    let all = apart n.digests own.digests in
    let taken = refused.peeled.taken in
    let rest = refused.peeled.rest in
    let ends = is_left layout all (differing own (sketch_of n layout)) taken rest some (AreDigests-apart n.digests own.digests g f) enough
    (differing_is own n layout some f g) refused.peeled.chain in
    let found : left all taken ≡ set.empty → ⊥ =
    λ nothing. refused.other (ap inventory_digest (refused.peeled.flips ∙ flipped-back own n taken log (all_taken all taken ends.within nothing))) in
    elim refused.peeled.stops [
      | inl stuck ↦
          let lone = enough.one_is_lone (left all taken) (left-within all taken) found in
          let here : lone.0 < length rest = subst (λ (k : ℕ). lone.0 < k) (sym (ap length ends.cells ∙ length-cells_of (left all taken) layout)) lone.1 in
          true≢false (sym (ap (λ (l : List Cell). is_lone (cell_at l lone.0) lone.0 layout) ends.cells ∙ lone.2) ∙ stuck lone.0 here)
      | inr most ↦
          let counted = ends.count in
          let short = enough.fits in
          omega arith
    ]
