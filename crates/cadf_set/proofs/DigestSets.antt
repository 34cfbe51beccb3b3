-- The set of digests that is the model of a `BTreeSet`.
use Rattle.cadf_set.proofs.Common.{common_steps, ◌≡◌, Bool, true, false, cond, List, [], ◌∷◌, refl, sym, ap, ◌∙◌, subst, Bor, arith, ◌||◌, ◌&&◌, not, Option, Some, None, remove, contains-remove, option_copied, AllByRecursion, find, filter, slice_get, TakesFirst, deref, IsStrictlySortedBy, Ordering, eq_by_cmp, BTreeSet, contains, Updates, IsFromIterResult, true≢false, Equal-is, rising-from_list, AllByRecursion-listed, listed_any, Text, text_cmp, is_after, text_total, text_same, or_cases, and_second, IsDigest, AreDigests, Digests}
use Rattle.std.specs.Cmp.{eq_by_cmp_equiv}
use Rattle.cadf_join.specs.Sets as set

swap_cond : (a b : Bool) → cond a true b ≡ (a || b)
swap_cond a b = grind (arith, common_steps)

false_cond : (a b : Bool) → cond a false b ≡ (not a && b)
false_cond a b = grind (arith, common_steps)

pub contains-keys : (s : BTreeSet Text) (q : Text) → set.contains (set.from_list {R = text_cmp} s.keys) q ≡ contains text_cmp s q
contains-keys s q = set.contains-from_list text_total s.keys q

pub digest_inserted : (s n : BTreeSet Text) (d : Text) → Updates text_cmp s n d true
    → set.from_list {R = text_cmp} n.keys ≡ set.insert (set.from_list s.keys) d
digest_inserted s n d u = set.same_set text_total text_same _ _ (λ q.
    contains-keys n q ∙ u.0 q ∙ swap_cond (eq_by_cmp text_cmp d q) _
    ∙ (λ i. (eq_by_cmp_equiv text_total).symm d q i || sym (contains-keys s q) i) ∙ sym (set.contains-insert text_total _ d q))

pub digest_removed : (s n : BTreeSet Text) (d : Text) → Updates text_cmp s n d false
    → set.from_list {R = text_cmp} n.keys ≡ remove (set.from_list s.keys) d
digest_removed s n d u = set.same_set text_total text_same _ _ (λ q.
    contains-keys n q ∙ u.0 q ∙ false_cond (eq_by_cmp text_cmp d q) _
    ∙ (λ i. not ((eq_by_cmp_equiv text_total).symm d q i) && sym (contains-keys s q) i) ∙ sym (contains-remove text_total _ d q))

pub digests_gathered : (ds : List Text) (n : BTreeSet Text) → IsFromIterResult text_cmp ds n → set.from_list {R = text_cmp} n.keys ≡ set.from_list ds
digests_gathered ds n h = set.same_set text_total text_same _ _ (λ q. contains-keys n q ∙ h.0 q ∙ sym (set.contains-from_list text_total ds q))

pub rising-keys : (ks : List Text) → IsStrictlySortedBy text_cmp ks → set.rising (set.from_list {R = text_cmp} ks) ≡ ks
rising-keys = rising-from_list text_total text_same

-- a digest is added to digests
pub AreDigests-insert : (s : Digests) (d : Text) → AreDigests s → IsDigest d → AreDigests (set.insert s d)
AreDigests-insert s d are is = λ q h.
    or_cases {P = IsDigest q} (eq_by_cmp text_cmp q d) (set.contains s q) (sym (set.contains-insert text_total s d q) ∙ h)
    (λ e. subst IsDigest (sym (text_same q d ((Equal-is (text_cmp q d)).0 e))) is)
    (are q)

pub AreDigests-remove : (s : Digests) (d : Text) → AreDigests s → AreDigests (remove s d)
AreDigests-remove s d are = λ q h. are q (and_second (not (eq_by_cmp text_cmp q d)) (set.contains s q) (sym (contains-remove text_total s d q) ∙ h))

pub AreDigests-empty : AreDigests set.empty
AreDigests-empty = λ q h. absurd (true≢false (sym h ∙ set.contains-empty text_cmp q))

pub AreDigests-listed : (ds : List Text) → AllByRecursion IsDigest ds → AreDigests (set.from_list ds)
AreDigests-listed ds all = λ q h.
    AllByRecursion-listed IsDigest ds all q (listed_any text_total text_same ds q (sym (set.contains-from_list text_total ds q) ∙ h))

-- ---- the first that passes a test

module _ {K : Type 0} where
  -- the result of a call of `next` at these keys
  pub shown_first : (ks : List K) (found : Option (Bor K)) (rest : List K) → TakesFirst deref ks found rest → option_copied found ≡ slice_get ks 0
  shown_first ks None rest h = ap (λ l. slice_get l 0) (sym h.0)
  shown_first ks (Some k) rest h = ap (λ l. slice_get l 0) (sym h)

  -- two tests that agree find what is first among those that pass
  pub find-filter : (p r : K → Bool) → ((k : K) → r k ≡ p k) → (ks : List K) → slice_get (filter r ks) 0 ≡ find p ks
  find-filter p r alike [] = refl
  find-filter p r alike (k ∷ ks) = by (p k) refl (find-filter p r alike ks)
    where
      by : (b : Bool) → p k ≡ b → slice_get (filter r ks) 0 ≡ find p ks → slice_get (filter r (k ∷ ks)) 0 ≡ find p (k ∷ ks)
      by true is rest =
          ap (λ b. slice_get (cond b (k ∷ filter r ks) (filter r ks)) 0) (alike k ∙ is)
          ∙ sym (ap (λ b. cond b (Some k) (find p ks)) is)
      by false is rest =
          ap (λ b. slice_get (cond b (k ∷ filter r ks) (filter r ks)) 0) (alike k ∙ is) ∙ rest
          ∙ sym (ap (λ b. cond b (Some k) (find p ks)) is)

  pub find-any : (R : K → K → Ordering) (ks : List K) → slice_get ks 0 ≡ find (is_after R None) ks
  find-any R [] = refl
  find-any R (k ∷ ks) = refl
