-- The names of facts and of keys, and what they are of.
use Rattle.cadf_listed.proofs.Common.{all_append, ◌≡◌, ◌∙◌, ℕ, Bool, true, false, cond, List, [], ◌∷◌, ◌++◌, map, drop, length, take, suc, Some, None, refl, ap, sym, subst, arith, eq-eqb, eqb-true, take_all, nat_eq, slice_index, if◌then◌else◌, encode_lower, AllByRecursion, ordering_then, nat_cmp_is, Less, Equal, Text, text_cmp, IsDigest, Digests, AreDigests, InventoryModel, each_digest, AreRising, rising_again, rising_set, AreRisingDigests, AreRisingNames, IsName, digest_with, digests_with, fact_name, facts_of, is_mark, key_name, keys_of, list_over, mark_letter, name, name_line}
unfoldable use Rattle.std.specs.List.Sorted.{IsStrictlySortedBy}
use Rattle.cadf_join.specs.Sets as set

-- ---- names of facts before names of keys

same_mark : (m : ℕ) (d e : Text) → text_cmp d e ≡ Less → text_cmp (m ∷ d) (m ∷ e) ≡ Less
same_mark m d e h = ap (λ o. ordering_then o (text_cmp d e)) (sym (nat_cmp_is m m Equal refl)) ∙ h

above_marked : (m : ℕ) (d : Text) (ds : List Text) → AllByRecursion (λ e. text_cmp d e ≡ Less) ds
    → AllByRecursion (λ n. text_cmp (name m d) n ≡ Less) (map (name m) ds)
above_marked m d [] h = tt
above_marked m d (e ∷ ds) h = (same_mark m d e h.0, above_marked m d ds h.1)

keys_rise : (ks : List Text) → AreRising ks → AreRising (map key_name ks)
unfolding IsStrictlySortedBy
keys_rise [] up = tt
keys_rise (k ∷ ks) up = (above_marked 75 k ks up.0, keys_rise ks up.1)

before_keys : (d : Text) (ks : List Text) → AllByRecursion (λ n. text_cmp (fact_name d) n ≡ Less) (map key_name ks)
before_keys d [] = tt
before_keys d (k ∷ ks) = (refl, before_keys d ks)

abbrev both : List Text → List Text → List Text
both fs ks = map fact_name fs ++ map key_name ks

both_rise : (fs ks : List Text) → AreRising fs → AreRising ks → AreRising (both fs ks)
unfolding IsStrictlySortedBy
both_rise [] ks up more = keys_rise ks more
both_rise (f ∷ fs) ks up more = (
  all_append (λ n. text_cmp (fact_name f) n ≡ Less) (map fact_name fs) (map key_name ks) (above_marked 70 f fs up.0) (before_keys f ks),
  both_rise fs ks up.1 more,
)

each_marked : (m : ℕ) (ds : List Text) → is_mark m ≡ true → AllByRecursion IsDigest ds → AllByRecursion IsName (map (name m) ds)
each_marked m [] is h = tt
each_marked m (d ∷ ds) is h = ((is, h.0), each_marked m ds is h.1)

pub names_over : (facts keys : Digests) → AreDigests facts → AreDigests keys → AreRisingNames (both (set.rising facts) (set.rising keys))
names_over facts keys f k = (
  all_append IsName _ _ (each_marked 70 (set.rising facts) refl (each_digest facts f)) (each_marked 75 (set.rising keys) refl (each_digest keys k)),
  both_rise (set.rising facts) (set.rising keys) (rising_set facts) (rising_set keys),
)

-- ---- and what they are of

none_of_keys : (ks : List Text) → digests_with 70 (map key_name ks) ≡ []
none_of_keys [] = refl
none_of_keys (k ∷ ks) = none_of_keys ks

facts_again : (fs ks : List Text) → digests_with 70 (both fs ks) ≡ fs
facts_again [] ks = none_of_keys ks
facts_again (f ∷ fs) ks = ap (λ ds. f ∷ ds) (facts_again fs ks)

keys_again : (fs ks : List Text) → digests_with 75 (both fs ks) ≡ ks
keys_again [] [] = refl
keys_again [] (k ∷ ks) = ap (λ ds. k ∷ ds) (keys_again [] ks)
keys_again (f ∷ fs) ks = keys_again fs ks

module _ (facts keys : InventoryModel) where
  over : set.rising {R = text_cmp} (set.from_list (both (set.rising facts.digests) (set.rising keys.digests)))
      ≡ both (set.rising facts.digests) (set.rising keys.digests)
  over = rising_again _ (both_rise (set.rising facts.digests) (set.rising keys.digests) (rising_set facts.digests) (rising_set keys.digests))

  pub facts_over : facts_of (list_over facts keys) ≡ set.rising facts.digests
  facts_over = ap (digests_with 70) over ∙ facts_again (set.rising facts.digests) (set.rising keys.digests)

  pub keys_over : keys_of (list_over facts keys) ≡ set.rising keys.digests
  keys_over = ap (digests_with 75) over ∙ keys_again (set.rising facts.digests) (set.rising keys.digests)

-- ---- the digests of the names of a mark rise

less_without : (m k : ℕ) (d e : Text) → nat_eq m k ≡ true → text_cmp (k ∷ d) (m ∷ e) ≡ Less → text_cmp d e ≡ Less
less_without m k d e same h =
    let is : m ≡ k = eqb-true m k same in
    ap (λ o. ordering_then o (text_cmp d e)) (nat_cmp_is k k Equal refl) ∙ subst (λ x. text_cmp (k ∷ d) (x ∷ e) ≡ Less) is h

above_with : (m : ℕ) (d : Text) (ns : List Text) → AllByRecursion IsName ns → AllByRecursion (λ n. text_cmp (m ∷ d) n ≡ Less) ns
    → AllByRecursion (λ e. text_cmp d e ≡ Less) (digests_with m ns)
above_with m d [] is h = tt
above_with m d ([] ∷ ns) is h = absurd is.0
above_with m d ((k ∷ e) ∷ ns) is h = by (nat_eq k m) refl (above_with m d ns is.1 h.1)
  where
    by : (b : Bool) → nat_eq k m ≡ b → AllByRecursion (λ x. text_cmp d x ≡ Less) (digests_with m ns)
        → AllByRecursion (λ x. text_cmp d x ≡ Less) (digests_with m ((k ∷ e) ∷ ns))
    by true same more = rw same (less_without k m d e same h.0, more)
    by false same more = rw same more

pub digests_rise : (m : ℕ) (ns : List Text) → AreRisingNames ns → AreRisingDigests (digests_with m ns)
unfolding IsStrictlySortedBy
digests_rise m [] are = (tt, tt)
digests_rise m ([] ∷ ns) are = absurd are.0.0
digests_rise m ((k ∷ d) ∷ ns) are = by (nat_eq k m) refl (digests_rise m ns (are.0.1, are.1.1))
  where
    by : (b : Bool) → nat_eq k m ≡ b → AreRisingDigests (digests_with m ns) → AreRisingDigests (digests_with m ((k ∷ d) ∷ ns))
    by true same more =
        rw same ((are.0.0.1, more.0), (above_with m d ns are.0.1 (subst (λ x. AllByRecursion (λ n. text_cmp (x ∷ d) n ≡ Less) ns) (eqb-true k m same) are.1.0), more.1))
    by false same more = rw same more

-- ---- a name by its bytes

pub digest_at : (m : ℕ) (n : Text) → length n ≡ 33 → digest_with m n ≡ if nat_eq (slice_index n 0) m then Some (drop 1 n) else None
digest_at m [] size = absurd (omega (arith, size))
digest_at m (k ∷ d) size = refl

all_of : (d : Text) → suc (length d) ≡ 33 → take 32 d ≡ d
all_of d size = take_all 32 d (omega (arith, size))

pub digest_is : (m : ℕ) (n d : Text) → length n ≡ 33 → slice_index n 0 ≡ m → d ≡ take 32 (drop 1 n) → Some d ≡ digest_with m n
digest_is m [] d size is same = absurd (omega (arith, size))
digest_is m (k ∷ e) d size is same = ap Some (same ∙ all_of e size) ∙ sym (ap (λ b. cond b (Some e) None) (eq-eqb k m is))

pub line_of : (n : Text) (letter : ℕ) → length n ≡ 33 → letter ≡ mark_letter (slice_index n 0)
    → letter ∷ 32 ∷ encode_lower (take 32 (drop 1 n)) ≡ name_line n
line_of [] letter size l = absurd (omega (arith, size))
line_of (k ∷ d) letter size l = λ i. l i ∷ 32 ∷ encode_lower (all_of d size i)
