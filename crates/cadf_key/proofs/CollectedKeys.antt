-- The digests that are collected of the keys of lists.
use Rattle.cadf_key.proofs.Common.{◌≡◌, true, List, [], ◌∷◌, ◌++◌, map, sym, ap, subst, ◌∙◌, inl, inr, true≢false, all_append, Listed, contains-from_list, from_list_push, listed-rising, rising-listed, text_total, text_same, texts_total, texts_same, Text, Texts, Contents, Has, text_cmp, from_list_has, has_from_list, known_digest, digest_of_some, listed_map, map_listed, IsDigest, digests_of, key_digest, keys_of, digests_in, Collects, digests_append}
use Rattle.cadf_join.specs.Sets as set
use Rattle.cadf_join.specs.laws.Sets as sets

pub new_is_in : (u : List Text) (d : Text) → set.contains (digests_in (u ++ d ∷ [])) d ≡ true
new_is_in u d = ap (λ s. set.contains s d) (from_list_push text_total text_same u d) ∙ sets.insert-contains text_total text_same (digests_in u) d

-- a further list
pub collected_new : (u : List Text) (d : Text) (q : Texts) → d ≡ key_digest q → IsDigest d → Collects u (q ∷ []) (u ++ d ∷ [])
collected_new u d q is form = record {
  digests = digests_append u (d ∷ []) ∙ ap (λ k. set.union (digests_in u) (digests_in (k ∷ []))) is;
  each = λ all. all_append IsDigest u (d ∷ []) all (form, tt);
}

-- a further list whose key has been collected
pub collected_again : (u : List Text) (q : Texts) → set.contains (digests_in u) (key_digest q) ≡ true → Collects u (q ∷ []) u
collected_again u q has = record {
  digests = sym (sets.union-within text_total text_same (digests_in u) (digests_in (key_digest q ∷ []))
      (λ d h. by d (from_list_has text_total text_same (key_digest q ∷ []) d h)));
  each = λ all. all;
}
  where
    by : (d : Text) → Listed d (key_digest q ∷ []) → set.contains (digests_in u) d ≡ true
    by d (inl e) = ap (set.contains (digests_in u)) e ∙ has
    by d (inr l) = absurd l

rising_digests : (f : Texts → Text) (s : Contents) → digests_in (map f (set.rising s)) ≡ digests_of f s
rising_digests f s =
    sets.same_from_within text_total text_same _ _
    (λ d h.
    let x = map_listed f (set.rising s) d (from_list_has text_total text_same _ d h) in
    subst (Has (digests_of f s)) (sym x.2) (known_digest f s x.0 (listed-rising texts_total texts_same s x.0 x.1)))
    (λ d h.
    let x = digest_of_some f s d h in
    has_from_list text_total text_same _ d
    (subst (λ y. Listed y (map f (set.rising s))) (sym x.2) (listed_map f (set.rising s) x.0 (rising-listed texts_total texts_same s x.0 x.1))))

nothing_before : (s : set.FinSet text_cmp) → set.union (digests_in []) s ≡ s
nothing_before s =
    sets.union-comm text_total text_same (digests_in []) s
    ∙ sets.union-within text_total text_same s (digests_in []) (λ q h. absurd (true≢false (sym h ∙ contains-from_list text_total [] q)))

-- all lists of a set
pub collected_all : (s : Contents) (v : List Text) → Collects [] (set.rising s) v → digests_in v ≡ keys_of s
collected_all s v c = c.digests ∙ nothing_before (digests_in (map key_digest (set.rising s))) ∙ rising_digests key_digest s
