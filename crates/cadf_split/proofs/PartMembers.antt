-- Sets in parts by a key: which members a part has, and what the parts have together.
use Rattle.cadf_split.proofs.Common.{common_steps, arith, ◌≡◌, List, [], ◌∷◌, map, refl, sym, ap, ◌∙◌, subst, inl, inr, bytes_decides, Listed, rising, Text, Texts, Contents, Has, IsWithin, texts_total, texts_same, text_total, text_same, listed-rising, rising-listed, carrier, IsGrounded, with_carriers, missing, missing_by, unknown, Digests, digests_of, NoCollision, listed_map, map_listed, has_carrier, of_carriers, with_carriers_over, with_carriers_least, missing_within, missing_by_is, union_all, part_by, keys_by, parts_by, IsOfCarrier}
use Rattle.cadf_join.specs.Sets as set
use Rattle.cadf_join.specs.laws.Sets as laws
use Rattle.cadf_join.proofs.Members as members

same_sets : (s t : Contents) → IsWithin s t → IsWithin t s → s ≡ t
same_sets = laws.same_from_within texts_total texts_same

-- ---- the union of the sets of several keys

pub in_union_of : (F : Text → Contents) (ks : List Text) (k : Text) (q : Texts) → Listed k ks → Has (F k) q → Has (union_all (map F ks)) q
in_union_of F [] k q l h = absurd l
in_union_of F (j ∷ ks) k q (inl e) h = members.in_union_left texts_total texts_same (F j) _ q (subst (λ x. Has (F x) q) e h)
in_union_of F (j ∷ ks) k q (inr l) h = members.in_union_right texts_total texts_same (F j) _ q (in_union_of F ks k q l h)

pub of_union_of : (F : Text → Contents) (ks : List Text) (q : Texts) → Has (union_all (map F ks)) q → (k : Text) × Listed k ks × Has (F k) q
of_union_of F [] q h = absurd (members.not_in_empty texts_total texts_same q h)
of_union_of F (j ∷ ks) q h = elim (members.of_union texts_total texts_same (F j) _ q h) [
  | inl k ↦ (j, inl refl, k)
  | inr k ↦ let t = of_union_of F ks q k in (t.0, inr t.1, t.2)
]

pub union_all_same : (F G : Text → Contents) (ks : List Text) → ((k : Text) → F k ≡ G k) → union_all (map F ks) ≡ union_all (map G ks)
union_all_same F G ks each = grind (arith, common_steps)

module _ (of : Texts → Text) where
  -- ---- members

  pub in_part : (k : Text) (s : Contents) (q : Texts) → Has s q → of q ≡ k → Has (part_by of k s) q
  in_part k s q h e = members.in_retain texts_total texts_same s _ q h ((bytes_decides (of q) k).1 e)

  pub part_has : (k : Text) (s : Contents) (q : Texts) → Has (part_by of k s) q → Has s q
  part_has k s q h = members.retain_has texts_total texts_same s _ q h

  pub part_key : (k : Text) (s : Contents) (q : Texts) → Has (part_by of k s) q → of q ≡ k
  part_key k s q h = (bytes_decides (of q) k).0 (members.retain_passes texts_total texts_same s _ q h)

  pub parts_apart : (k l : Text) (s : Contents) (q : Texts) → Has (part_by of k s) q → Has (part_by of l s) q → k ≡ l
  parts_apart k l s q h g = sym (part_key k s q h) ∙ part_key l s q g

  pub key_listed : (s : Contents) (q : Texts) → Has s q → Listed (of q) (keys_by of s)
  key_listed s q h = rising-listed text_total text_same _ _
      (members.has_from_list text_total text_same _ _ (listed_map of (rising s) q (rising-listed texts_total texts_same s q h)))

  pub listed_key : (s : Contents) (k : Text) → Listed k (keys_by of s) → (q : Texts) × Has (part_by of k s) q
  listed_key s k l =
      let t = map_listed of (rising s) k (members.from_list_has text_total text_same _ k (listed-rising text_total text_same _ k l)) in
      (t.0, in_part k s t.0 (listed-rising texts_total texts_same s t.0 t.1) (sym t.2))

  -- ---- the parts together

  pub parts_within : (s t : Contents) → IsWithin t s → union_all (map (λ k. part_by of k t) (keys_by of s)) ≡ t
  parts_within s t w = same_sets _ _
      (λ q h. let u = of_union_of (λ k. part_by of k t) (keys_by of s) q h in part_has u.0 t q u.2)
      (λ q h. in_union_of (λ k. part_by of k t) (keys_by of s) (of q) q (key_listed s q (w q h)) (in_part (of q) t q h refl))

  pub parts_together : (s : Contents) → union_all (parts_by of s) ≡ s
  parts_together s = parts_within s s (laws.IsWithin-refl s)

  -- ---- a part of a set made of others

  pub part-union : (k : Text) (s t : Contents) → part_by of k (set.union s t) ≡ set.union (part_by of k s) (part_by of k t)
  part-union k s t = same_sets _ _
      (λ q h.
      let e = part_key k (set.union s t) q h in
      elim (members.of_union texts_total texts_same s t q (part_has k (set.union s t) q h)) [
        | inl g ↦ members.in_union_left texts_total texts_same _ _ q (in_part k s q g e)
        | inr g ↦ members.in_union_right texts_total texts_same _ _ q (in_part k t q g e)
      ])
      (λ q h. elim (members.of_union texts_total texts_same _ _ q h) [
        | inl g ↦ in_part k (set.union s t) q (members.in_union_left texts_total texts_same s t q (part_has k s q g)) (part_key k s q g)
        | inr g ↦ in_part k (set.union s t) q (members.in_union_right texts_total texts_same s t q (part_has k t q g)) (part_key k t q g)
      ])

  pub part-difference : (k : Text) (a b : Contents) → part_by of k (set.difference a b) ≡ set.difference (part_by of k a) (part_by of k b)
  part-difference k a b = same_sets _ _
      (λ q h.
      let d = part_has k (set.difference a b) q h in
      members.in_difference texts_total texts_same _ _ q
      (in_part k a q (members.difference_has texts_total texts_same a b q d) (part_key k (set.difference a b) q h))
      (λ g. members.difference_lacks texts_total texts_same a b q d (part_has k b q g)))
      (λ q h.
      let g = members.difference_has texts_total texts_same _ _ q h in
      let e = part_key k a q g in
      in_part k (set.difference a b) q
      (members.in_difference texts_total texts_same a b q (part_has k a q g)
      (λ there. members.difference_lacks texts_total texts_same _ _ q h (in_part k b q there e))) e)

  pub part-unknown : (digest : Texts → Text) (k : Text) (a : Contents) (known : Digests)
      → part_by of k (unknown digest a known) ≡ unknown digest (part_by of k a) known
  part-unknown digest k a known = same_sets _ _
      (λ q h.
      let u = part_has k (unknown digest a known) q h in
      members.in_retain texts_total texts_same _ _ q (in_part k a q (members.retain_has texts_total texts_same a _ q u) (part_key k (unknown digest a known) q h))
      (members.retain_passes texts_total texts_same a _ q u))
      (λ q h.
      let g = members.retain_has texts_total texts_same (part_by of k a) _ q h in
      in_part k (unknown digest a known) q
      (members.in_retain texts_total texts_same a _ q (part_has k a q g) (members.retain_passes texts_total texts_same (part_by of k a) _ q h))
      (part_key k a q g))

  module _ (carried : IsOfCarrier of) where
    pub part_grounded : (k : Text) (s : Contents) → IsGrounded s → IsGrounded (part_by of k s)
    part_grounded k s g q h = in_part k s (carrier q) (g q (part_has k s q h)) (carried q ∙ part_key k s q h)

    pub part-with_carriers : (k : Text) (s : Contents) → part_by of k (with_carriers s) ≡ with_carriers (part_by of k s)
    part-with_carriers k s = same_sets _ _
        (λ q h.
        let e = part_key k (with_carriers s) q h in
        elim (of_carriers s q (part_has k (with_carriers s) q h)) [
          | inl g ↦ with_carriers_over (part_by of k s) q (in_part k s q g e)
          | inr t ↦
              let of_x : of t.0 ≡ k = sym (carried t.0) ∙ ap of (sym t.2) ∙ e in
              subst (Has (with_carriers (part_by of k s))) (sym t.2) (has_carrier (part_by of k s) t.0 (in_part k s t.0 t.1 of_x))
        ])
        (λ q h. elim (of_carriers (part_by of k s) q h) [
          | inl g ↦ in_part k (with_carriers s) q (with_carriers_over s q (part_has k s q g)) (part_key k s q g)
          | inr t ↦ subst (Has (part_by of k (with_carriers s))) (sym t.2)
              (in_part k (with_carriers s) (carrier t.0) (has_carrier s t.0 (part_has k s t.0 t.1)) (carried t.0 ∙ part_key k s t.0 t.1))
        ])

    -- ---- deltas

    pub part-missing : (k : Text) (a b : Contents) → part_by of k (missing a b) ≡ missing (part_by of k a) (part_by of k b)
    part-missing k a b = part-with_carriers k (set.difference a b) ∙ ap with_carriers (part-difference k a b)

    pub part-missing_by : (digest : Texts → Text) (k : Text) (a : Contents) (known : Digests)
        → part_by of k (missing_by digest a known) ≡ missing_by digest (part_by of k a) known
    part-missing_by digest k a known = part-with_carriers k (unknown digest a known) ∙ ap with_carriers (part-unknown digest k a known)

    pub missing_of_parts : (a b : Contents) → IsGrounded a
        → union_all (map (λ k. missing (part_by of k a) (part_by of k b)) (keys_by of a)) ≡ missing a b
    missing_of_parts a b g = union_all_same _ _ (keys_by of a) (λ k. sym (part-missing k a b)) ∙ parts_within a (missing a b) (missing_within a b g)

    pub missing_by_within_set : (digest : Texts → Text) (a : Contents) (known : Digests) → IsGrounded a → IsWithin (missing_by digest a known) a
    missing_by_within_set digest a known g = with_carriers_least (unknown digest a known) a (g, λ q h. members.retain_has texts_total texts_same a _ q h)

    pub missing_by_of_parts : (digest : Texts → Text) (a : Contents) (known : Digests) → IsGrounded a
        → union_all (map (λ k. missing_by digest (part_by of k a) known) (keys_by of a)) ≡ missing_by digest a known
    missing_by_of_parts digest a known g =
        union_all_same _ _ (keys_by of a) (λ k. sym (part-missing_by digest k a known))
        ∙ parts_within a (missing_by digest a known) (missing_by_within_set digest a known g)

    -- against the inventories of the other set's parts
    pub missing_by_own : (digest : Texts → Text) (k : Text) (a b : Contents) → NoCollision digest (set.union a b)
        → missing_by digest (part_by of k a) (digests_of digest (part_by of k b)) ≡ part_by of k (missing_by digest a (digests_of digest b))
    missing_by_own digest k a b apart =
        let within : IsWithin (set.union (part_by of k a) (part_by of k b)) (set.union a b) =
        laws.union_rises texts_total _ _ _ _ (part_has k a) (part_has k b) in
        missing_by_is digest (part_by of k a) (part_by of k b) (λ x y h g. apart x y (within x h) (within y g))
        ∙ sym (part-missing k a b) ∙ ap (part_by of k) (sym (missing_by_is digest a b apart))

    pub missing_by_own_parts : (digest : Texts → Text) (a b : Contents) → IsGrounded a → NoCollision digest (set.union a b)
        → union_all (map (λ k. missing_by digest (part_by of k a) (digests_of digest (part_by of k b))) (keys_by of a)) ≡ missing_by digest a (digests_of digest b)
    missing_by_own_parts digest a b g apart =
        union_all_same _ _ (keys_by of a) (λ k. missing_by_own digest k a b apart)
        ∙ parts_within a _ (missing_by_within_set digest a (digests_of digest b) g)
