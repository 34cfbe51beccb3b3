-- The lines of the items of a proof of growth: each encodes its item, and no other line does.
use Rattle.cadf_siteseal.proofs.Common.{◌≡◌, ◌∙◌, ◌⊎◌, inl, inr, ℕ, List, [], ◌∷◌, ◌++◌, length, take, drop, Bool, true, false, cond, Option, Some, None, refl, sym, ap, subst, arith, drop-append_seam, take-append_seam, eqb-true, common_steps, take-append-drop, bytes_eq-Decides, option_or, ◌&&◌, codes, nat_eq, option_and_then, option_map, unwrap_or, bytes_eq, encode_lower, is_unbroken, digest_of, digest-again, digest-only, unbroken_digest_of, Text, IsDigest, begins_digest, both, chosen, TimeUnit, Both, Added, Part, Node, Hash, Leaf, IsPart, keys_line, node_line, part_line, digest_line, IsItem, growth_items, item_in, item_line, tree_item_in, window_in, is_part, GrowthItem, Window, Tree, Keys}
use Rattle.cadf_tree.specs.declared.parts.Kind.TheVariants.{Gone}
unfoldable use Rattle.cadf_evidence.specs.Marked.{digest_after, rest_after}
unfoldable use Rattle.cadf_evidence.specs.ProofVerdict.{leaf_in, part_in}
use Rattle.cadf_siteseal.proofs.NameForms.{part_unbroken}
use Rattle.cadf_siteseal.proofs.SiteLemmas.{IsItemKind}

-- ---- a digest after a mark

rest-again : (mark r : List ℕ) → rest_after mark (mark ++ r) ≡ Some r
unfolding rest_after
rest-again mark r =
    ap (λ b. cond b (Some (drop (length mark) (mark ++ r))) None)
    (ap (λ l. bytes_eq l mark) (take-append_seam mark r) ∙ (bytes_eq-Decides mark mark).1 refl)
    ∙ ap Some (drop-append_seam mark r)

rest-only : (mark l r : List ℕ) → rest_after mark l ≡ Some r → l ≡ mark ++ r
unfolding rest_after
rest-only mark l r e =
    let c = chosen (bytes_eq (take (length mark) l) mark) (Some (drop (length mark) l)) r e in
    let same : drop (length mark) l ≡ r = ap (λ o. unwrap_or o r) c.1 in
    sym (take-append-drop (length mark) l) ∙ (λ i. (bytes_eq-Decides (take (length mark) l) mark).0 c.0 i ++ same i)

digest_after-again : (mark : List ℕ) (d : Text) → IsDigest d → digest_after mark (digest_line mark d) ≡ Some d
unfolding digest_after
digest_after-again mark d is = ap (option_and_then digest_of) (rest-again mark (encode_lower d)) ∙ digest-again d is

digest_after-only : (mark l : List ℕ) (d : Text) → digest_after mark l ≡ Some d → (l ≡ digest_line mark d) × IsDigest d
unfolding digest_after
digest_after-only mark l d e = by (rest_after mark l) refl e
  where
    by : (o : Option (List ℕ)) → rest_after mark l ≡ o → option_and_then digest_of o ≡ Some d → (l ≡ digest_line mark d) × IsDigest d
    by None is k = absurd (cc)
    by (Some r) is k =
        let p = digest-only r d k in
        (rest-only mark l r is ∙ ap (λ w. mark ++ w) p.0, p.1)

-- ---- the line of a part decodes to it

other_mark : (a b : ℕ) (t : List ℕ) → nat_eq a b ≡ false → digest_after (b ∷ 32 ∷ []) (a ∷ 32 ∷ t) ≡ None
unfolding digest_after rest_after
other_mark a b t e = grind (arith, common_steps)

abbrev after_both : List ℕ → Option Part
after_both l = option_or (option_map (Leaf Added) (digest_after (codes "A ") l)) (option_map (Leaf Gone) (digest_after (codes "G ") l))

abbrev after_added : List ℕ → Option Part
after_added l = option_map (Leaf Gone) (digest_after (codes "G ") l)

part-again : (p : Part) → IsPart p → part_in (part_line p) ≡ Some p
unfolding part_in leaf_in
part-again Node is = refl
part-again (Hash h) is = ap (λ o. option_or (option_map Hash o) (leaf_in (part_line (Hash h)))) (digest_after-again (codes "H ") h is)
part-again (Leaf Both d) is =
    let l = part_line (Leaf Both d) in
    ap (λ o. option_or (option_map Hash o) (leaf_in l)) (other_mark 80 72 (encode_lower d) refl)
    ∙ ap (λ o. option_or (option_map (Leaf Both) o) (after_both l)) (digest_after-again (codes "P ") d is)
part-again (Leaf Added d) is =
    let l = part_line (Leaf Added d) in
    ap (λ o. option_or (option_map Hash o) (leaf_in l)) (other_mark 65 72 (encode_lower d) refl)
    ∙ ap (λ o. option_or (option_map (Leaf Both) o) (after_both l)) (other_mark 65 80 (encode_lower d) refl)
    ∙ ap (λ o. option_or (option_map (Leaf Added) o) (after_added l)) (digest_after-again (codes "A ") d is)
part-again (Leaf Gone d) is =
    let l = part_line (Leaf Gone d) in
    ap (λ o. option_or (option_map Hash o) (leaf_in l)) (other_mark 71 72 (encode_lower d) refl)
    ∙ ap (λ o. option_or (option_map (Leaf Both) o) (after_both l)) (other_mark 71 80 (encode_lower d) refl)
    ∙ ap (λ o. option_or (option_map (Leaf Added) o) (after_added l)) (other_mark 71 65 (encode_lower d) refl)
    ∙ ap (option_map (Leaf Gone)) (digest_after-again (codes "G ") d is)

-- ---- and no other line does

abbrev IsPartLine : List ℕ → Part → Type 0
IsPartLine l p = (l ≡ part_line p) × IsPart p

either_of : (f : Text → Part) (o : Option Text) (q : Option Part) (p : Part) → option_or (option_map f o) q ≡ Some p
    → ((d : Text) × (o ≡ Some d) × (f d ≡ p)) ⊎ (q ≡ Some p)
either_of f None q p e = inr e
either_of f (Some d) q p e = let same : f d ≡ p = cc in inl (d, refl, same)

module _ (f : Text → Part) (mark : List ℕ) (line : (d : Text) → part_line (f d) ≡ digest_line mark d) (part : (d : Text) → IsDigest d → IsPart (f d)) where
  marked : (l : List ℕ) (p : Part) → ((d : Text) × (digest_after mark l ≡ Some d) × (f d ≡ p)) → IsPartLine l p
  marked l p m =
      let q = digest_after-only mark l m.0 m.1 in
      (q.0 ∙ sym (line m.0) ∙ ap part_line m.2, subst IsPart m.2 (part m.0 q.1))

  one_of : (l : List ℕ) (q : Option Part) (p : Part) → (q ≡ Some p → IsPartLine l p) → option_or (option_map f (digest_after mark l)) q ≡ Some p → IsPartLine l p
  one_of l q p others e = elim (either_of f (digest_after mark l) q p e) [
    | inl m ↦ marked l p m
    | inr o ↦ others o
  ]

none_left : (o : Option Part) → option_or o None ≡ o
none_left None = refl
none_left (Some p) = refl

leaf-only : (l : List ℕ) (p : Part) → leaf_in l ≡ Some p → IsPartLine l p
unfolding leaf_in
leaf-only l p e =
    one_of (Leaf Both) (codes "P ") (λ d. refl) (λ d is. is) l _ p
    (λ f. one_of (Leaf Added) (codes "A ") (λ d. refl) (λ d is. is) l _ p
    (λ g. one_of (Leaf Gone) (codes "G ") (λ d. refl) (λ d is. is) l None p (λ h. absurd (cc)) (none_left _ ∙ g)) f) e

part-only : (l : List ℕ) (p : Part) → part_in l ≡ Some p → IsPartLine l p
unfolding part_in
part-only l p e = by (bytes_eq l node_line) refl e
  where
    by : (b : Bool) → bytes_eq l node_line ≡ b → cond b (Some Node) (option_or (option_map Hash (digest_after (codes "H ") l)) (leaf_in l)) ≡ Some p → IsPartLine l p
    by true is k = let same : Node ≡ p = cc in ((bytes_eq-Decides l node_line).0 is ∙ ap part_line same, subst IsPart same tt)
    by false is k = one_of Hash (codes "H ") (λ d. refl) (λ d is. is) l (leaf_in l) p (leaf-only l p) k

-- ---- items

no_window : (u : TimeUnit) (p : Part) → window_in u (part_line p) ≡ None
no_window u Node = refl
no_window u (Hash h) = refl
no_window u (Leaf Both d) = refl
no_window u (Leaf Added d) = refl
no_window u (Leaf Gone d) = refl

no_keys : (p : Part) → bytes_eq (part_line p) keys_line ≡ false
no_keys Node = refl
no_keys (Hash h) = refl
no_keys (Leaf Both d) = refl
no_keys (Leaf Added d) = refl
no_keys (Leaf Gone d) = refl

line-again : (u : TimeUnit) (i : GrowthItem) → IsItem u i → item_in u (item_line i) ≡ Some i
line-again u (Window t) is = ap (λ b. option_or (cond b (Some (Window t)) None) (tree_item_in (item_line (Window t)))) is
line-again u (Tree p) is =
    ap (λ o. option_or o (tree_item_in (part_line p))) (no_window u p)
    ∙ ap (λ b. cond b (Some Keys) (option_map Tree (part_in (part_line p)))) (no_keys p)
    ∙ ap (option_map Tree) (part-again p is)
line-again u Keys is = refl

abbrev IsLine : TimeUnit → List ℕ → GrowthItem → Type 0
IsLine u l i = (l ≡ item_line i) × IsItem u i

tree-only : (u : TimeUnit) (l : List ℕ) (i : GrowthItem) → tree_item_in l ≡ Some i → IsLine u l i
tree-only u l i e = by (bytes_eq l keys_line) refl e
  where
    part : (o : Option Part) → part_in l ≡ o → option_map Tree o ≡ Some i → IsLine u l i
    part None is k = absurd (cc)
    part (Some p) is k = let same : Tree p ≡ i = ap (λ o. unwrap_or o i) k in subst (IsLine u l) same (part-only l p is)

    by : (b : Bool) → bytes_eq l keys_line ≡ b → cond b (Some Keys) (option_map Tree (part_in l)) ≡ Some i → IsLine u l i
    by true is k = let same : Keys ≡ i = ap (λ o. unwrap_or o i) k in subst (IsLine u l) same ((bytes_eq-Decides l keys_line).0 is, tt)
    by false is k = part (part_in l) refl k

window-only : (u : TimeUnit) (l : List ℕ) (i : GrowthItem) → window_in u l ≡ Some i → IsLine u l i
window-only u [] i e = absurd (cc)
window-only u (m ∷ []) i e = absurd (cc)
window-only u (m ∷ b ∷ t) i e =
    let c = chosen (nat_eq m 87 && (nat_eq b 32 && is_part u t)) (Some (Window t)) i e in
    let p = both (nat_eq m 87) _ c.0 in
    let q = both (nat_eq b 32) _ p.1 in
    let same : Window t ≡ i = ap (λ o. unwrap_or o i) c.1 in
    subst (IsLine u (m ∷ b ∷ t)) same ((λ n. eqb-true m 87 p.0 n ∷ eqb-true b 32 q.0 n ∷ t), q.1)

line-only : (u : TimeUnit) (l : List ℕ) (i : GrowthItem) → item_in u l ≡ Some i → IsLine u l i
line-only u l i e = by (window_in u l) refl e
  where
    by : (o : Option GrowthItem) → window_in u l ≡ o → option_or o (tree_item_in l) ≡ Some i → IsLine u l i
    by None is k = tree-only u l i k
    by (Some j) is k = window-only u l i (is ∙ k)

line_plain : (i : GrowthItem) → begins_digest (item_line i) ≡ false
line_plain (Window t) = refl
line_plain (Tree Node) = refl
line_plain (Tree (Hash h)) = refl
line_plain (Tree (Leaf Both d)) = refl
line_plain (Tree (Leaf Added d)) = refl
line_plain (Tree (Leaf Gone d)) = refl
line_plain Keys = refl

line_unbroken : (u : TimeUnit) (i : GrowthItem) → IsItem u i → is_unbroken (item_line i) ≡ true
line_unbroken u (Window t) is = part_unbroken u t is
line_unbroken u (Tree Node) is = refl
line_unbroken u (Tree (Hash h)) is = unbroken_digest_of h
line_unbroken u (Tree (Leaf Both d)) is = unbroken_digest_of d
line_unbroken u (Tree (Leaf Added d)) is = unbroken_digest_of d
line_unbroken u (Tree (Leaf Gone d)) is = unbroken_digest_of d
line_unbroken u Keys is = refl

pub growth_kind : IsItemKind growth_items IsItem
growth_kind = record { header = refl; plain = line_plain; unbroken = line_unbroken; again = line-again; only = line-only }
