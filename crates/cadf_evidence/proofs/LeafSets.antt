-- Sets of leaves.
use Rattle.cadf_evidence.proofs.Common.{◌≡◌, ◌∙◌, List, ap, sym, ◌||◌, texts_ties, eq_by_cmp, eq_by_cmp_equiv, Text, text_cmp, text_total, Digests, is_leaf, is_present, items, is_text, Part, Leaf, Both}
use Rattle.cadf_join.specs.Sets as set

same_digest : (d f : Text) → eq_by_cmp text_cmp f d ≡ is_text d f
same_digest d f = (eq_by_cmp_equiv text_total).symm f d ∙ sym (texts_ties d f)

pub leaf_inserted : (s t : Digests) (d : Text) (x : Part) → x ≡ Leaf Both d → t ≡ set.insert s d → (f : Text) → set.contains t f ≡ (is_leaf x f || set.contains s f)
leaf_inserted s t d x is e f =
    ap (λ u. set.contains u f) e ∙ set.contains-insert text_total s d f ∙ ap (λ b. b || set.contains s f) (same_digest d f) ∙ ap (λ y. is_leaf y f || set.contains s f) (sym is)

pub none_yet : (s : Digests) (ps : List Part) → s ≡ set.empty → (f : Text) → (set.contains s f || is_present (items ps) f) ≡ is_present (items ps) f
none_yet s ps e f = ap (λ b. b || is_present (items ps) f) (ap (λ u. set.contains u f) e ∙ set.contains-empty text_cmp f)
