-- Collecting the places of lists in two parts is the same as at once.
use Rattle.std.specs.Prelude.{◌≡◌, ◌≤◌, ◌+◌, ℕ, Bool, cond, List, [], ◌∷◌, ◌++◌, take, length}
use Rattle.std.proofs.Common.{refl, sym, ap, subst, ◌∙◌, append_assoc, append-nil, arith}
use Rattle.std.proofs.lemmas.List.{length-append}
use Rattle.cadf_join.specs.Sets as set
use Rattle.cadf_join.specs.Contents.{Texts}
use Rattle.cadf_line.specs.Digest.{atom_digest}
use Rattle.cadf_key.specs.laws.Collected.{none_decide, same_key}
use Rattle.cadf_listed.specs.ListFile.{Names, key_name}
use Rattle.cadf_erased.specs.Left.{is_omitted, places_left, Collects, IsKnown}

places_append : (n m : ℕ) (names : Names) (xs ys : List Texts) → m ≡ n + length xs → places_left n names (xs ++ ys) ≡ places_left n names xs ++ places_left m names ys
places_append n m names [] ys e = ap (λ i. places_left i names ys) (omega (arith, e))
places_append n m names (x ∷ xs) ys e =
    let here = cond (is_omitted names x) [] (n ∷ []) in
    ap (λ r. here ++ r) (places_append (n + 1) m names xs ys (omega (arith, e)))
    ∙ sym (append_assoc here (places_left (n + 1) names xs) (places_left m names ys))

pub collects_none : (names : Names) (n : ℕ) (is : List ℕ) → Collects names n is [] names n is
collects_none names n is = (refl, omega arith, sym (append-nil is))

pub collects_more : (a b c : Names) (l m n : ℕ) (is js ks : List ℕ) (ps qs : List Texts)
    → Collects a l is ps b m js → Collects b m js qs c n ks → Collects a l is (ps ++ qs) c n ks
collects_more a b c l m n is js ks ps qs f g =
    let long = length-append ps qs in (
      g.0 ∙ f.0,
      omega (arith, f.1, g.1, long),
      g.2 ∙ (λ i. f.2 i ++ places_left m (f.0 i) qs)
          ∙ append_assoc is (places_left l a ps) (places_left m a qs)
          ∙ ap (λ z. is ++ z) (sym (places_append l m a ps qs f.1)),
    )

-- ---- whether a key was erased

pub none_known : (names : Names) (has : Bool) (q : Texts) → IsKnown names has 0 q
none_known names has q low = absurd (none_decide q low)

pub known_shared : (names : Names) (has : Bool) (before list : Texts) (n : ℕ) → IsKnown names has (length before) before → n ≤ length before → n ≤ length list
    → take n before ≡ take n list → IsKnown names has n list
known_shared names has before list n kept fits fits_list same low =
    let key = same_key before list n fits same low in
    subst (λ k. has ≡ set.contains names (key_name (atom_digest k))) key.1 (kept key.0)
