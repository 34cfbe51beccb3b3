-- Lists that diverge, and lists of which they are prefixes.
use Rattle.cadf_pathset.proofs.Common.{◌≡◌, ℕ, List, [], ◌∷◌, ◌++◌, refl, sym, ap, ◌∙◌, subst, append_assoc, length, Ordering, Less, Equal, Greater, ordering_then, tied_itself, Text, Texts, text_cmp, texts_cmp, texts_total, IsFork, IsForkAt, list_at, Fork}
use Rattle.cadf_pathset.proofs.Orders.{cmp_ends, cmp_parts, then_equal}

less_is_not : Less ≡ Equal → ⊥
less_is_not e = cc

greater_is_not : Greater ≡ Equal → ⊥
greater_is_not e = cc

then_first : (r z : Ordering) → (r ≡ Equal → ⊥) → ordering_then r z ≡ r
then_first Less z n = refl
then_first Equal z n = absurd (n refl)
then_first Greater z n = refl

pub no_fork : (ls : List Texts) (f : Fork) (p q : ℕ) → f.order ≡ Equal → IsForkAt ls f p q
no_fork ls f p q e n x y = absurd (n e)

-- one step up on both sides
module _ (ls : List Texts) (old new : Fork) (a b p q : ℕ) (t u : Text) (r : Ordering)
    (ours : list_at ls a ≡ list_at ls p ++ t ∷ []) (theirs : list_at ls b ≡ list_at ls q ++ u ∷ [])
    (long : length (list_at ls p) ≡ length (list_at ls q)) (is : r ≡ text_cmp t u) where
  before : Ordering
  before = texts_cmp (list_at ls p) (list_at ls q)

  here : (r ≡ Equal → ⊥) → IsForkAt ls (record { a = a; b = b; order = r }) p q
  unfolding before
  here n m x y =
      (λ i. texts_cmp (ours i ++ x) (theirs i ++ y))
      ∙ (λ i. texts_cmp (append_assoc (list_at ls p) (t ∷ []) x i) (append_assoc (list_at ls q) (u ∷ []) y i))
      ∙ cmp_parts (list_at ls p) (list_at ls q) (t ∷ x) (u ∷ y) long
      ∙ ap (ordering_then before) (ap (λ z. ordering_then z (texts_cmp x y)) (sym is) ∙ then_first r (texts_cmp x y) n)

  up : r ≡ Equal → texts_cmp (list_at ls a) (list_at ls b) ≡ before
  unfolding before
  up e =
      (λ i. texts_cmp (ours i) (theirs i)) ∙ cmp_ends (list_at ls p) (list_at ls q) t u long
      ∙ ap (ordering_then before) (sym is ∙ e) ∙ then_equal before

  pub fork_up : (r ≡ Equal → new ≡ old) → ((r ≡ Equal → ⊥) → new ≡ record { a = a; b = b; order = r }) → IsForkAt ls old a b → IsForkAt ls new p q
  unfolding before
  fork_up same other k = by r refl
    where
      by : (s : Ordering) → r ≡ s → IsForkAt ls new p q
      by Less e = let n : r ≡ Equal → ⊥ = λ z. less_is_not (sym e ∙ z) in subst (λ f. IsForkAt ls f p q) (sym (other n)) (here n)
      by Equal e =
          subst (λ f. IsForkAt ls f p q) (sym (same e)) (λ m x y. k m x y ∙ ap (λ z. ordering_then z old.order) (up e))
      by Greater e = let n : r ≡ Equal → ⊥ = λ z. greater_is_not (sym e ∙ z) in subst (λ f. IsForkAt ls f p q) (sym (other n)) (here n)

-- at one list
pub fork_found : (ls : List Texts) (f : Fork) (p q : ℕ) → list_at ls p ≡ list_at ls q → IsForkAt ls f p q → IsFork ls f
fork_found ls f p q e k n x y =
    k n x y ∙ ap (λ z. ordering_then (texts_cmp z (list_at ls q)) f.order) e ∙ ap (λ z. ordering_then z f.order) (tied_itself texts_total (list_at ls q))

-- at children of one parent
pub fork_at : (ls : List Texts) (a b p q : ℕ) (t u : Text) (r : Ordering) → list_at ls a ≡ list_at ls p ++ t ∷ [] → list_at ls b ≡ list_at ls q ++ u ∷ []
    → p ≡ q → r ≡ text_cmp t u → IsFork ls (record { a = a; b = b; order = r })
fork_at ls a b p q t u r ours theirs same is =
    let f : Fork = record { a = a; b = b; order = r } in
    let e = ap (list_at ls) same in
    fork_found ls f p q e (λ n x y. here ls f f a b p q t u r ours theirs (ap length e) is n n x y)
