-- What is read of a line that begins with a letter and a space.
use Rattle.cadf_linefile.proofs.Common.{common_steps, ◌≡◌, ℕ, List, [], ◌∷◌, Bool, true, cond, take, drop, Option, Some, None, arith, nat_eq, starts_with, bytes_eq, is_some, shape_unless}

pub begins_with : (x y : ℕ) (s : List ℕ) → starts_with nat_eq s (x ∷ y ∷ []) ≡ true → s ≡ x ∷ y ∷ drop 2 s
begins_with x y s h = grind (arith, common_steps)

module _ {A : Type 0} where
  pub prefixed : (f : List ℕ → Option A) (x y : ℕ) (s w : List ℕ) → bytes_eq (take 2 s) (x ∷ y ∷ []) ≡ true → w ≡ drop 2 s
      → f w ≡ cond (starts_with nat_eq s (x ∷ y ∷ [])) (f (drop 2 s)) None
  prefixed f x y [] w h e = grind (arith, common_steps)
  prefixed f x y (a ∷ []) w h e = grind (arith, common_steps)
  prefixed f x y (a ∷ b ∷ s) w h e = grind (arith, common_steps)

  pub chosen : (b : Bool) (o : Option A) (a : A) → cond b o None ≡ Some a → (b ≡ true) × (o ≡ Some a)
  chosen b o a e = grind (arith, common_steps)

pub shape_none : (b : Bool) → shape_unless b ≡ None → b ≡ true
shape_none b e = grind (arith, common_steps)

pub there : {A : Type 0} (o : Option A) → is_some o ≡ true → (a : A) × (o ≡ Some a)
there o e = grind (arith, common_steps)
