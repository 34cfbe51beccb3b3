-- The lists that a visitor has visited so far, of all that it is to visit.
--     Shown takes old new rest all     visiting all lists but the rest leads from the old state to the new one
use Rattle.cadf_join.proofs.Common.{◌≡◌, List, [], ◌++◌, sym, ap, subst, ◌∙◌, append_assoc, Texts}

pub record Shown {S : Type 0} (takes : S → List Texts → S → Type 0) (old new : S) (rest all : List Texts) : Type 0 where
  pub done : List Texts
  pub taken : takes old done new
  pub split : done ++ rest ≡ all

module _ {S : Type 0} (takes : S → List Texts → S → Type 0)
    (more : (u v w : S) (xs ys : List Texts) → takes u xs v → takes v ys w → takes u (xs ++ ys) w) where
  pub shown_at_first : (u : S) → takes u [] u → (rest all : List Texts) → rest ≡ all → Shown takes u u rest all
  shown_at_first u none rest all e = record {
    done = [];
    taken = none;
    split = e;
  }

  pub shown_more : (u v w : S) (before here rest all : List Texts) → before ≡ here ++ rest → Shown takes u v before all → takes v here w
      → Shown takes u w rest all
  shown_more u v w before here rest all e s t = record {
    done = s.done ++ here;
    taken = more u v w s.done here s.taken t;
    split = append_assoc s.done here rest ∙ ap (λ r. s.done ++ r) (sym e) ∙ s.split;
  }

-- a visitor that stops at the rest, or at the first of it, stops in its walk of all lists
module _ {S F : Type 0} (takes : S → List Texts → S → Type 0) (stops : S → List Texts → F → S → Type 0)
    (later : (u v w : S) (xs ys : List Texts) (f : F) → takes u xs v → stops v ys f w → stops u (xs ++ ys) f w) where
  pub shown_stops : (u v w : S) (rest all : List Texts) (f : F) → Shown takes u v rest all → stops v rest f w → stops u all f w
  shown_stops u v w rest all f s t = subst (λ xs. stops u xs f w) s.split (later u v w s.done rest f s.taken t)

  pub shown_stops_in : ((u v : S) (xs ys : List Texts) (f : F) → stops u xs f v → stops u (xs ++ ys) f v)
      → (u v w : S) (before here rest all : List Texts) (f : F)
      → before ≡ here ++ rest → Shown takes u v before all → stops v here f w → stops u all f w
  shown_stops_in sooner u v w before here rest all f e s t =
      shown_stops u v w before all f s (subst (λ xs. stops v xs f w) (sym e) (sooner v w here rest f t))
