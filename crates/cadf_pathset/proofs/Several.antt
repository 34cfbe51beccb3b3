-- The first texts of sections, and how many of these have two or more first texts in turn.
use Rattle.cadf_pathset.proofs.Common.{◌≡◌, suc, Bool, true, false, cond, List, [], ◌∷◌, ap, refl, map, length, nat_le, filter, Text, Contents, suffixes_of, heads, multi_valued_keys, sections_of}
use Rattle.cadf_join.specs.Sets as set

abbrev pub text_in : Text × Contents → Text
text_in p = p.0

abbrev pub has_two : Text × Contents → Bool
has_two p = nat_le 2 (length (set.rising (heads p.1)))

texts_kept : (f : Text → Text × Contents) → ((t : Text) → text_in (f t) ≡ t) → (ts : List Text) → map text_in (map f ts) ≡ ts
texts_kept f same [] = refl
texts_kept f same (t ∷ ts) = λ i. same t i ∷ texts_kept f same ts i

pub texts_of : (s : Contents) → map text_in (sections_of s) ≡ set.rising (heads s)
texts_of s = texts_kept (λ t. (t, suffixes_of s t)) (λ t. refl) (set.rising (heads s))

filtered : (f : Text → Text × Contents) (ts : List Text) → length (filter has_two (map f ts)) ≡ length (filter (λ t. has_two (f t)) ts)
filtered f [] = refl
filtered f (t ∷ ts) = by (has_two (f t)) (filtered f ts)
  where
    by : (b : Bool) → length (filter has_two (map f ts)) ≡ length (filter (λ u. has_two (f u)) ts)
        → length (cond b (f t ∷ filter has_two (map f ts)) (filter has_two (map f ts)))
        ≡ length (cond b (t ∷ filter (λ u. has_two (f u)) ts) (filter (λ u. has_two (f u)) ts))
    by true on = ap suc on
    by false on = on

pub several_of : (s : Contents) → length (filter has_two (sections_of s)) ≡ length (multi_valued_keys s)
several_of s = filtered (λ t. (t, suffixes_of s t)) (set.rising (heads s))
