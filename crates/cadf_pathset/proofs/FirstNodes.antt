-- The first of some nodes.
use Rattle.cadf_pathset.proofs.Common.{common_steps, ◌≡◌, ℕ, ◌+◌, List, [], ◌∷◌, ◌++◌, refl, sym, ap, ◌∙◌, suc, zero, length, take, arith, length_push, length-take, take-take, take_all, take_at, Texts, list_at, lists_from, lists, ParentsFirst, AreNodes}

from_front : (known : List Texts) (ps : List ℕ) (ts : Texts) → take (length known) (lists_from known ps ts) ≡ known
unfolding lists_from
from_front known [] ts = take_all (length known) known (omega arith)
from_front known (p ∷ ps) [] = take_all (length known) known (omega arith)
from_front known (p ∷ ps) (t ∷ ts) =
    let x : Texts = list_at known p ++ t ∷ [] in
    let one = length_push known x in
    sym (take-take (length known) (length (known ++ x ∷ [])) (lists_from (known ++ x ∷ []) ps ts) (omega (arith, one)))
    ∙ ap (take (length known)) (from_front (known ++ x ∷ []) ps ts) ∙ take_at known (x ∷ []) (length known) refl

lists_cut : (known : List Texts) (ps : List ℕ) (ts : Texts) (n : ℕ) → length ps ≡ length ts
    → lists_from known (take n ps) (take n ts) ≡ take (length known + n) (lists_from known ps ts)
unfolding lists_from
lists_cut known ps ts zero e = sym (from_front known ps ts) ∙ sym (ap (λ j. take j (lists_from known ps ts)) k)
  where
    k : length known + 0 ≡ length known
    k = omega arith
lists_cut known [] [] (suc n) e = sym (take_all (length known + suc n) known (omega arith))
lists_cut known [] (t ∷ ts) (suc n) e = absurd (omega (arith, e))
lists_cut known (p ∷ ps) [] (suc n) e = absurd (omega (arith, e))
lists_cut known (p ∷ ps) (t ∷ ts) (suc n) e =
    let x : Texts = list_at known p ++ t ∷ [] in
    grind (arith, common_steps, length_push, (lists_cut (known ++ x ∷ []) ps ts n (omega (arith, e))))

pub lists_front : (ps : List ℕ) (ts : Texts) (n : ℕ) → length ps ≡ length ts → lists (take n ps) (take n ts) ≡ take n (lists ps ts)
lists_front ps ts n e = grind (arith, common_steps, lists_cut)

first_parents : (ps : List ℕ) (m n : ℕ) → ParentsFirst m ps → ParentsFirst m (take n ps)
unfolding ParentsFirst
first_parents ps m zero h = tt
first_parents [] m (suc n) h = tt
first_parents (p ∷ ps) m (suc n) h = (h.0, first_parents ps (m + 1) n h.1)

pub nodes_cut : (ps : List ℕ) (ts : Texts) (n : ℕ) → AreNodes ps ts → AreNodes (take n ps) (take n ts)
nodes_cut ps ts n h = grind (arith, common_steps, length-take, first_parents)
