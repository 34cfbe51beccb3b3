-- The lists of the nodes of an arena, one by one and after a node is appended.
use Rattle.cadf_pathset.proofs.Common.{common_steps, ◌≡◌, ℕ, ◌+◌, ◌-◌, ◌<◌, ◌≤◌, List, [], ◌∷◌, ◌++◌, refl, sym, ap, ◌∙◌, suc, zero, length, get_or, arith, length_push, get_or_append_left, get_or_push, get_or_read, Text, Texts, list_at, lists_from, lists, ParentsFirst, last_text, AreNodes}

pub length_from : (known : List Texts) (ps : List ℕ) (ts : Texts) → length ps ≡ length ts → length (lists_from known ps ts) ≡ length known + length ps
unfolding lists_from
length_from known [] ts e = omega arith
length_from known (p ∷ ps) [] e = absurd (omega (arith, e))
length_from known (p ∷ ps) (t ∷ ts) e =
    let x : Texts = list_at known p ++ t ∷ [] in
    grind (arith, common_steps, length_push, (length_from (known ++ x ∷ []) ps ts (omega (arith, e))))

pub from_kept : (known : List Texts) (ps : List ℕ) (ts : Texts) (n : ℕ) → n < length known → get_or (lists_from known ps ts) n [] ≡ get_or known n []
unfolding lists_from
from_kept known [] ts n h = refl
from_kept known (p ∷ ps) [] n h = refl
from_kept known (p ∷ ps) (t ∷ ts) n h =
    let x : Texts = list_at known p ++ t ∷ [] in
    let one = length_push known x in
    from_kept (known ++ x ∷ []) ps ts n (omega (arith, one, h)) ∙ get_or_append_left known (x ∷ []) [] n h

pub from_at : (known : List Texts) (ps : List ℕ) (ts : Texts) (n : ℕ) → n ≤ length known → list_at (lists_from known ps ts) n ≡ list_at known n
from_at known ps ts zero h = refl
from_at known ps ts (suc n) h = from_kept known ps ts n (omega (arith, h))

pub from_pushed : (known : List Texts) (ps : List ℕ) (ts : Texts) (p : ℕ) (t : Text) → length ps ≡ length ts
    → lists_from known (ps ++ p ∷ []) (ts ++ t ∷ []) ≡ lists_from known ps ts ++ (list_at (lists_from known ps ts) p ++ t ∷ []) ∷ []
unfolding lists_from
from_pushed known [] [] p t e = refl
from_pushed known [] (u ∷ ts) p t e = absurd (omega (arith, e))
from_pushed known (q ∷ ps) [] p t e = absurd (omega (arith, e))
from_pushed known (q ∷ ps) (u ∷ ts) p t e = from_pushed (known ++ (list_at known q ++ u ∷ []) ∷ []) ps ts p t (omega (arith, e))

from_node : (known : List Texts) (ps : List ℕ) (ts : Texts) (k n m : ℕ) → length ps ≡ length ts → ParentsFirst m ps → m ≡ length known + 1 → n ≡ length known + k
    → k < length ps → get_or (lists_from known ps ts) n [] ≡ list_at (lists_from known ps ts) (get_or ps k 0) ++ get_or ts k [] ∷ []
unfolding lists_from ParentsFirst
from_node known [] ts k n m e f a b l = absurd (omega (arith, l))
from_node known (p ∷ ps) [] k n m e f a b l = absurd (omega (arith, e))
from_node known (p ∷ ps) (t ∷ ts) zero n m e f a b l = grind (arith, common_steps, length_push, from_kept, get_or_push, from_at, get_or_append_left)
from_node known (p ∷ ps) (t ∷ ts) (suc k) n m e f a b l =
    let x : Texts = list_at known p ++ t ∷ [] in
    let one = length_push known x in
    from_node (known ++ x ∷ []) ps ts k n (m + 1) (omega (arith, e)) f.1 (omega (arith, one, a)) (omega (arith, one, b)) (omega (arith, l))

from_before : (ps : List ℕ) (k m : ℕ) → ParentsFirst m ps → k < length ps → get_or ps k 0 < m + k
unfolding ParentsFirst
from_before [] k m f l = absurd (omega (arith, l))
from_before (p ∷ ps) zero m f l = let first = f.0 in omega (arith, first)
from_before (p ∷ ps) (suc k) m f l = let rest = from_before ps k (m + 1) f.1 (omega (arith, l)) in omega (arith, rest)

from_first : (ps : List ℕ) (p m n : ℕ) → ParentsFirst m ps → n ≡ m + length ps → p < n → ParentsFirst m (ps ++ p ∷ [])
unfolding ParentsFirst
from_first [] p m n f e l = (omega (arith, e, l), tt)
from_first (q ∷ ps) p m n f e l = (f.0, from_first ps p (m + 1) n f.1 (omega (arith, e)) l)

pub none_are_nodes : AreNodes [] []
unfolding ParentsFirst
none_are_nodes = record { as_many = refl; parents_first = tt }

pub no_lists : lists [] [] ≡ []
unfolding lists_from
no_lists = refl

module _ (ps : List ℕ) (ts : Texts) (a : AreNodes ps ts) where
  pub as_many : length (lists ps ts) ≡ length ps
  as_many = let n = length_from [] ps ts a.as_many in omega (arith, n)

  pub pushed : (p : ℕ) (t : Text) → lists (ps ++ p ∷ []) (ts ++ t ∷ []) ≡ lists ps ts ++ (list_at (lists ps ts) p ++ t ∷ []) ∷ []
  pushed p t = from_pushed [] ps ts p t a.as_many

  pub pushed_are_nodes : (p : ℕ) (t : Text) → p ≤ length (lists ps ts) → AreNodes (ps ++ p ∷ []) (ts ++ t ∷ [])
  pushed_are_nodes p t l =
      let n = as_many in
      let x = length_push ps p in
      let y = length_push ts t in
      let e = a.as_many in
      record {
        as_many = omega (arith, x, y, e);
        parents_first = from_first ps p 1 (1 + length ps) a.parents_first refl (omega (arith, n, l));
      }

  pub before_child : (k : ℕ) → k < length ps → get_or ps k 0 < 1 + k
  before_child k l = from_before ps k 1 a.parents_first l

  pub node_is : (k : ℕ) → k < length ps → get_or (lists ps ts) k [] ≡ list_at (lists ps ts) (get_or ps k 0) ++ get_or ts k [] ∷ []
  node_is k l = from_node [] ps ts k k 1 a.as_many a.parents_first refl (omega arith) l

pub at_grown : (ls ms : List Texts) (n : ℕ) → n ≤ length ls → list_at (ls ++ ms) n ≡ list_at ls n
at_grown ls ms n h = get_or_append_left ([] ∷ ls) ms [] n (omega (arith, h))

pub last_of_push : (l : Texts) (t : Text) → last_text (l ++ t ∷ []) ≡ t
last_of_push l t = let n = length_push l t in get_or_push l t [] (length (l ++ t ∷ []) - 1) (omega (arith, n))

pub pushed_back : (l m : Texts) (t : Text) → l ≡ m ++ t ∷ [] → l ≡ m ++ last_text l ∷ []
pushed_back l m t e = e ∙ ap (λ z. m ++ z ∷ []) (sym (ap last_text e ∙ last_of_push m t))

module _ (ps : List ℕ) (ts : Texts) (a : AreNodes ps ts) (ls : List Texts) (view : lists ps ts ≡ ls) where
  pub node_count : length ps ≡ length ls
  node_count = let m = as_many ps ts a in let v = ap length view in omega (arith, m, v)

  module _ (n : ℕ) (behind : 0 < n) (there : n ≤ length ls) where
    within : n - 1 < length ps
    within = let m = node_count in omega (arith, m, behind, there)

    pub parent_before : (r : ℕ) → r ≡ get_or ps (n - 1) r → r < n
    parent_before r read =
        let e : r ≡ get_or ps (n - 1) 0 = get_or_read ps (n - 1) r within read 0 in
        let b = before_child ps ts a (n - 1) within in
        omega (arith, e, b, behind)

    at_node : (r : ℕ) → r ≡ get_or ps (n - 1) 0 → list_at ls n ≡ list_at ls r ++ get_or ts (n - 1) [] ∷ []
    at_node r e =
        let one : n ≡ suc (n - 1) = omega (arith, behind) in
        ap (list_at ls) one ∙ ap (λ z. get_or z (n - 1) []) (sym view) ∙ node_is ps ts a (n - 1) within
        ∙ (λ i. list_at (view i) (sym e i) ++ get_or ts (n - 1) [] ∷ [])

    pub list_of_parent : (r : ℕ) → r ≡ get_or ps (n - 1) r → list_at ls n ≡ list_at ls r ++ last_text (list_at ls n) ∷ []
    list_of_parent r read = pushed_back (list_at ls n) (list_at ls r) (get_or ts (n - 1) []) (at_node r (get_or_read ps (n - 1) r within read 0))

    pub text_of_node : get_or ts (n - 1) [] ≡ last_text (list_at ls n)
    text_of_node =
        sym (ap last_text (at_node (get_or ps (n - 1) 0) refl) ∙ last_of_push (list_at ls (get_or ps (n - 1) 0)) (get_or ts (n - 1) []))

    pub text_there : n - 1 < length ts
    text_there = let w = within in let e = a.as_many in omega (arith, w, e)

-- no list has more texts than there are nodes up to its own
small_by : (ps : List ℕ) (ts : Texts) → AreNodes ps ts → (fuel n : ℕ) → n ≤ fuel → n ≤ length ps → length (list_at (lists ps ts) n) ≤ n
small_by ps ts a fuel zero f h = omega arith
small_by ps ts a zero (suc n) f h = absurd (omega (arith, f))
small_by ps ts a (suc fuel) (suc n) f h =
    let p : ℕ = get_or ps n 0 in
    let before = before_child ps ts a n (omega (arith, h)) in
    let up = small_by ps ts a fuel p (omega (arith, before, f)) (omega (arith, before, h)) in
    let one = ap length (node_is ps ts a n (omega (arith, h))) in
    let more = length_push (list_at (lists ps ts) p) (get_or ts n []) in
    omega (arith, before, up, one, more)

pub list_small : (ps : List ℕ) (ts : Texts) → AreNodes ps ts → (ls : List Texts) → lists ps ts ≡ ls → (n : ℕ) → n ≤ length ls → length (list_at ls n) ≤ length ls
list_small ps ts a ls view n h =
    let m = node_count ps ts a ls view in
    grind (arith, common_steps, small_by)

pub one_longer : (l m : Texts) (t : Text) → l ≡ m ++ t ∷ [] → length l ≡ length m + 1
one_longer l m t e = ap length e ∙ length_push m t
