-- The hash that is made in one pass over rising leaves is that of their tree.
use Rattle.cadf_tree.proofs.Common.{◌≡◌, ◌∙◌, ◌+◌, ◌-◌, ◌<◌, ◌≤◌, ◌++◌, ℕ, zero, suc, Bool, true, false, cond, List, [], ◌∷◌, Option, None, Some, length, refl, ap, sym, subst, arith, append_assoc, append-nil, length-append, not, nat_lt, if◌then◌else◌, filter, AllByRecursion, ltb-true, ltb-false, filter-append, sha256, Text, Tree, Tip, Branch, hash, leaves, all_leaves, leaf_hash, node_hash, tree_hash, beside, bit, zeros, ones, divided, tree_of, alike, parting_from, parting, IsBefore, Rises, extended}

-- ---- bits that are shared

-- a and b have the same first k bits
abbrev pub Share : ℕ → Text → Text → Type 0
Share k a b = (j : ℕ) → j < k → bit j a ≡ bit j b

same_if : (x y : Bool) → alike x y ≡ true → x ≡ y
same_if true true h = refl
same_if true false h = absurd (cc)
same_if false true h = absurd (cc)
same_if false false h = refl

shared_by : (n i : ℕ) (a b : Text) → Share i a b → (x : Bool) → alike (bit i a) (bit i b) ≡ x
    → ((c : Text) → Share (suc i) a b → Share (parting_from n (suc i) a b) a b) → Share (if x then parting_from n (suc i) a b else i) a b
shared_by n i a b h true e f = f a (λ j low. one_more j low)
  where
    last : (j : ℕ) → j ≡ i → bit j a ≡ bit j b
    last j e' = subst (λ m. bit m a ≡ bit m b) (sym e') (same_if (bit i a) (bit i b) e)

    by : (j : ℕ) (z : Bool) → nat_lt j i ≡ z → j < suc i → bit j a ≡ bit j b
    by j true z low = h j (ltb-true _ _ z)
    by j false z low = last j (omega (arith, low, ltb-false _ _ z))

    one_more : (j : ℕ) → j < suc i → bit j a ≡ bit j b
    one_more j low = by j (nat_lt j i) refl low
shared_by n i a b h false e f = h

shared_from : (n i : ℕ) (a b : Text) → Share i a b → Share (parting_from n i a b) a b
unfolding parting_from
shared_from zero i a b h = h
shared_from (suc n) i a b h = shared_by n i a b h (alike (bit i a) (bit i b)) refl (λ c g. shared_from n (suc i) a b g)

pub share_parting : (a b : Text) → Share (parting a b) a b
unfolding parting
share_parting a b = shared_from 256 0 a b (λ j low. absurd (omega (arith, low)))

pub share_fewer : (j k : ℕ) (a b : Text) → j ≤ k → Share k a b → Share j a b
share_fewer j k a b less h i low = h i (omega (arith, low, less))

-- digests that differ at a bit part there or before
part_by : (a b : Text) (j : ℕ) → bit j a ≡ false → bit j b ≡ true → (z : Bool) → nat_lt j (parting a b) ≡ z → parting a b ≤ j
part_by a b j low high true z =
    let same : false ≡ true = sym low ∙ share_parting a b j (ltb-true _ _ z) ∙ high in
    absurd (cc)
part_by a b j low high false z = ltb-false _ _ z

pub part_at_most : (a b : Text) (j : ℕ) → bit j a ≡ false → bit j b ≡ true → parting a b ≤ j
part_at_most a b j low high = part_by a b j low high (nat_lt j (parting a b)) refl

-- ---- lists that share bits

abbrev pub AllShare : ℕ → Text → List Text → Type 0
AllShare k a ds = AllByRecursion (Share k a) ds

all_append : (P : Text → Type 0) (ds es : List Text) → AllByRecursion P ds → AllByRecursion P es → AllByRecursion P (ds ++ es)
all_append P [] es h k = k
all_append P (d ∷ ds) es h k = (h.0, all_append P ds es h.1 k)

all_right : (P : Text → Type 0) (ds es : List Text) → AllByRecursion P (ds ++ es) → AllByRecursion P es
all_right P [] es h = h
all_right P (d ∷ ds) es h = all_right P ds es h.1

pub all_more : (P R : Text → Type 0) (ds : List Text) → ((d : Text) → P d → R d) → AllByRecursion P ds → AllByRecursion R ds
all_more P R [] f h = tt
all_more P R (d ∷ ds) f h = (f d h.0, all_more P R ds f h.1)

rises_right : (ds es : List Text) → Rises (ds ++ es) → Rises es
rises_right [] es h = h
rises_right (d ∷ ds) es h = rises_right ds es h.1

pub all_in : (p : Text → Bool) (ds : List Text) → AllByRecursion (λ d. p d ≡ true) ds → filter p ds ≡ ds
all_in p [] h = refl
all_in p (d ∷ ds) h = ap (λ b. cond b (d ∷ filter p ds) (filter p ds)) h.0 ∙ ap (λ l. d ∷ l) (all_in p ds h.1)

all_out : (p : Text → Bool) (ds : List Text) → AllByRecursion (λ d. p d ≡ false) ds → filter p ds ≡ []
all_out p [] h = refl
all_out p (d ∷ ds) h = ap (λ b. cond b (d ∷ filter p ds) (filter p ds)) h.0 ∙ all_out p ds h.1

-- a list whose bit i is b
abbrev pub AllBit : ℕ → Bool → List Text → Type 0
AllBit i b ds = AllByRecursion (λ d. bit i d ≡ b) ds

bit_of_all : (i k : ℕ) (a : Text) (b : Bool) (ds : List Text) → i < k → bit i a ≡ b → AllShare k a ds → AllBit i b ds
bit_of_all i k a b ds low e h = all_more (Share k a) (λ d. bit i d ≡ b) ds (λ d s. sym (s i low) ∙ e) h

zeros_all : (i : ℕ) (ds : List Text) → AllBit i false ds → zeros i ds ≡ ds
zeros_all i ds h = all_in (λ d. not (bit i d)) ds (all_more (λ d. bit i d ≡ false) (λ d. not (bit i d) ≡ true) ds (λ d e. ap not e) h)

pub zeros_none : (i : ℕ) (ds : List Text) → AllBit i true ds → zeros i ds ≡ []
zeros_none i ds h = all_out (λ d. not (bit i d)) ds (all_more (λ d. bit i d ≡ true) (λ d. not (bit i d) ≡ false) ds (λ d e. ap not e) h)

-- ---- trees of such lists

pub trie_none : (n i : ℕ) → divided n i [] ≡ None
unfolding divided
trie_none zero i = refl
trie_none (suc n) i = λ j. beside (trie_none n (suc i) j) (trie_none n (suc i) j)

pub beside_leaves : (s t : Option Tree) → all_leaves (beside s t) ≡ all_leaves s ++ all_leaves t
beside_leaves None t = refl
beside_leaves (Some s) None = sym (append-nil (leaves s))
beside_leaves (Some s) (Some t) = refl

beside_none : (o : Option Tree) → beside o None ≡ o
beside_none None = refl
beside_none (Some t) = refl

lift_by : (n i : ℕ) (ds : List Text) (b : Bool) → AllBit i b ds → divided (suc n) i ds ≡ divided n (suc i) ds
unfolding divided
lift_by n i ds false h =
    (λ j. beside (divided n (suc i) (zeros_all i ds h j)) (divided n (suc i) (all_out (λ d. bit i d) ds h j)))
    ∙ ap (beside (divided n (suc i) ds)) (trie_none n (suc i)) ∙ beside_none (divided n (suc i) ds)
lift_by n i ds true h =
    (λ j. beside (divided n (suc i) (zeros_none i ds h j)) (divided n (suc i) (all_in (λ d. bit i d) ds h j)))
    ∙ ap (λ o. beside o (divided n (suc i) ds)) (trie_none n (suc i))

lift : (m n i k : ℕ) (a : Text) (ds : List Text) → m + i ≤ k → AllShare k a ds → divided (m + n) i ds ≡ divided n (m + i) ds
lift zero n i k a ds most h = (λ j. divided (same j) (same_i j) ds)
  where
    same : 0 + n ≡ n
    same = omega arith

    same_i : i ≡ 0 + i
    same_i = omega arith
lift (suc m) n i k a ds most h =
    ap (λ c. divided c i ds) next
    ∙ lift_by (m + n) i ds (bit i a) (bit_of_all i k a (bit i a) ds (omega (arith, most)) refl h)
    ∙ lift m n (suc i) k a ds (omega (arith, most)) h ∙ ap (λ c. divided n c ds) other
  where
    next : suc m + n ≡ suc (m + n)
    next = omega arith

    other : m + suc i ≡ suc m + i
    other = omega arith

-- from k bits that are shared to fewer
pub lower : (n k m j : ℕ) (a : Text) (ds : List Text) → n + k ≡ m + j → j ≤ k → AllShare k a ds → divided m j ds ≡ divided n k ds
lower n k m j a ds all less h =
    ap (λ c. divided c j ds) first ∙ lift (k - j) n j k a ds (omega (arith, less)) h ∙ ap (λ c. divided n c ds) second
  where
    first : m ≡ (k - j) + n
    first = omega (arith, all, less)

    second : (k - j) + j ≡ k
    second = omega (arith, less)

-- the tree of two lists that part at bit i
pub parted : (n i : ℕ) (ds es : List Text) → AllBit i false ds → AllBit i true es → divided (suc n) i (ds ++ es) ≡ beside (divided n (suc i) ds) (divided n (suc i) es)
unfolding divided
parted n i ds es h k = λ j. beside (divided n (suc i) (low j)) (divided n (suc i) (high j))
  where
    low : zeros i (ds ++ es) ≡ ds
    low = filter-append (λ d. not (bit i d)) ds es ∙ (λ j. zeros_all i ds h j ++ zeros_none i es k j) ∙ append-nil ds

    high : ones i (ds ++ es) ≡ es
    high = filter-append (λ d. bit i d) ds es ∙ (λ j. all_out (λ d. bit i d) ds h j ++ all_in (λ d. bit i d) es k j)

-- ---- one pass

-- the next leaf doesn't share k bits with a
abbrev pub Stops : ℕ → Text → List Text → Type 0
Stops k a [] = Unit {0}
Stops k a (d ∷ ds) = parting a d < k

-- what was extended by those of ds that share k bits with a
pub record IsExtended (a : Text) (done ds : List Text) (n k : ℕ) (out : Text × List Text) : Type 0 where
  pub more : List Text
  pub split : ds ≡ more ++ out.1
  pub shares : AllShare k a more
  pub stops : Stops k a out.1
  pub tree : Tree
  pub is : divided n k (done ++ more) ≡ Some tree
  pub hash : hash tree ≡ out.0

abbrev pub AllBefore : Text → List Text → Type 0
AllBefore a ds = AllByRecursion (IsBefore a) ds

-- after the part of d, no leaf shares with a the bit at which d parted from a
stops_still : (a d : Text) (ds : List Text) → IsBefore a d → AllBefore d ds → AllBefore a ds → Stops (suc (parting a d)) d ds → Stops (parting a d) a ds
stops_still a d [] ad de ae h = tt
stops_still a d (e ∷ ds) ad de ae h = by (nat_lt (parting d e) (parting a d)) refl
  where
    at : parting d e ≡ parting a d → ⊥
    at same =
        let both : true ≡ false = sym ad.high ∙ ap (λ j. bit j d) (sym same) ∙ de.0.low in
        absurd (cc)

    by : (z : Bool) → nat_lt (parting d e) (parting a d) ≡ z → parting a e < parting a d
    by true z =
        let less = ltb-true _ _ z in
        let most = part_at_most a e (parting d e) (share_parting a d (parting d e) less ∙ de.0.low) de.0.high in
        omega (arith, less, most)
    by false z = absurd (at (omega (arith, h, ltb-false _ _ z)))

module _ (a : Text) (done : List Text) (n k m : ℕ) (t : Tree) where
  -- nothing is added
  stopped : (ds : List Text) (j : ℕ) → m + k ≡ n + j → j ≤ k → AllShare k a done → divided m k done ≡ Some t → Stops j a ds → IsExtended a done ds n j (hash t, ds)
  stopped ds j all less h is stop = record {
    more = [];
    split = refl;
    shares = tt;
    stops = stop;
    tree = t;
    is = ap (divided n j) (append-nil done) ∙ lower m k n j a done all less h ∙ is;
    hash = refl;
  }

pub trie_end : (i : ℕ) (d : Text) → divided zero i (d ∷ []) ≡ Some (Tip d)
unfolding divided
trie_end i d = refl

pub share_itself : (k : ℕ) (a : Text) → Share k a a
share_itself k a j low = refl

module _ (a d : Text) (done ds : List Text) (m k n j c p w : ℕ) (t : Tree) (mid out : Text × List Text) where
  -- the part of d stands beside what was done, and then comes what is left
  go : IsBefore a d → c ≡ parting a d → AllBefore d ds → AllBefore a ds → m + k ≡ suc (p + c) → j ≤ c → c < k → AllShare k a done → divided m k done ≡ Some t
      → (right : IsExtended d (d ∷ []) ds p (suc c) mid)
      → ((u : Tree) → AllShare c a (done ++ d ∷ right.more) → divided (suc p) c (done ++ d ∷ right.more) ≡ Some u → hash u ≡ node_hash (hash t) mid.0 → Stops c a mid.1
      → AllBefore a mid.1 → length mid.1 ≤ length ds → IsExtended a (done ++ d ∷ right.more) mid.1 n j out)
      → IsExtended a done (d ∷ ds) n j out
  go before at de ae all low high h is right next = record {
    more = d ∷ right.more ++ last.more;
    split = ap (λ l. d ∷ l) (right.split ∙ ap (λ l. right.more ++ l) last.split ∙ sym (append_assoc right.more last.more out.1));
    shares = (share_fewer j c a d low first, all_append (Share j a) right.more last.more (all_more (Share c a) (Share j a) right.more (λ x s. share_fewer j c a x low s) shared) last.shares);
    stops = last.stops;
    tree = last.tree;
    is = ap (divided n j) (sym (append_assoc done (d ∷ right.more) last.more)) ∙ last.is;
    hash = last.hash;
  }
    where
      first : Share c a d
      first = subst (λ x. Share x a d) (sym at) (share_parting a d)

      shared : AllShare c a right.more
      shared = all_more (Share (suc c) d) (Share c a) right.more (λ x s i less. first i less ∙ s i (omega (arith, less))) right.shares

      bit_low : bit c a ≡ false
      bit_low = subst (λ x. bit x a ≡ false) (sym at) before.low

      bit_high : bit c d ≡ true
      bit_high = subst (λ x. bit x d ≡ true) (sym at) before.high

      both : AllShare c a (done ++ d ∷ right.more)
      both = all_append (Share c a) done (d ∷ right.more) (all_more (Share k a) (Share c a) done (λ x s. share_fewer c k a x (omega (arith, high)) s) h) (first, shared)

      two : divided (suc p) c (done ++ d ∷ right.more) ≡ Some (Branch t right.tree)
      two =
          parted p c done (d ∷ right.more) (bit_of_all c k a false done high bit_low h)
          (bit_high, all_more (Share (suc c) d) (λ x. bit c x ≡ true) right.more (λ x s. sym (s c (omega arith)) ∙ bit_high) right.shares)
          ∙ (λ i. beside ((lower m k p (suc c) a done (omega (arith, all)) (omega (arith, high)) h ∙ is) i) (right.is i))

      left_before : (b : Text) → AllBefore b ds → AllBefore b mid.1
      left_before b h = all_right (IsBefore b) right.more mid.1 (subst (AllByRecursion (IsBefore b)) right.split h)

      stops : Stops c a mid.1
      stops = subst (λ x. Stops x a mid.1) (sym at)
          (stops_still a d mid.1 before (left_before d de) (left_before a ae) (subst (λ x. Stops (suc x) d mid.1) at right.stops))

      fewer : length mid.1 ≤ length ds
      fewer = omega (arith, ap length right.split ∙ length-append right.more mid.1)

      last : IsExtended a (done ++ d ∷ right.more) mid.1 n j out
      last = next (Branch t right.tree) both two (ap (node_hash (hash t)) right.hash) stops (left_before a ae) fewer

stops_all : (d : Text) (ds : List Text) → AllBefore d ds → Stops 256 d ds
stops_all d [] h = tt
stops_all d (e ∷ ds) h = h.0.some

rises_left : (ds more rest : List Text) → Rises ds → ds ≡ more ++ rest → Rises rest
rises_left ds more rest h e = rises_right more rest (subst Rises e h)

pub extended_is : (f : ℕ) (a : Text) (done ds : List Text) (m k n j w : ℕ) (t : Tree) → w ≡ 256 → length ds ≤ f → m + k ≡ w → n + j ≡ w → j ≤ k → AllShare k a done → divided m k done ≡ Some t
    → Stops k a ds → AllBefore a ds → Rises ds → IsExtended a done ds n j (extended f a (hash t) ds j)
extended_is zero a done [] m k n j w t full fit all most less h is stop ae rise = stopped a done n k m t [] j (omega (arith, all, most)) less h is tt
extended_is zero a done (d ∷ ds) m k n j w t full fit all most less h is stop ae rise = absurd (omega (arith, fit))
extended_is (suc f) a done [] m k n j w t full fit all most less h is stop ae rise = stopped a done n k m t [] j (omega (arith, all, most)) less h is tt
extended_is (suc f) a done (d ∷ ds) m k n j w t full fit all most less h is stop ae rise =
    let right = extended_is f d (d ∷ []) ds 0 w (w - suc c) (suc c) w (Tip d) full (omega (arith, fit)) (omega arith)
    (omega (arith, ae.0.some, full)) (omega (arith, ae.0.some, full)) (share_itself w d, tt) (trie_end w d)
    (subst (λ x. Stops x d ds) (sym full) (stops_all d ds rise.0)) rise.0 rise.1 in
    by right (λ high u s i st before short. extended_is f a (done ++ d ∷ right.more) mid.1 (suc (w - suc c)) c n j w u full
    (omega (arith, short, fit)) (omega (arith, ae.0.some, full)) most high s i st before (rises_left ds right.more mid.1 rise.1 right.split))
    (nat_lt (parting a d) j) refl
  where
    c : ℕ
    c = parting a d

    mid : Text × List Text
    mid = extended f d (leaf_hash d) ds (suc c)

    by : (right : IsExtended d (d ∷ []) ds (w - suc c) (suc c) mid)
        → (j ≤ c → (u : Tree) → AllShare c a (done ++ d ∷ right.more) → divided (suc (w - suc c)) c (done ++ d ∷ right.more) ≡ Some u → Stops c a mid.1
        → AllBefore a mid.1 → length mid.1 ≤ length ds → IsExtended a (done ++ d ∷ right.more) mid.1 n j (extended f a (hash u) mid.1 j))
        → (z : Bool) → nat_lt (parting a d) j ≡ z
        → IsExtended a done (d ∷ ds) n j (if z then (hash t, d ∷ ds) else extended f a (node_hash (hash t) mid.0) mid.1 j)
    by right next true z = stopped a done n k m t (d ∷ ds) j (omega (arith, all, most)) less h is (ltb-true _ _ z)
    by right next false z =
        go a d done ds m k n j c (w - suc c) w t mid (extended f a (node_hash (hash t) mid.0) mid.1 j)
        ae.0 refl rise.0 ae.1 (omega (arith, all, ae.0.some, full)) (ltb-false _ _ z) stop h is right
        (λ u s i e st before short. subst (λ x. IsExtended a (done ++ d ∷ right.more) mid.1 n j (extended f a x mid.1 j)) e
        (next (ltb-false _ _ z) u s i st before short))

none_left : (a : Text) (ds : List Text) → Stops 0 a ds → ds ≡ []
none_left a [] h = refl
none_left a (d ∷ ds) h = absurd (omega (arith, h))

root_by : (w : ℕ) (d : Text) (ds : List Text) (out : Text × List Text) → IsExtended d (d ∷ []) ds w 0 out → out.0 ≡ tree_hash (divided w 0 (d ∷ ds))
root_by w d ds out x =
    let all : ds ≡ x.more = x.split ∙ ap (λ l. x.more ++ l) (none_left d out.1 x.stops) ∙ append-nil x.more in
    sym x.hash ∙ ap tree_hash (sym x.is) ∙ ap (λ l. tree_hash (divided w 0 (d ∷ l))) (sym all)

pub root_is : (w : ℕ) (d : Text) (ds : List Text) → w ≡ 256 → Rises (d ∷ ds) → (extended (length ds) d (leaf_hash d) ds 0).0 ≡ tree_hash (divided w 0 (d ∷ ds))
root_is w d ds full h =
    root_by w d ds (extended (length ds) d (leaf_hash d) ds 0)
    (extended_is (length ds) d (d ∷ []) ds 0 w w 0 w (Tip d) full (omega arith) (omega arith) (omega arith) (omega arith) (share_itself w d, tt) (trie_end w d)
    (subst (λ x. Stops x d ds) (sym full) (stops_all d ds h.0)) h.0 h.1)

pub root_none : (ds : List Text) → ds ≡ [] → sha256 [] ≡ tree_hash (tree_of ds)
unfolding tree_of
root_none ds e = ap tree_hash (sym (trie_none 256 0)) ∙ ap (λ l. tree_hash (divided 256 0 l)) (sym e)

pub root_code : (d : Text) (ds all : List Text) (leaf x : Text) → all ≡ d ∷ ds → Rises all → leaf ≡ leaf_hash d → x ≡ (extended (length ds) d leaf ds 0).0 → x ≡ tree_hash (tree_of all)
unfolding tree_of
root_code d ds all leaf x e rise is out =
    out ∙ ap (λ l. (extended (length ds) d l ds 0).0) is ∙ root_is 256 d ds refl (subst Rises e rise) ∙ ap (λ l. tree_hash (divided 256 0 l)) (sym e)
