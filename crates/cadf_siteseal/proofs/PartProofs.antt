-- The items of a part are those of a proof, and the roots that a seal has are roots.
use Rattle.cadf_siteseal.proofs.Common.{◌≡◌, ◌∙◌, ℕ, zero, suc, List, [], ◌∷◌, map, drop, Bool, true, false, true≢false, cond, Option, Some, None, not, refl, sym, ap, is_some, option_or, Text, is_text, both, shape_none, TimeUnit, Root, AreParts, keys_line, part_line, growth_items, item_line, next, IsGrowthItem, seal_items, next_seal, IsSealItem, AllFollow, HaveRoots, IsPartProof, gone_roots, held_roots, last_roots, own, roots_if, trees, GrowthItem, Window, Tree, Keys, GrowthState, SealItem, Floor, Gone, Held, SealState, SealedPart}

-- ---- the items of a part

abbrev Follow : TimeUnit → GrowthState → List GrowthItem → Type 0
Follow u s is = AllFollow growth_items IsGrowthItem u s is

after_keys : (u : TimeUnit) (s : GrowthState) (is : List GrowthItem) → s.keys ≡ true → Follow u s is
    → (map item_line (own is) ≡ map part_line (trees (own is))) × AreParts (trees (own is))
after_keys u s [] begun all = (refl, tt)
after_keys u s (Window t ∷ is) begun all = (refl, tt)
after_keys u s (Tree p ∷ is) begun all =
    let r = after_keys u s is begun all.1 in
    (ap (λ ls. part_line p ∷ ls) r.0, (all.0.0, r.1))
after_keys u s (Keys ∷ is) begun all =
    let p = both (is_some s.window) (not s.keys) (shape_none _ all.0.1) in
    absurd (true≢false (sym p.1 ∙ ap not begun))

pub before_keys : (u : TimeUnit) (s : GrowthState) (is : List GrowthItem) → Follow u s is → IsPartProof is
before_keys u s [] all = (refl, record { facts = tt; keys = tt })
before_keys u s (Window t ∷ is) all = (refl, record { facts = tt; keys = tt })
before_keys u s (Tree p ∷ is) all =
    let r = before_keys u s is all.1 in
    (ap (λ ls. part_line p ∷ ls) r.0, record { facts = (all.0.0, r.1.facts); keys = r.1.keys })
before_keys u s (Keys ∷ is) all =
    let r = after_keys u (next s Keys) is refl all.1 in
    (ap (λ ls. keys_line ∷ ls) r.0, record { facts = tt; keys = r.1 })

pub rest_is : (u : TimeUnit) (s : GrowthState) (is : List GrowthItem) (k : ℕ) → Follow u s is → IsPartProof (drop k is)
rest_is u s is zero all = before_keys u s is all
rest_is u s [] (suc k) all = (refl, record { facts = tt; keys = tt })
rest_is u s (i ∷ is) (suc k) all = rest_is u (next s i) is k all.1

-- ---- the roots of a part

abbrev FollowSeal : TimeUnit → SealState → List SealItem → Type 0
FollowSeal u s is = AllFollow seal_items IsSealItem u s is

if_roots : (n : Text) (p : SealedPart) → HaveRoots (Some (p.facts, p.keys)) → HaveRoots (roots_if n p)
if_roots n p are = by (is_text p.name n)
  where
    by : (b : Bool) → HaveRoots (cond b (Some (p.facts, p.keys)) None)
    by true = are
    by false = tt

or_roots : (o q : Option (Root × Root)) → HaveRoots o → HaveRoots q → HaveRoots (option_or o q)
or_roots None q a b = b
or_roots (Some r) q a b = a

pub held_are : (u : TimeUnit) (s : SealState) (n : Text) (is : List SealItem) → FollowSeal u s is → HaveRoots (held_roots n is)
held_are u s n [] all = tt
held_are u s n (Floor t ∷ is) all = held_are u (next_seal s (Floor t)) n is all.1
held_are u s n (Gone p ∷ is) all = held_are u (next_seal s (Gone p)) n is all.1
held_are u s n (Held p ∷ is) all =
    or_roots (roots_if n p) (held_roots n is) (if_roots n p (all.0.0.1.0.root, all.0.0.1.1.root)) (held_are u (next_seal s (Held p)) n is all.1)

gone_are : (u : TimeUnit) (s : SealState) (n : Text) (is : List SealItem) → FollowSeal u s is → HaveRoots (gone_roots n is)
gone_are u s n [] all = tt
gone_are u s n (Floor t ∷ is) all = gone_are u (next_seal s (Floor t)) n is all.1
gone_are u s n (Held p ∷ is) all = gone_are u (next_seal s (Held p)) n is all.1
gone_are u s n (Gone p ∷ is) all =
    or_roots (roots_if n p) (gone_roots n is) (if_roots n p (all.0.0.1.0.root, all.0.0.1.1.root)) (gone_are u (next_seal s (Gone p)) n is all.1)

pub last_are : (u : TimeUnit) (s : SealState) (n : Text) (is : List SealItem) → FollowSeal u s is → HaveRoots (last_roots n is)
last_are u s n is all = or_roots (held_roots n is) (gone_roots n is) (held_are u s n is all) (gone_are u s n is all)
