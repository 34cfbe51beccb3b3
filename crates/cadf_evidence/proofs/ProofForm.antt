-- A proof that is made of digests has the form of one, and shows of each whether it is in the set.
use Rattle.cadf_evidence.proofs.Common.{◌≡◌, ◌++◌, Bool, true, false, if◌then◌else◌, List, [], ◌∷◌, Option, Some, None, take, drop, ap, sym, subst, AllByRecursion, nat_cmp, is_lt, slice_cmp, all_append, Text, rising, sha_digest, each_digest, rising_set, IsDigest, Digests, AreDigests, AreRising, Kinds, any_shown, first_kind, size, made_leaf, preorder, made_parts, asked_kinds, presence_parts, Hidden, Fork, IsSet, Tree, Tip, Branch, leaf_text, node_text, hash, leaves, all_leaves, tree_of, Kind, IsPart, AreParts, compared, compared_digests, growth_parts, union_set}
unfoldable use Rattle.std.specs.List.Sorted.{IsStrictlySortedBy}
unfoldable use Rattle.cadf_tree.specs.Made.{made}
use Rattle.cadf_tree.specs.Tree as tree
use Rattle.cadf_evidence.proofs.SetsOfDigests.{digests_are_set}

-- ---- the form of parts

all_left : {X : Type 0} (P : X → Type 0) (xs ys : List X) → AllByRecursion P (xs ++ ys) → AllByRecursion P xs
all_left P [] ys h = tt
all_left P (x ∷ xs) ys h = (h.0, all_left P xs ys h.1)

all_right : {X : Type 0} (P : X → Type 0) (xs ys : List X) → AllByRecursion P (xs ++ ys) → AllByRecursion P ys
all_right P [] ys h = h
all_right P (x ∷ xs) ys h = all_right P xs ys h.1

leaf_parts : (d : Text) (k : Option Kind) → IsDigest d → AreParts (preorder (made_leaf d k))
leaf_parts d None h = (sha_digest (leaf_text d), tt)
leaf_parts d (Some k) h = (h, tt)

hash_digest : (t : Tree) → IsDigest (hash t)
hash_digest (Tip d) = sha_digest (leaf_text d)
hash_digest (Branch l r) = sha_digest (node_text (hash l) (hash r))

tree_parts : (t : Tree) (ks : Kinds) → AllByRecursion IsDigest (leaves t) → AreParts (preorder (made t ks))
unfolding made
tree_parts (Tip d) ks h = leaf_parts d (first_kind ks) h.0
tree_parts (Branch l r) ks h =
    by (any_shown ks) (tree_parts l (take (size l) ks) (all_left IsDigest (leaves l) (leaves r) h))
    (tree_parts r (drop (size l) ks) (all_right IsDigest (leaves l) (leaves r) h))
  where
    by : (z : Bool) → AreParts (preorder (made l (take (size l) ks))) → AreParts (preorder (made r (drop (size l) ks)))
        → AreParts (preorder (if z then Fork (made l (take (size l) ks)) (made r (drop (size l) ks)) else Hidden (hash (Branch l r))))
    by true a b = (tt, all_append IsPart (preorder (made l (take (size l) ks))) (preorder (made r (drop (size l) ks))) a b)
    by false a b = (hash_digest (Branch l r), tt)

option_parts : (o : Option Tree) (ks : Kinds) → AllByRecursion IsDigest (all_leaves o) → AreParts (made_parts o ks)
option_parts None ks h = tt
option_parts (Some t) ks h = tree_parts t ks h

-- the leaves of a set's tree are its digests
abbrev pub HasTheSet : Type 0
HasTheSet = (ds : List Text) → IsSet ds → all_leaves (tree_of ds) ≡ ds

pub presence_form : HasTheSet → (s : Digests) (fs : List Text) → AreDigests s → AreParts (presence_parts (rising s) fs)
presence_form leaves_are s fs are =
    option_parts (tree_of (rising s)) (asked_kinds None (rising s) fs)
    (subst (λ ds. AllByRecursion IsDigest ds) (sym (leaves_are (rising s) (digests_are_set s are))) (each_digest s are))

line_digests : (ds : List Text) → AllByRecursion tree.IsDigest ds → AllByRecursion IsDigest ds
line_digests [] each = tt
line_digests (d ∷ ds) each = (record { size = each.0.size; bytes = each.0.bytes }, line_digests ds each.1)

pub growth_form : HasTheSet → (os ns : List Text) → IsSet os → IsSet ns → AreParts (growth_parts os ns)
growth_form leaves_are os ns old new =
    let set = union_set os ns old new in
    let ds = compared_digests (compared os ns) in
    option_parts (tree_of ds) _ (subst (λ es. AllByRecursion IsDigest es) (sym (leaves_are ds set)) (line_digests ds set.digests))

-- ---- digests that are asked for rise

pub are_rising : (ds : List Text) → IsStrictlySortedBy (slice_cmp nat_cmp) ds → AreRising ds
unfolding IsStrictlySortedBy
are_rising [] s = tt
are_rising (d ∷ []) s = tt
are_rising (d ∷ e ∷ ds) s = (ap is_lt s.0.0, are_rising (e ∷ ds) s.1)

pub asked_rise : (s : Digests) → AreRising (rising s)
asked_rise s = are_rising (rising s) (rising_set s)
