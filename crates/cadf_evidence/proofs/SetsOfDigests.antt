-- Sets of digests, as the tree takes them.
use Rattle.cadf_evidence.proofs.Common.{◌<◌, ◌^◌, List, [], ◌∷◌, length, sym, subst, arith, AllByRecursion, Text, Contents, rising, sha_digest, each_digest, rising_set, digest_of_some, IsDigest, atom_digest, Digests, digests_of, AreDigests, IsSet, root, root_text, tree_hash, tree_of, IsRoot, fact_digests, key_digests, key_digest, keys_of, AreRisingDigests}
use Rattle.cadf_tree.specs.Tree as tree

tree_digests : (ds : List Text) → AllByRecursion IsDigest ds → AllByRecursion tree.IsDigest ds
tree_digests [] each = tt
tree_digests (d ∷ ds) each = (record { size = each.0.size; bytes = each.0.bytes }, tree_digests ds each.1)

pub digests_are_set : (s : Digests) → AreDigests s → IsSet (rising s)
digests_are_set s are = record { digests = tree_digests (rising s) (each_digest s are); rising = rising_set s }

pub listed_are_set : (ds : List Text) → AreRisingDigests ds → IsSet ds
listed_are_set ds are = record { digests = tree_digests ds are.0; rising = are.1 }

pub facts_are_set : (held : Contents) → IsSet (fact_digests held)
facts_are_set held = digests_are_set (digests_of atom_digest held) (λ d h. let x = digest_of_some atom_digest held d h in subst IsDigest (sym x.2) (sha_digest _))

pub keys_are_set : (held : Contents) → IsSet (key_digests held)
keys_are_set held = digests_are_set (keys_of held) (λ d h. let x = digest_of_some key_digest held d h in subst IsDigest (sym x.2) (sha_digest _))

pub root_is : (ds : List Text) → length ds < 2 ^ 63 → IsRoot (root ds)
root_is ds fits = record { count = omega (arith, fits); hash = sha_digest (root_text (length ds) (tree_hash (tree_of ds))) }
