-- Equal seals are of one log and one set of facts.
use Rattle.cadf_evidence.proofs.Common.{false, ◌≡◌, ◌∙◌, ◌≤◌, ℕ, List, [], ◌∷◌, length, true, Option, Some, None, Ok, refl, sym, ap, subst, arith, common_steps, bytes_eq-Decides, Text, Contents, Has, IsWithin, rising, texts_same, texts_total, set_again, digest_of_some, known_digest, atom_digest, NoCollision, digests_of, are_equal, fault_unless, growth_unless, hidden_leaves, is_text, order_fault, verdict, NotNeeded, OtherCount, OtherEarlierRoot, OtherLaterRoot, option_or, eq-eqb, le-leb, le-ltb, BothAreHonest, DoNotCollide, HaveHashes, IsHashedForBoth, Marked, is_added, is_gone, those, is_earlier, is_later, leaves_of, Branch, IsSet, Tip, Tree, hash, leaf_text, node_text, root, root_hash, tree_hash, tree_of, Both, Added, Gone, Root, length-sha256, EqualSealsAreOfOneSet, unchanged_parts}
use Rattle.cadf_join.specs.Sets as set
use Rattle.cadf_join.specs.laws.Sets as laws
use Rattle.cadf_join.proofs.Members as members
use Rattle.cadf_evidence.proofs.SetsOfDigests.{facts_are_set}

-- ---- a set that didn't change

same_text : (x : Text) → is_text x x ≡ true
same_text x = (bytes_eq-Decides x x).1 refl

all_hidden : (n : ℕ) → 1 ≤ n → hidden_leaves n 0 1 ≡ Some n
all_hidden n some = grind (arith, common_steps, le-ltb, le-leb)

counts_same : (n : ℕ) → 1 ≤ n → are_equal (hidden_leaves n 0 1) (hidden_leaves n 0 1) ≡ true
counts_same n some = (λ i. are_equal (all_hidden n some i) (all_hidden n some i)) ∙ eq-eqb n n refl

-- the one hash is accepted under two roots that are equal
unchanged : (d : Text) (ds : List Text) → verdict (root (d ∷ ds)) (root (d ∷ ds)) (unchanged_parts (d ∷ ds)) ≡ Ok (record { added = 0; gone = 0 })
unchanged d ds =
    let ps = unchanged_parts (d ∷ ds) in
    let counts = counts_same (length (d ∷ ds)) (omega arith) in
    let same = same_text (root_hash (length (d ∷ ds)) (tree_hash (tree_of (d ∷ ds)))) in
    λ i. growth_unless (option_or (option_or (fault_unless (counts i) OtherCount)
    (option_or (option_or (fault_unless (same i) OtherEarlierRoot) (fault_unless (same i) OtherLaterRoot)) (order_fault ps false)))
    (fault_unless true NotNeeded)) ps

hash_long : (t : Tree) → length (hash t) ≡ 32
hash_long (Tip d) = length-sha256 (leaf_text d)
hash_long (Branch l r) = length-sha256 (node_text (hash l) (hash r))

tree_long : (t : Option Tree) → length (tree_hash t) ≡ 32
tree_long None = length-sha256 []
tree_long (Some t) = hash_long t

unchanged_hashes : (ds : List Text) → HaveHashes (unchanged_parts ds)
unchanged_hashes [] = tt
unchanged_hashes (d ∷ ds) = (tree_long (tree_of (d ∷ ds)), tt)

none_added : (ds : List Text) → leaves_of Added (unchanged_parts ds) ≡ []
none_added [] = refl
none_added (d ∷ ds) = refl

none_gone : (ds : List Text) → leaves_of Gone (unchanged_parts ds) ≡ []
none_gone [] = refl
none_gone (d ∷ ds) = refl

none_differ : (ms : List Marked) → those is_added ms ≡ [] → those is_gone ms ≡ [] → those is_earlier ms ≡ those is_later ms
none_differ [] a g = refl
none_differ ((Both, d) ∷ ms) a g = ap (λ ds. d ∷ ds) (none_differ ms a g)
none_differ ((Added, d) ∷ ms) a g = absurd (cc)
none_differ ((Gone, d) ∷ ms) a g = absurd (cc)

same_digests : BothAreHonest → (ds es : List Text) → IsSet ds → IsSet es → DoNotCollide (IsHashedForBoth ds es (unchanged_parts ds)) → root ds ≡ root es → ds ≡ es
same_digests honest [] [] left right apart same = refl
same_digests honest [] (e ∷ es) left right apart same = let n : 0 ≡ length (e ∷ es) = ap (λ r. r.count) same in absurd (omega (arith, n))
same_digests honest (d ∷ ds) es left right apart same =
    let all = d ∷ ds in
    let accepted = subst (λ (r : Root). verdict (root all) r (unchanged_parts all) ≡ Ok (record { added = 0; gone = 0 })) same (unchanged d ds) in
    let p = honest all es (unchanged_parts all) (record { added = 0; gone = 0 }) left right (unchanged_hashes all) apart accepted in
    sym p.old_is ∙ none_differ p.all (p.added_is ∙ none_added all) (p.gone_is ∙ none_gone all) ∙ p.new_is

-- ---- and then the facts are the same

module _ (a b : Contents) (apart : NoCollision atom_digest (set.union a b)) (same : digests_of atom_digest a ≡ digests_of atom_digest b) where
  within : IsWithin a b
  within q h =
      let t = digest_of_some atom_digest b (atom_digest q) (subst (λ s. Has s (atom_digest q)) same (known_digest atom_digest a q h)) in
      let e = apart q t.0 (members.in_union_left texts_total texts_same a b q h) (members.in_union_right texts_total texts_same a b t.0 t.1) t.2 in
      subst (λ y. Has b y) (sym e) t.1

  around : IsWithin b a
  around q h =
      let t = digest_of_some atom_digest a (atom_digest q) (subst (λ s. Has s (atom_digest q)) (sym same) (known_digest atom_digest b q h)) in
      let e = apart q t.0 (members.in_union_right texts_total texts_same a b q h) (members.in_union_left texts_total texts_same a b t.0 t.1) t.2 in
      subst (λ y. Has a y) (sym e) t.1

  same_facts : a ≡ b
  same_facts = laws.same_from_within texts_total texts_same a b within around

pub equal_seals : BothAreHonest → EqualSealsAreOfOneSet
equal_seals honest a b hashed apart same =
    let da = digests_of atom_digest a.atoms in
    let db = digests_of atom_digest b.atoms in
    let rising_same = same_digests honest (rising da) (rising db) (facts_are_set a.atoms) (facts_are_set b.atoms) hashed (ap (λ s. s.facts) same) in
    let digests : da ≡ db = sym (set_again da) ∙ ap set.from_list rising_same ∙ set_again db in
    let atoms = same_facts a.atoms b.atoms apart digests in
    λ i. record { log = ap (λ s. s.log) same i; atoms = atoms i }
