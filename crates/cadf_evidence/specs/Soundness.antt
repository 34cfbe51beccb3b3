-- What follows if a proof is accepted under the seal of a set.
--     HasFacts s held      the first root of the seal is that of the facts of this set
--     IsHashedIn held p x  the text x is hashed for this root, or for that of the proof's parts
--     FactsAreSo           of facts that are told, each is in the sealed set or not, as was asked
--     HasKeys s held       the second root of the seal is that of the keys of this set
--     IsKeyHashedIn held p x   the text x is hashed for this root, or for that of the proof's parts
--     IsKeyAsAsked held q b    some fact of the set has the key q; if it is asked to be absent, none has
--     KeysAreSo            of keys that are told, each is so in the sealed set
--     Differ t l old new   the sets old and new differ by some digests alone, and those that went are listed
--     IsGrown a b l text   so do the facts of both sets and their keys, and the text says how many facts
--     GrowthIsSo           what is told of two seals is so
--     NothingGoesUnlisted  then each fact and each key of the earlier set is in the later one or in the list
--     unchanged_parts ds   the parts that show that the set ds didn't change
--     EqualSealsAreOfOneSet   equal seals are of one log and one set of facts
use Rattle.std.specs.Prelude.{◌≡◌, ◌⊎◌, Bool, true, false, not, ◌||◌, List, [], ◌∷◌, ℕ, length, Option, unwrap_or, Ok}
use Rattle.std.specs.List.{AllByRecursion}
use Rattle.cadf_join.specs.Contents.{Text, Texts, Contents, Has}
use Rattle.cadf_join.specs.Sets as set
use Rattle.cadf_join.specs.Sets.{rising, Listed}
use Rattle.cadf_line.specs.Digest.{atom_digest}
use Rattle.cadf_key.specs.Keys.{key_of, keys_of}
use Rattle.cadf_listed.specs.ListFile.{ListedModel}
use Rattle.cadf_line.specs.Missing.{Digests, NoCollision, digests_of}
use Rattle.cadf_set.specs.Replica.{ReplicaModel}
use Rattle.cadf_tree.specs.Tree.{root, tree_hash, tree_of}
use Rattle.cadf_tree.specs.Pruned.{is_earlier}
use Rattle.cadf_tree.specs.GrowthLaws.{DoNotCollide, IsDifference, IsHashedFor, IsHashedBy, IsHashedForBoth}
use Rattle.cadf_tree.specs.declared.parts.Part.{Part}
use Rattle.cadf_tree.specs.declared.parts.Part.TheVariants.{Hash}
use Rattle.cadf_evidence.specs.Growth.{grown, growth_text, is_listed}
use Rattle.cadf_evidence.specs.ProofFile.{ProofModel, IsProof}
use Rattle.cadf_evidence.specs.SealFile.{SealModel, seal_of}
use Rattle.cadf_evidence.specs.Verified.{verified, verified_keys}
use Rattle.cadf_evidence.specs.declared.growth.SealedSet.{SealedSet}
use Rattle.cadf_evidence.specs.declared.growth.SealedSet.TheVariants.{Facts, Keys}

abbrev pub fact_digests : Contents → List Text
fact_digests held = rising (digests_of atom_digest held)

abbrev pub HasFacts : SealModel → Contents → Type 0
HasFacts s held = s.facts ≡ root (fact_digests held)

abbrev pub IsHashedIn : Contents → ProofModel → Text → Type 0
IsHashedIn held p x = IsHashedFor (fact_digests held) x ⊎ IsHashedBy is_earlier (length (fact_digests held)) p.facts x

-- no other fact of the set has the digest of one of these
abbrev pub FactsAreSo : Type 0
FactsAreSo = (s : SealModel) (p : ProofModel) (held facts : Contents) (absent : Bool) (text : List ℕ) → IsProof p → HasFacts s held
    → DoNotCollide (IsHashedIn held p) → ((x y : Texts) → Has facts x → Has held y → atom_digest x ≡ atom_digest y → x ≡ y)
    → verified s p facts absent ≡ Ok text → (q : Texts) → Has facts q → set.contains held q ≡ not absent

-- ---- keys

abbrev pub key_digests : Contents → List Text
key_digests held = rising (keys_of held)

abbrev pub given_parts : Option (List Part) → List Part
given_parts o = unwrap_or o []

abbrev pub HasKeys : SealModel → Contents → Type 0
HasKeys s held = s.keys ≡ root (key_digests held)

abbrev pub IsKeyHashedIn : Contents → ProofModel → Text → Type 0
IsKeyHashedIn held p x = IsHashedFor (key_digests held) x ⊎ IsHashedBy is_earlier (length (key_digests held)) (given_parts p.keys) x

abbrev pub IsKeyAsAsked : Contents → Texts → Bool → Type 0
IsKeyAsAsked held q true = (x : Texts) → Has held x → key_of x ≡ q → ⊥
IsKeyAsAsked held q false = (x : Texts) × Has held x × (key_of x ≡ q)

-- no other key of a fact of the set has the digest of one of these
abbrev pub KeysAreSo : Type 0
KeysAreSo = (s : SealModel) (p : ProofModel) (held : Contents) (keys : List Texts) (absent : Bool) (text : List ℕ) → IsProof p → HasKeys s held
    → DoNotCollide (IsKeyHashedIn held p) → ((q x : Texts) → Listed q keys → Has held x → atom_digest q ≡ atom_digest (key_of x) → q ≡ key_of x)
    → verified_keys s p keys absent ≡ Ok text → (q : Texts) → Listed q keys → IsKeyAsAsked held q absent

-- ---- growth

pub record Differ (t : SealedSet) (list : Option ListedModel) (old new : List Text) : Type 0 where
  pub added : List Text
  pub gone : List Text
  pub difference : IsDifference old new added gone
  pub listed : AllByRecursion (λ d. is_listed t list d ≡ true) gone

pub record IsGrown (a b : ReplicaModel) (list : Option ListedModel) (text : List ℕ) : Type 0 where
  pub facts : Differ Facts list (fact_digests a.atoms) (fact_digests b.atoms)
  pub keys : Differ Keys list (key_digests a.atoms) (key_digests b.atoms)
  pub told : text ≡ growth_text list (record { added = length facts.added; gone = length facts.gone })

abbrev pub GrowthIsSo : Type 0
GrowthIsSo = (a b : ReplicaModel) (p : ProofModel) (list : Option ListedModel) (text : List ℕ) → IsProof p
    → DoNotCollide (IsHashedForBoth (fact_digests a.atoms) (fact_digests b.atoms) p.facts)
    → DoNotCollide (IsHashedForBoth (key_digests a.atoms) (key_digests b.atoms) (given_parts p.keys))
    → grown (seal_of a) (seal_of b) p list ≡ Ok text → IsGrown a b list text

abbrev pub StayOrAreListed : SealedSet → Option ListedModel → Digests → Digests → Type 0
StayOrAreListed t list old new = (d : Text) → set.contains old d ≡ true → (set.contains new d || is_listed t list d) ≡ true

abbrev pub NothingGoesUnlisted : Type 0
NothingGoesUnlisted = (a b : ReplicaModel) (list : Option ListedModel) (text : List ℕ) → IsGrown a b list text
    → StayOrAreListed Facts list (digests_of atom_digest a.atoms) (digests_of atom_digest b.atoms)
    × StayOrAreListed Keys list (keys_of a.atoms) (keys_of b.atoms)

-- ---- equal seals

abbrev pub unchanged_parts : List Text → List Part
unchanged_parts [] = []
unchanged_parts (d ∷ ds) = Hash (tree_hash (tree_of (d ∷ ds))) ∷ []

abbrev pub EqualSealsAreOfOneSet : Type 0
EqualSealsAreOfOneSet = (a b : ReplicaModel) → DoNotCollide (IsHashedForBoth (fact_digests a.atoms) (fact_digests b.atoms) (unchanged_parts (fact_digests a.atoms)))
    → NoCollision atom_digest (set.union a.atoms b.atoms) → seal_of a ≡ seal_of b → a ≡ b
