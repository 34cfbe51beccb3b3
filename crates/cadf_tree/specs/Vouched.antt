-- What a root that is known to be that of a set says of the roots before it, if no leaf went.
--     without gs ds           those of ds that aren't among gs
--     IsVouched a new ps      a is the root of the set new without what was added by the parts
--     IsHashedForLater new ps x   the text x is hashed for the root of new, or to compute it from the parts
--     LaterVouches            so it is if the parts are accepted under a and the root of new, and nothing went
--     Step                    an earlier root, and the parts by which the later one came of it
--     HasGrown a b ps         the parts are accepted under both roots, and nothing went
--     AreSteps b steps        from the root b back: so it is at each step
--     AreVouched new steps    each earlier root is that of the set before it without what was added
--     ChainHashes new steps x the text x is hashed for one of these
--     ChainIsVouched          one root that is known to be that of a set vouches for all that come before it
use Rattle.std.specs.Prelude.{◌≡◌, ◌⊎◌, not, List, [], ◌∷◌, length, ℕ, Ok}
use Rattle.std.specs.List.{filter}
use Rattle.cadf_tree.specs.Tree.{Text, root, IsSet}
use Rattle.cadf_tree.specs.Pruned.{is_later, leaves_of}
use Rattle.cadf_tree.specs.Grown.{verdict}
use Rattle.cadf_tree.specs.GrowthLaws.{DoNotCollide, IsHashedFor, IsHashedBy, HaveHashes, IsDifference}
use Rattle.cadf_tree.specs.Presence.{member}
use Rattle.cadf_tree.specs.declared.tree.Root.{Root}
use Rattle.cadf_tree.specs.declared.parts.Kind.TheVariants.{Added}
use Rattle.cadf_tree.specs.declared.parts.Part.{Part}

abbrev pub without : List Text → List Text → List Text
without gs ds = filter (λ d. not (member d gs)) ds

pub record IsVouched (a : Root) (new : List Text) (ps : List Part) : Type 0 where
  pub set : IsSet (without (leaves_of Added ps) new)
  pub is : a ≡ root (without (leaves_of Added ps) new)
  pub difference : IsDifference (without (leaves_of Added ps) new) new (leaves_of Added ps) []

abbrev pub IsHashedForLater : List Text → List Part → Text → Type 0
IsHashedForLater new ps x = IsHashedFor new x ⊎ IsHashedBy is_later (length new) ps x

abbrev pub LaterVouches : Type 0
LaterVouches = (a : Root) (new : List Text) (ps : List Part) (n : ℕ) → IsSet new → HaveHashes ps → DoNotCollide (IsHashedForLater new ps)
    → verdict a (root new) ps ≡ Ok (record { added = n; gone = 0 }) → IsVouched a new ps

-- ---- chains

abbrev pub Step : Type 0
Step = Root × List Part

abbrev pub HasGrown : Root → Root → List Part → Type 0
HasGrown a b ps = (n : ℕ) × (verdict a b ps ≡ Ok (record { added = n; gone = 0 }))

abbrev pub AreSteps : Root → List Step → Type 0
AreSteps b [] = Unit {0}
AreSteps b (s ∷ ss) = (HaveHashes s.1 × HasGrown s.0 b s.1) × AreSteps s.0 ss

abbrev pub AreVouched : List Text → List Step → Type 0
AreVouched new [] = Unit {0}
AreVouched new (s ∷ ss) = IsVouched s.0 new s.1 × AreVouched (without (leaves_of Added s.1) new) ss

abbrev pub ChainHashes : List Text → List Step → Text → Type 0
ChainHashes new [] x = ⊥
ChainHashes new (s ∷ ss) x = IsHashedForLater new s.1 x ⊎ ChainHashes (without (leaves_of Added s.1) new) ss x

abbrev pub ChainIsVouched : Type 0
ChainIsVouched = (new : List Text) (ss : List Step) → IsSet new → DoNotCollide (ChainHashes new ss) → AreSteps (root new) ss → AreVouched new ss
