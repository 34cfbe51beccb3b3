-- What follows if a proof of growth is accepted under the seals of two sites.
--     Sets               what a site has of each part
--     HoldsRoots s x     of each part that the seal has a line W of, the roots are those of its set
--     HasLastRoots s x   the last roots that the seal has of each part are those of its set
--     proof_of a g n     the proof of the part of this name
--     AreApart a b p     no two different texts that are hashed for the roots of both sets, or for the proof's parts, share a digest
--     StayApart a b      nor do two that are hashed for the roots of both sets, nor two facts of these
--     PartsStay          if nothing is refused, each fact and each key of an earlier part is in the later one of that name, or is listed;
--                        and a part that is not before the first window that is kept is there, if the later seal has anything of it
use Rattle.std.specs.Prelude.{◌≡◌, ℕ, List, [], ◌∷◌, false, if◌then◌else◌, Option, Some, Ok}
use Rattle.cadf_join.specs.Contents.{Text}
use Rattle.cadf_join.specs.Sets as set
use Rattle.cadf_key.specs.Keys.{keys_of}
use Rattle.cadf_line.specs.Digest.{atom_digest}
use Rattle.cadf_line.specs.Missing.{NoCollision, digests_of}
use Rattle.cadf_listed.specs.ListFile.{ListedModel}
use Rattle.cadf_set.specs.Replica.{ReplicaModel}
use Rattle.cadf_tree.specs.GrowthLaws.{DoNotCollide, IsHashedForBoth}
use Rattle.cadf_tree.specs.declared.tree.Root.{Root}
use Rattle.cadf_evidence.specs.ProofFile.{ProofModel}
use Rattle.cadf_evidence.specs.SealFile.{seal_of}
use Rattle.cadf_evidence.specs.Soundness.{StayOrAreListed, fact_digests, given_parts, key_digests, unchanged_parts}
use Rattle.cadf_evidence.specs.declared.growth.SealedSet.TheVariants.{Facts, Keys}
use Rattle.cadf_siteseal.specs.GrowthItems.{IsSiteGrowth, SiteGrowthModel}
use Rattle.cadf_siteseal.specs.SealItems.{IsSiteSeal, SiteSealModel}
use Rattle.cadf_siteseal.specs.SiteGrown.{is_allowed, site_grown}
use Rattle.cadf_siteseal.specs.SiteParts.{held_roots, is_window_of, last_roots, own, part_proof, part_seal}
use Rattle.cadf_siteseal.specs.declared.growth_items.GrowthItem.{GrowthItem}

abbrev pub Sets : Type 0
Sets = Text → ReplicaModel

abbrev pub HoldsRoots : SiteSealModel → Sets → Type 0
HoldsRoots s sets = (n : Text) (r : Root × Root) → held_roots n s.items ≡ Some r → part_seal s.log (Some r) ≡ seal_of (sets n)

abbrev pub HasLastRoots : SiteSealModel → Sets → Type 0
HasLastRoots s sets = (n : Text) → part_seal s.log (last_roots n s.items) ≡ seal_of (sets n)

-- the items after the line W of the part of this name
abbrev pub own_of : Text → List GrowthItem → List GrowthItem
own_of n [] = []
own_of n (i ∷ is) = if is_window_of n i then own is else own_of n is

abbrev pub proof_of : SiteSealModel → SiteGrowthModel → Text → ProofModel
proof_of a g n = part_proof a.log (own_of n g.items)

abbrev pub AreApart : ReplicaModel → ReplicaModel → ProofModel → Type 0
AreApart a b p =
    DoNotCollide (IsHashedForBoth (fact_digests a.atoms) (fact_digests b.atoms) p.facts)
    × DoNotCollide (IsHashedForBoth (key_digests a.atoms) (key_digests b.atoms) (given_parts p.keys))

abbrev pub StayApart : ReplicaModel → ReplicaModel → Type 0
StayApart a b =
    DoNotCollide (IsHashedForBoth (fact_digests a.atoms) (fact_digests b.atoms) (unchanged_parts (fact_digests a.atoms)))
    × NoCollision atom_digest (set.union a.atoms b.atoms)

-- one part of the earlier site, and that of its name in the later one
pub record IsKept (k : Option Text) (list : Option ListedModel) (b : SiteSealModel) (n : Text) (old new : ReplicaModel) : Type 0 where
  pub facts : StayOrAreListed Facts list (digests_of atom_digest old.atoms) (digests_of atom_digest new.atoms)
  pub keys : StayOrAreListed Keys list (keys_of old.atoms) (keys_of new.atoms)
  pub held : is_allowed k n ≡ false → held_roots n b.items ≡ last_roots n b.items

abbrev pub PartsStay : Type 0
PartsStay = (a b : SiteSealModel) (g : SiteGrowthModel) (k : Option Text) (list : Option ListedModel) (text : List ℕ) (olds news : Sets)
    → IsSiteSeal a → IsSiteGrowth g → HoldsRoots a olds → HasLastRoots b news → site_grown a b g k list ≡ Ok text
    → (n : Text) (r : Root × Root) → held_roots n a.items ≡ Some r
    → AreApart (olds n) (news n) (proof_of a g n) → StayApart (olds n) (news n) → IsKept k list b n (olds n) (news n)
