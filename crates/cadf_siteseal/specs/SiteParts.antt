-- What a site seal has of a part, and what a proof of growth has of it, as a seal and a proof of that part alone.
--     held_roots n is, gone_roots n is   the roots that the seal has of the part of this name, by its line W, and by its line G
--     last_roots n is                    those by its line W; if it has none, by its line G
--     is_unchanged o q                   the later roots q are the earlier ones o, if there are earlier ones
--     part_seal log o                    the seal of a part with these roots; without any, that of no atoms
--     own is                             the items before the next line W
--     has_proof n is                     the proof of growth has the part of this name
--     part_proof log is                  the proof that has these items: the parts before the line K, and those after it
--     HaveRoots o                        the invariant of roots, if there are any
--     IsPartProof is                     the lines of the items before the next line W are those of such a proof
use Rattle.std.specs.Prelude.{◌≡◌, List, [], ◌∷◌, map, nat_eq, Bool, true, false, ◌&&◌, if◌then◌else◌, Option, None, Some}
use Rattle.std.specs.List.{list_any}
use Rattle.std.specs.Option.{option_or}
use Rattle.std.specs.Str.{bytes_eq}
use Rattle.cadf_join.specs.Contents.{Text}
use Rattle.cadf_line.specs.Atoms.{is_text}
use Rattle.cadf_tree.specs.Tree.{root}
use Rattle.cadf_tree.specs.declared.parts.Part.{Part}
use Rattle.cadf_tree.specs.declared.tree.Root.{Root}
use Rattle.cadf_evidence.specs.ProofFile.{HasProofParts, ProofModel, proof_lines}
use Rattle.cadf_evidence.specs.SealFile.{IsRoot, SealModel}
use Rattle.cadf_siteseal.specs.GrowthItems.{item_line}
use Rattle.cadf_siteseal.specs.declared.growth_items.GrowthItem.{GrowthItem}
use Rattle.cadf_siteseal.specs.declared.growth_items.GrowthItem.TheVariants.{Window, Tree, Keys}
use Rattle.cadf_siteseal.specs.declared.seal_items.SealedPart.{SealedPart}
use Rattle.cadf_siteseal.specs.declared.seal_items.SealItem.{SealItem}
use Rattle.cadf_siteseal.specs.declared.seal_items.SealItem.TheVariants.{Floor, Gone, Held}

-- the first that f has of these
abbrev pub first_some : {A B : Type 0} → (A → Option B) → List A → Option B
first_some f [] = None
first_some f (x ∷ xs) = option_or (f x) (first_some f xs)

abbrev pub roots_if : Text → SealedPart → Option (Root × Root)
roots_if n p = if is_text p.name n then Some (p.facts, p.keys) else None

abbrev pub held_by : Text → SealItem → Option (Root × Root)
held_by n (Floor t) = None
held_by n (Gone p) = None
held_by n (Held p) = roots_if n p

abbrev pub gone_by : Text → SealItem → Option (Root × Root)
gone_by n (Floor t) = None
gone_by n (Gone p) = roots_if n p
gone_by n (Held p) = None

abbrev pub held_roots : Text → List SealItem → Option (Root × Root)
held_roots n is = first_some (held_by n) is

abbrev pub gone_roots : Text → List SealItem → Option (Root × Root)
gone_roots n is = first_some (gone_by n) is

abbrev pub last_roots : Text → List SealItem → Option (Root × Root)
last_roots n is = option_or (held_roots n is) (gone_roots n is)

abbrev pub is_root : Root → Root → Bool
is_root r k = nat_eq r.count k.count && bytes_eq r.hash k.hash

-- earlier roots, if there are any, and later ones
abbrev pub is_unchanged : Option (Root × Root) → Option (Root × Root) → Bool
is_unchanged None o = true
is_unchanged (Some r) None = false
is_unchanged (Some r) (Some q) = is_root q.0 r.0 && is_root q.1 r.1

abbrev pub part_seal : Text → Option (Root × Root) → SealModel
part_seal log None = record { log = log; facts = root []; keys = root [] }
part_seal log (Some r) = record { log = log; facts = r.0; keys = r.1 }

-- ---- of a proof of growth

abbrev pub is_window_line : GrowthItem → Bool
is_window_line (Window t) = true
is_window_line (Tree p) = false
is_window_line Keys = false

abbrev pub own : List GrowthItem → List GrowthItem
own [] = []
own (i ∷ is) = if is_window_line i then [] else i ∷ own is

-- the name of the part, if the item is its line W
abbrev pub window_name : GrowthItem → Option Text
window_name (Window t) = Some t
window_name (Tree p) = None
window_name Keys = None

abbrev pub is_window_of : Text → GrowthItem → Bool
is_window_of n (Window t) = is_text t n
is_window_of n (Tree p) = false
is_window_of n Keys = false

abbrev pub has_proof : Text → List GrowthItem → Bool
has_proof n is = list_any (is_window_of n) is

abbrev pub trees : List GrowthItem → List Part
trees [] = []
trees (Window t ∷ is) = trees is
trees (Tree p ∷ is) = p ∷ trees is
trees (Keys ∷ is) = trees is

abbrev pub fact_trees : List GrowthItem → List Part
fact_trees [] = []
fact_trees (Window t ∷ is) = fact_trees is
fact_trees (Tree p ∷ is) = p ∷ fact_trees is
fact_trees (Keys ∷ is) = []

abbrev pub key_trees : List GrowthItem → Option (List Part)
key_trees [] = None
key_trees (Window t ∷ is) = key_trees is
key_trees (Tree p ∷ is) = key_trees is
key_trees (Keys ∷ is) = Some (trees is)

abbrev pub part_proof : Text → List GrowthItem → ProofModel
part_proof log is = record { log = log; facts = fact_trees is; keys = key_trees is }

-- ---- invariants

abbrev pub HaveRoots : Option (Root × Root) → Type 0
HaveRoots None = Unit {0}
HaveRoots (Some r) = IsRoot r.0 × IsRoot r.1

abbrev pub IsPartProof : List GrowthItem → Type 0
IsPartProof is = (map item_line (own is) ≡ proof_lines (part_proof [] (own is))) × HasProofParts (part_proof [] (own is))
