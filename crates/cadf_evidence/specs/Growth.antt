-- How one sealed set came of another, to a reader with both seals and a proof.
--     growth_of t a b ps      how many digests the later of both sets has more and fewer, by the parts ps, or why these don't show it
--     keys_growth a b o       the same of the keys. Without parts there is no tree
--     is_listed t l d         the list has the fact or the key of this digest; without a list none is listed
--     unlisted t l x          the digest of the part x, if it is a leaf that went and isn't listed
--     first_unlisted t l ps   the first of these
--     gone_fault t l ps       the first leaf that went and isn't listed
--     log_fault a b p l       the input that is of another log than the first one
--     growth_text l g         what is said of it
--     grown a b p l           this text, or the first fault
--     GrowthFaultIs e found   the fault is the one found, or is `Memory`
use Rattle.std.specs.Prelude.{◌≡◌, ℕ, List, [], ◌∷◌, ◌++◌, codes, decimal, Bool, false, if◌then◌else◌, Option, None, Some, option_map, unwrap_or, Result, Ok, Err}
use Rattle.std.specs.Option.{option_or}
use Rattle.cadf_join.specs.Contents.{Text}
use Rattle.cadf_join.specs.Sets as set
use Rattle.cadf_line.specs.Atoms.{is_text}
use Rattle.cadf_listed.specs.ListFile.{ListedModel, fact_name, key_name}
use Rattle.cadf_tree.specs.Grown.{verdict}
use Rattle.cadf_tree.specs.declared.tree.Root.{Root}
use Rattle.cadf_tree.specs.declared.growth.Growth.{Growth}
use Rattle.cadf_tree.specs.declared.growth.TreeFault.{TreeFault}
use Rattle.cadf_tree.specs.declared.parts.Kind.TheVariants.{Both, Added, Gone as Went}
use Rattle.cadf_tree.specs.declared.parts.Part.{Part}
use Rattle.cadf_tree.specs.declared.parts.Part.TheVariants.{Node, Hash, Leaf}
use Rattle.cadf_evidence.specs.Fault.{proof_fault, input_of}
use Rattle.cadf_evidence.specs.ProofFile.{ProofModel}
use Rattle.cadf_evidence.specs.SealFile.{SealModel}
use Rattle.cadf_evidence.specs.Verified.{text_unless}
use Rattle.cadf_evidence.specs.declared.fault.ProofFault.TheVariants.{NoTree}
use Rattle.cadf_evidence.specs.declared.growth.SealedSet.{SealedSet}
use Rattle.cadf_evidence.specs.declared.growth.SealedSet.TheVariants.{Facts, Keys}
use Rattle.cadf_evidence.specs.declared.growth.GrowthFault.{GrowthFault}
use Rattle.cadf_evidence.specs.declared.growth.GrowthFault.TheVariants.{OtherLog, Proof, Gone, Memory}

-- ---- one tree

abbrev pub placed : SealedSet → Result Growth TreeFault → Result Growth GrowthFault
placed t (Ok g) = Ok g
placed t (Err e) = Err (Proof (input_of e) t (proof_fault e))

abbrev pub growth_of : SealedSet → Root → Root → List Part → Result Growth GrowthFault
growth_of t a b ps = placed t (verdict a b ps)

abbrev pub keys_growth : Root → Root → Option (List Part) → Result Growth GrowthFault
keys_growth a b None = Err (Proof 3 Keys NoTree)
keys_growth a b (Some ps) = growth_of Keys a b ps

-- ---- what went

abbrev pub has_digest : SealedSet → ListedModel → Text → Bool
has_digest Facts l d = set.contains l.names (fact_name d)
has_digest Keys l d = set.contains l.names (key_name d)

abbrev pub is_listed : SealedSet → Option ListedModel → Text → Bool
is_listed t None d = false
is_listed t (Some l) d = has_digest t l d

abbrev pub unlisted : SealedSet → Option ListedModel → Part → Option Text
unlisted t list Node = None
unlisted t list (Hash h) = None
unlisted t list (Leaf Both d) = None
unlisted t list (Leaf Added d) = None
unlisted t list (Leaf Went d) = if is_listed t list d then None else Some d

abbrev pub first_unlisted : SealedSet → Option ListedModel → List Part → Option Text
first_unlisted t list [] = None
first_unlisted t list (x ∷ xs) = option_or (unlisted t list x) (first_unlisted t list xs)

abbrev pub gone_fault : SealedSet → Option ListedModel → List Part → Option GrowthFault
gone_fault t list ps = option_map (λ d. Gone t (record { bytes = d })) (first_unlisted t list ps)

abbrev pub all_gone_fault : Option ListedModel → ProofModel → Option GrowthFault
all_gone_fault list p = option_or (gone_fault Facts list p.facts) (gone_fault Keys list (unwrap_or p.keys []))

-- ---- what is said

abbrev pub list_fault : Text → Option ListedModel → Option GrowthFault
list_fault a None = None
list_fault a (Some l) = if is_text l.log a then None else Some (OtherLog 4)

abbrev pub log_fault : Text → Text → Text → Option ListedModel → Option GrowthFault
log_fault a b p list = if is_text b a then (if is_text p a then list_fault a list else Some (OtherLog 3)) else Some (OtherLog 2)

abbrev pub erased_text : Option ListedModel → ℕ → List ℕ
erased_text None n = []
erased_text (Some l) n = codes ", erased " ++ decimal n

abbrev pub growth_text : Option ListedModel → Growth → List ℕ
growth_text list g = codes "added " ++ (decimal g.added ++ (erased_text list g.gone ++ 10 ∷ []))

abbrev pub error_of : Result Growth GrowthFault → Option GrowthFault
error_of (Ok g) = None
error_of (Err e) = Some e

abbrev pub told_growth : Option GrowthFault → Option ListedModel → Result Growth GrowthFault → Result (List ℕ) GrowthFault
told_growth later list (Ok g) = text_unless later (growth_text list g)
told_growth later list (Err e) = Err e

abbrev pub unless_log : Option GrowthFault → Result (List ℕ) GrowthFault → Result (List ℕ) GrowthFault
unless_log None r = r
unless_log (Some e) r = Err e

-- what is left to be asked once the facts' tree is accepted
abbrev pub later_fault : SealModel → SealModel → ProofModel → Option ListedModel → Option GrowthFault
later_fault a b p list = option_or (error_of (keys_growth a.keys b.keys p.keys)) (all_gone_fault list p)

abbrev pub grown : SealModel → SealModel → ProofModel → Option ListedModel → Result (List ℕ) GrowthFault
grown a b p list = unless_log (log_fault a.log b.log p.log list) (told_growth (later_fault a b p list) list (growth_of Facts a.facts b.facts p.facts))

abbrev pub GrowthFaultIs : GrowthFault → Result (List ℕ) GrowthFault → Type 0
GrowthFaultIs Memory found = Unit {0}
GrowthFaultIs (OtherLog n) found = found ≡ Err (OtherLog n)
GrowthFaultIs (Proof n t e) found = found ≡ Err (Proof n t e)
GrowthFaultIs (Gone t d) found = found ≡ Err (Gone t d)
