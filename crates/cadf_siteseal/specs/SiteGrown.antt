-- What a proof of growth says to a reader with two site seals.
--     head_fault a b g       what is of another log or of another unit than the earlier seal
--     kept_fault unit o      the first window that is kept is no window of the unit
--     least f xs             the first in order of the names that f has of these
--     went_name k a b i      the name of a window that went and may not be gone, if k is the first one that is kept
--     lacking_name b g i     the name of a part that changed and of which there is no proof
--     spare_name a b i       the name of a part of which there is a proof, and none is needed
--     shown_fault b l s      the first of both
--     window_text a b l t is what the proof with these items says of the part of this name
--     grown_text a b l is    this of each part with a proof
--     other_lines a b l      the lines of the parts that are new, and of the windows that went
--     site_grown a b g k l   all that is said, or the first fault
--     SiteFaultIs e found    the fault is the one found, or is `Memory`
use Rattle.std.specs.Prelude.{◌≡◌, ℕ, List, [], ◌∷◌, ◌++◌, codes, decimal, Bool, true, false, ◌&&◌, not, is_some, if◌then◌else◌, Option, None, Some, option_map, Result, Ok, Err}
use Rattle.std.specs.List.{flat_map}
use Rattle.std.specs.Option.{option_or}
use Rattle.cadf_join.specs.Contents.{Text}
use Rattle.cadf_line.specs.Atoms.{is_text}
use Rattle.cadf_listed.specs.ListFile.{ListedModel}
use Rattle.cadf_evidence.specs.Growth.{grown, growth_text, GrowthFaultIs}
use Rattle.cadf_evidence.specs.declared.growth.GrowthFault.{GrowthFault}
use Rattle.cadf_tree.specs.declared.tree.Root.{Root}
use Rattle.cadf_split.specs.declared.unit.Unit.{Unit as TimeUnit}
use Rattle.cadf_split.specs.declared.unit.Unit.TheVariants.{Month, Day, Hour}
use Rattle.cadf_siteseal.specs.GrowthItems.{SiteGrowthModel}
use Rattle.cadf_siteseal.specs.PartNames.{comes_before, is_window}
use Rattle.cadf_siteseal.specs.SealItems.{SiteSealModel}
use Rattle.cadf_siteseal.specs.SiteParts.{gone_roots, has_proof, held_roots, is_unchanged, last_roots, own, part_proof, part_seal}
use Rattle.cadf_siteseal.specs.declared.growth_items.GrowthItem.{GrowthItem}
use Rattle.cadf_siteseal.specs.declared.growth_items.GrowthItem.TheVariants.{Window, Tree, Keys}
use Rattle.cadf_siteseal.specs.declared.seal_items.SealItem.{SealItem}
use Rattle.cadf_siteseal.specs.declared.seal_items.SealItem.TheVariants as line
use Rattle.cadf_siteseal.specs.declared.site_fault.SiteFault.{SiteFault}
use Rattle.cadf_siteseal.specs.declared.site_fault.SiteFault.TheVariants.{OtherLog, OtherUnit, OtherWindow, Gone, NotShown, NotNeeded, Part, Memory}

-- ---- one log, and one unit

abbrev pub is_unit : TimeUnit → TimeUnit → Bool
is_unit Month Month = true
is_unit Month Day = false
is_unit Month Hour = false
is_unit Day Month = false
is_unit Day Day = true
is_unit Day Hour = false
is_unit Hour Month = false
is_unit Hour Day = false
is_unit Hour Hour = true

abbrev pub input_fault : ℕ → Text → TimeUnit → Text → TimeUnit → Option SiteFault
input_fault n log unit l u = if is_text l log then (if is_unit u unit then None else Some (OtherUnit n)) else Some (OtherLog n)

abbrev pub head_fault : SiteSealModel → SiteSealModel → SiteGrowthModel → Option SiteFault
head_fault a b g = option_or (input_fault 2 a.log a.unit b.log b.unit) (input_fault 3 a.log a.unit g.log g.unit)

abbrev pub kept_fault : TimeUnit → Option Text → Option SiteFault
kept_fault unit None = None
kept_fault unit (Some k) = if is_window unit k then None else Some OtherWindow

-- ---- the first name in order

abbrev pub earlier_name : Option Text → Option Text → Option Text
earlier_name None b = b
earlier_name (Some a) None = Some a
earlier_name (Some a) (Some b) = if comes_before b a then Some b else Some a

-- o, if none of these comes before it
abbrev pub least_of : {A : Type 0} → (A → Option Text) → Option Text → List A → Option Text
least_of f o [] = o
least_of f o (x ∷ xs) = least_of f (earlier_name o (f x)) xs

abbrev pub least : {A : Type 0} → (A → Option Text) → List A → Option Text
least f xs = least_of f None xs

-- ---- windows that went

abbrev pub is_allowed : Option Text → Text → Bool
is_allowed None n = false
is_allowed (Some k) n = comes_before n k

abbrev pub name_if : Bool → Text → Option Text
name_if b n = if b then Some n else None

-- it went as it is sealed, after it was there; or it had gone, and this isn't said any more
abbrev pub went_name : Option Text → List SealItem → List SealItem → SealItem → Option Text
went_name k a b (line.Floor t) = None
went_name k a b (line.Gone p) =
    name_if (not (is_some (held_roots p.name a)) && (not (is_some (held_roots p.name b)) && not (is_unchanged (Some (p.facts, p.keys)) (gone_roots p.name b)))) p.name
went_name k a b (line.Held p) =
    name_if (not (is_some (held_roots p.name b)) && (is_some (gone_roots p.name b) && not (is_allowed k p.name))) p.name

-- ---- parts with a proof

abbrev pub lacking_name : List SealItem → List GrowthItem → SealItem → Option Text
lacking_name b g (line.Floor t) = None
lacking_name b g (line.Gone p) = None
lacking_name b g (line.Held p) = name_if (not (is_unchanged (Some (p.facts, p.keys)) (last_roots p.name b)) && not (has_proof p.name g)) p.name

abbrev pub spare_name : List SealItem → List SealItem → GrowthItem → Option Text
spare_name a b (Window t) = name_if (is_unchanged (held_roots t a) (last_roots t b)) t
spare_name a b (Tree p) = None
spare_name a b Keys = None

abbrev pub lacking_fault : List SealItem → Text → SiteFault
lacking_fault b n = if is_some (last_roots n b) then NotShown n else Gone n

abbrev pub shown_fault : List SealItem → Option Text → Option Text → Option SiteFault
shown_fault b None s = option_map NotNeeded s
shown_fault b (Some l) None = Some (lacking_fault b l)
shown_fault b (Some l) (Some s) = if comes_before s l then Some (NotNeeded s) else Some (lacking_fault b l)

-- ---- all checks before the proofs

abbrev pub gone_fault : SiteSealModel → SiteSealModel → Option Text → Option SiteFault
gone_fault a b k = option_map Gone (least (went_name k a.items b.items) a.items)

abbrev pub needed_fault : SiteSealModel → SiteSealModel → SiteGrowthModel → Option SiteFault
needed_fault a b g = shown_fault b.items (least (lacking_name b.items g.items) a.items) (least (spare_name a.items b.items) g.items)

abbrev pub first_fault : SiteSealModel → SiteSealModel → SiteGrowthModel → Option Text → Option SiteFault
first_fault a b g k = option_or (head_fault a b g) (option_or (kept_fault a.unit k) (option_or (gone_fault a b k) (needed_fault a b g)))

-- ---- what the proofs say

abbrev pub named : Text → Result (List ℕ) GrowthFault → Result (List ℕ) SiteFault
named t (Ok text) = Ok (t ++ 58 ∷ 32 ∷ text)
named t (Err e) = Err (Part t e)

abbrev pub window_text : SiteSealModel → SiteSealModel → Option ListedModel → Text → List GrowthItem → Result (List ℕ) SiteFault
window_text a b list t is =
    named t (grown (part_seal a.log (held_roots t a.items)) (part_seal a.log (last_roots t b.items)) (part_proof a.log (own is)) list)

abbrev pub both_texts : Result (List ℕ) SiteFault → Result (List ℕ) SiteFault → Result (List ℕ) SiteFault
both_texts (Ok s) (Ok t) = Ok (s ++ t)
both_texts (Ok s) (Err e) = Err e
both_texts (Err e) r = Err e

-- what is said of an item, by those after it
abbrev pub item_text : SiteSealModel → SiteSealModel → Option ListedModel → GrowthItem → List GrowthItem → Result (List ℕ) SiteFault
item_text a b list (Window t) is = window_text a b list t is
item_text a b list (Tree p) is = Ok []
item_text a b list Keys is = Ok []

abbrev pub grown_text : SiteSealModel → SiteSealModel → Option ListedModel → List GrowthItem → Result (List ℕ) SiteFault
grown_text a b list [] = Ok []
grown_text a b list (i ∷ is) = both_texts (item_text a b list i is) (grown_text a b list is)

-- ---- parts without a proof

-- of an item of the later seal: the earlier one has nothing of the part
abbrev pub new_line : List SealItem → Option ListedModel → SealItem → List ℕ
new_line a list (line.Floor t) = []
new_line a list (line.Gone p) = []
new_line a list (line.Held p) =
    if is_some (last_roots p.name a) then [] else p.name ++ 58 ∷ 32 ∷ growth_text list (record { added = p.facts.count; gone = 0 })

abbrev pub went_text : Text → Option (Root × Root) → List ℕ
went_text n None = []
went_text n (Some r) = n ++ (codes ": gone, of " ++ (decimal r.0.count ++ codes " facts\n"))

-- of an item of the earlier seal: the window went
abbrev pub went_line : List SealItem → SealItem → List ℕ
went_line b (line.Floor t) = []
went_line b (line.Gone p) = []
went_line b (line.Held p) = if is_some (held_roots p.name b) then [] else went_text p.name (gone_roots p.name b)

abbrev pub other_lines : SiteSealModel → SiteSealModel → Option ListedModel → List ℕ
other_lines a b list = flat_map (new_line a.items list) b.items ++ flat_map (went_line b.items) a.items

abbrev pub with_lines : Result (List ℕ) SiteFault → List ℕ → Result (List ℕ) SiteFault
with_lines (Ok t) more = Ok (t ++ more)
with_lines (Err e) more = Err e

abbrev pub unless_fault : Option SiteFault → Result (List ℕ) SiteFault → Result (List ℕ) SiteFault
unless_fault None r = r
unless_fault (Some e) r = Err e

abbrev pub site_grown : SiteSealModel → SiteSealModel → SiteGrowthModel → Option Text → Option ListedModel → Result (List ℕ) SiteFault
site_grown a b g k list = unless_fault (first_fault a b g k) (with_lines (grown_text a b list g.items) (other_lines a b list))

abbrev pub SiteFaultIs : SiteFault → Result (List ℕ) SiteFault → Type 0
SiteFaultIs Memory found = Unit {0}
SiteFaultIs (OtherLog n) found = found ≡ Err (OtherLog n)
SiteFaultIs (OtherUnit n) found = found ≡ Err (OtherUnit n)
SiteFaultIs OtherWindow found = found ≡ Err OtherWindow
SiteFaultIs (Gone t) found = found ≡ Err (Gone t)
SiteFaultIs (NotShown t) found = found ≡ Err (NotShown t)
SiteFaultIs (NotNeeded t) found = found ≡ Err (NotNeeded t)
SiteFaultIs (Part t e) found = found ≡ Err (Part t e)

-- whatever the fault of the growth of a part is, this is the fault of the site
abbrev pub IsNamed : Text → GrowthFault → SiteFault → Type 0
IsNamed t e f = (r : Result (List ℕ) GrowthFault) → GrowthFaultIs e r → SiteFaultIs f (named t r)
