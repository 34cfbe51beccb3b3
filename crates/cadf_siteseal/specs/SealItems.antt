-- The items of a site seal, its model and its file.
--     sealed_text p, sealed_in text   the words of a part and its roots, and the part that they encode
--     item_line i, item_in unit line  the line of an item, and the item that a line encodes
--     next s i                        the names of the floor, of the last window that went and of the last part, with a further item
--     cause s i                       what is wrong with the item after those of which these are the names
--     seal_items                      the kind of items
--     IsItem unit i                   an item is as it should be by itself
--     IsSiteSeal s                    the invariant of a site seal
use Rattle.std.specs.Prelude.{◌≡◌, ℕ, zero, suc, List, [], ◌∷◌, ◌++◌, codes, nat_eq, Bool, true, false, ◌&&◌, not, is_some, if◌then◌else◌, Option, Some, None, refl}
use Rattle.std.specs.Coded.{Coded, coded_ℕ, coded_list, coded×, code_by}
use Rattle.cadf_join.specs.Contents.{Text}
use Rattle.cadf_linefile.specs.declared.fault.Cause.{Cause}
use Rattle.cadf_linefile.specs.declared.fault.Cause.TheVariants.{Shape, Order}
use Rattle.cadf_linefile.specs.Numbers.{first_word, words_after}
use Rattle.cadf_linefile.specs.ModelKind.{ModelKind}
use Rattle.cadf_tree.specs.declared.tree.Root.{Root}
use Rattle.cadf_evidence.specs.SealFile.{coded_root}
use Rattle.cadf_split.specs.declared.unit.Unit.{Unit as TimeUnit}
use Rattle.cadf_siteseal.specs.PartNames.{is_window, is_part, comes_before, is_after}
use Rattle.cadf_siteseal.specs.Roots.{roots_text, roots_in, IsSealed}
use Rattle.cadf_siteseal.specs.SiteFile.{ItemKind, SiteModel, IsSite, coded_site, site_kind}
use Rattle.cadf_siteseal.specs.declared.seal_items.SealedPart.{SealedPart}
use Rattle.cadf_siteseal.specs.declared.seal_items.SealItem.{SealItem}
use Rattle.cadf_siteseal.specs.declared.seal_items.SealItem.TheVariants.{Floor, Gone, Held}
use Rattle.cadf_siteseal.specs.declared.seal_items.SealState.{SealState}

-- ---- the words of a part

abbrev pub sealed_text : SealedPart → List ℕ
sealed_text p = p.name ++ 32 ∷ roots_text p.facts p.keys

abbrev pub part_with : Text → Option (Root × Root) → Option SealedPart
part_with name None = None
part_with name (Some r) = Some (record { name = name; facts = r.0; keys = r.1 })

abbrev pub sealed_in : List ℕ → Option SealedPart
sealed_in text = part_with (first_word text) (roots_in (words_after text))

-- ---- lines

abbrev pub item_line : SealItem → List ℕ
item_line (Floor t) = codes "T " ++ t
item_line (Gone p) = codes "G " ++ sealed_text p
item_line (Held p) = codes "W " ++ sealed_text p

abbrev pub floor_in : TimeUnit → List ℕ → Option SealItem
floor_in unit text = if is_window unit text then Some (Floor text) else None

abbrev pub gone_with : TimeUnit → Option SealedPart → Option SealItem
gone_with unit None = None
gone_with unit (Some p) = if is_window unit p.name then Some (Gone p) else None

abbrev pub held_with : TimeUnit → Option SealedPart → Option SealItem
held_with unit None = None
held_with unit (Some p) = if is_part unit p.name then Some (Held p) else None

unfoldable pub marked_item : TimeUnit → ℕ → List ℕ → Option SealItem
marked_item unit mark text =
    if nat_eq mark 84 then floor_in unit text
    else if nat_eq mark 71 then gone_with unit (sealed_in text)
    else if nat_eq mark 87 then held_with unit (sealed_in text)
    else None

abbrev pub item_in : TimeUnit → List ℕ → Option SealItem
item_in unit (mark ∷ blank ∷ text) = if nat_eq blank 32 then marked_item unit mark text else None
item_in unit line = None

-- ---- what may follow

abbrev pub start : SealState
start = record { floor = None; gone = None; held = None }

abbrev pub next : SealState → SealItem → SealState
next s (Floor t) = record { floor = Some t; gone = s.gone; held = s.held }
next s (Gone p) = record { floor = s.floor; gone = Some p.name; held = s.held }
next s (Held p) = record { floor = s.floor; gone = s.gone; held = Some p.name }

abbrev pub order_unless : Bool → Option Cause
order_unless ok = if ok then None else Some Order

-- the name comes before that of a floor that is there
abbrev pub is_below : Option Text → Text → Bool
is_below None t = false
is_below (Some floor) t = comes_before t floor

abbrev pub cause : SealState → SealItem → Option Cause
cause s (Floor t) = order_unless (not (is_some s.floor) && not (is_some s.held))
cause s (Gone p) = if is_below s.floor p.name then order_unless (not (is_some s.held) && is_after s.gone p.name) else Some Shape
cause s (Held p) = order_unless (is_after s.held p.name)

abbrev pub seal_items : ItemKind SealItem SealState
seal_items = record { header = codes "CADF-SITE-SEAL 1"; line = item_line; item_in = item_in; start = start; next = next; cause = cause }

-- ---- the model

abbrev pub AreSealed : SealedPart → Type 0
AreSealed p = IsSealed p.facts × IsSealed p.keys

abbrev pub IsItem : TimeUnit → SealItem → Type 0
IsItem unit (Floor t) = is_window unit t ≡ true
IsItem unit (Gone p) = (is_window unit p.name ≡ true) × AreSealed p
IsItem unit (Held p) = (is_part unit p.name ≡ true) × AreSealed p

abbrev pub SiteSealModel : Type 0
SiteSealModel = SiteModel SealItem

abbrev pub site_seal_kind : ModelKind SiteSealModel
site_seal_kind = site_kind seal_items

abbrev pub IsSiteSeal : SiteSealModel → Type 0
IsSiteSeal s = IsSite seal_items IsItem s

-- ---- codes

abbrev coded_part : Coded SealedPart
coded_part =
    code_by (Text × (Root × Root)) (coded× (coded_list coded_ℕ) (coded× coded_root coded_root)) (λ p. (p.name, (p.facts, p.keys)))
    (λ w. record { name = w.0; facts = w.1.0; keys = w.1.1 }) (λ _. refl)

abbrev no_root : Root
no_root = record { count = 0; hash = [] }

abbrev to_words : SealItem → ℕ × SealedPart
to_words (Floor t) = (0, record { name = t; facts = no_root; keys = no_root })
to_words (Gone p) = (1, p)
to_words (Held p) = (2, p)

abbrev from_words : ℕ → SealedPart → SealItem
from_words zero p = Floor p.name
from_words (suc zero) p = Gone p
from_words (suc (suc n)) p = Held p

pub from_words-to_words : (i : SealItem) → from_words (to_words i).0 (to_words i).1 ≡ i
from_words-to_words (Floor t) = refl
from_words-to_words (Gone p) = refl
from_words-to_words (Held p) = refl

abbrev pub coded_item : Coded SealItem
coded_item = code_by (ℕ × SealedPart) (coded× coded_ℕ coded_part) to_words (λ w. from_words w.0 w.1) from_words-to_words

abbrev pub coded_site_seal : Coded SiteSealModel
coded_site_seal = coded_site coded_item
