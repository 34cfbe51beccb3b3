-- The items of a proof of growth of a site, its model and its file.
--     item_line i, item_in unit line  the line of an item, and the item that a line encodes
--     next s i                        the name of the last part, and whether its line K came, with a further item
--     cause s i                       what is wrong with the item after those of which this is kept
--     growth_items                    the kind of items
--     IsItem unit i                   an item is as it should be by itself
--     IsSiteGrowth g                  the invariant of such a proof
use Rattle.std.specs.Prelude.{◌≡◌, ℕ, zero, suc, List, [], ◌∷◌, ◌++◌, codes, nat_eq, true, false, ◌&&◌, not, is_some, if◌then◌else◌, Option, Some, None, option_map, refl}
use Rattle.std.specs.Coded.{Coded, coded_ℕ, coded_list, coded×, code_by}
use Rattle.std.specs.Option.{option_or}
use Rattle.std.specs.Str.{bytes_eq}
use Rattle.cadf_join.specs.Contents.{Text}
use Rattle.cadf_linefile.specs.declared.fault.Cause.{Cause}
use Rattle.cadf_linefile.specs.LineGrammar.{shape_unless}
use Rattle.cadf_linefile.specs.ModelKind.{ModelKind}
use Rattle.cadf_tree.specs.declared.parts.Part.{Part}
use Rattle.cadf_tree.specs.declared.parts.Part.TheVariants.{Node}
use Rattle.cadf_evidence.specs.ProofFile.{IsPart, coded_part, keys_line, part_line}
use Rattle.cadf_evidence.specs.ProofVerdict.{part_in}
use Rattle.cadf_split.specs.declared.unit.Unit.{Unit as TimeUnit}
use Rattle.cadf_siteseal.specs.PartNames.{is_part, is_after}
use Rattle.cadf_siteseal.specs.SealItems.{order_unless}
use Rattle.cadf_siteseal.specs.SiteFile.{ItemKind, SiteModel, IsSite, coded_site, site_kind}
use Rattle.cadf_siteseal.specs.declared.growth_items.GrowthItem.{GrowthItem}
use Rattle.cadf_siteseal.specs.declared.growth_items.GrowthItem.TheVariants.{Window, Tree, Keys}
use Rattle.cadf_siteseal.specs.declared.growth_items.GrowthState.{GrowthState}

-- ---- lines

abbrev pub item_line : GrowthItem → List ℕ
item_line (Window t) = codes "W " ++ t
item_line (Tree p) = part_line p
item_line Keys = keys_line

abbrev pub window_in : TimeUnit → List ℕ → Option GrowthItem
window_in unit (mark ∷ blank ∷ text) = if nat_eq mark 87 && (nat_eq blank 32 && is_part unit text) then Some (Window text) else None
window_in unit line = None

abbrev pub tree_item_in : List ℕ → Option GrowthItem
tree_item_in line = if bytes_eq line keys_line then Some Keys else option_map Tree (part_in line)

abbrev pub item_in : TimeUnit → List ℕ → Option GrowthItem
item_in unit line = option_or (window_in unit line) (tree_item_in line)

-- ---- what may follow

abbrev pub start : GrowthState
start = record { window = None; keys = false }

abbrev pub next : GrowthState → GrowthItem → GrowthState
next s (Window t) = record { window = Some t; keys = false }
next s (Tree p) = s
next s Keys = record { window = s.window; keys = true }

abbrev pub cause : GrowthState → GrowthItem → Option Cause
cause s (Window t) = order_unless (is_after s.window t)
cause s (Tree p) = shape_unless (is_some s.window)
cause s Keys = shape_unless (is_some s.window && not s.keys)

abbrev pub growth_items : ItemKind GrowthItem GrowthState
growth_items = record { header = codes "CADF-SITE-GROWTH 1"; line = item_line; item_in = item_in; start = start; next = next; cause = cause }

-- ---- the model

abbrev pub IsItem : TimeUnit → GrowthItem → Type 0
IsItem unit (Window t) = is_part unit t ≡ true
IsItem unit (Tree p) = IsPart p
IsItem unit Keys = Unit {0}

abbrev pub SiteGrowthModel : Type 0
SiteGrowthModel = SiteModel GrowthItem

abbrev pub site_growth_kind : ModelKind SiteGrowthModel
site_growth_kind = site_kind growth_items

abbrev pub IsSiteGrowth : SiteGrowthModel → Type 0
IsSiteGrowth g = IsSite growth_items IsItem g

-- ---- codes

abbrev to_words : GrowthItem → ℕ × (Text × Part)
to_words (Window t) = (0, (t, Node))
to_words (Tree p) = (1, ([], p))
to_words Keys = (2, ([], Node))

abbrev from_words : ℕ → Text → Part → GrowthItem
from_words zero t p = Window t
from_words (suc zero) t p = Tree p
from_words (suc (suc n)) t p = Keys

pub from_words-to_words : (i : GrowthItem) → from_words (to_words i).0 (to_words i).1.0 (to_words i).1.1 ≡ i
from_words-to_words (Window t) = refl
from_words-to_words (Tree p) = refl
from_words-to_words Keys = refl

abbrev pub coded_item : Coded GrowthItem
coded_item =
    code_by (ℕ × (Text × Part)) (coded× coded_ℕ (coded× (coded_list coded_ℕ) coded_part)) to_words
    (λ w. from_words w.0 w.1.0 w.1.1) from_words-to_words

abbrev pub coded_site_growth : Coded SiteGrowthModel
coded_site_growth = coded_site coded_item
