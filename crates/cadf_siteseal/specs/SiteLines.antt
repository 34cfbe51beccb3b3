-- The lines of such a file that have been read so far, and what is kept of them.
--     AreTold k ..   the invariant of what is kept
--     IsPut k ..     the line is that of an item that may follow, and the items and what is kept are those with it
--     seal_told_lines, growth_told_lines   the lines after the log line
--     IsSealTold, IsGrowthTold             what is known of what is kept
use Rattle.std.specs.Prelude.{◌≡◌, ℕ, List, [], ◌∷◌, ◌++◌, Option, Some, None}
use Rattle.cadf_split.specs.declared.unit.Unit.{Unit as TimeUnit}
use Rattle.cadf_siteseal.specs.GrowthItems.{growth_items, IsItem as IsGrowthItem}
use Rattle.cadf_siteseal.specs.SealItems.{seal_items, IsItem as IsSealItem}
use Rattle.cadf_siteseal.specs.SiteFile.{ItemKind, AllFollow, state_after, site_lines}
use Rattle.cadf_siteseal.specs.declared.growth_lines.GrowthTold.{GrowthTold}
use Rattle.cadf_siteseal.specs.declared.seal_lines.SealTold.{SealTold}

module _ {I S : Type 0} (k : ItemKind I S) where
  abbrev pub AreTold : (TimeUnit → I → Type 0) → TimeUnit → List I → S → Type 0
  AreTold Is unit is s = (s ≡ state_after k k.start is) × AllFollow k Is unit k.start is

  abbrev pub IsPut : TimeUnit → List I → S → List ℕ → TimeUnit → List I → S → Type 0
  IsPut unit is s line later js t =
      (i : I) × (k.item_in unit line ≡ Some i) × (k.cause s i ≡ None) × (later ≡ unit) × (js ≡ is ++ i ∷ []) × (t ≡ k.next s i)

-- ---- of a seal

abbrev pub seal_told_lines : Option SealTold → List (List ℕ)
seal_told_lines None = []
seal_told_lines (Some t) = site_lines seal_items t.unit t.items.items

abbrev pub IsSealTold : Option SealTold → Type 0
IsSealTold None = Unit {0}
IsSealTold (Some t) = AreTold seal_items IsSealItem t.unit t.items.items t.state

-- ---- of a proof of growth

abbrev pub growth_told_lines : Option GrowthTold → List (List ℕ)
growth_told_lines None = []
growth_told_lines (Some t) = site_lines growth_items t.unit t.items.items

abbrev pub IsGrowthTold : Option GrowthTold → Type 0
IsGrowthTold None = Unit {0}
IsGrowthTold (Some t) = AreTold growth_items IsGrowthItem t.unit t.items.items t.state
