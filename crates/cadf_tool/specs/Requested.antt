-- What the text that answers a request says of the files that its sources have left.
--     IsAnswered q sources text    whatever files they are, the text is what a run of the request makes of them
--     AreAccepted q sources        the bytes that its inputs have left are files from outside
use Rattle.std.specs.Prelude.{◌≡◌, ◌-◌, ℕ, List, length, map, take, drop, None, Some, encode_utf8}
use Rattle.cadf_join.specs.Contents.{Text}
use Rattle.cadf_erased.specs.Left.{is_left}
use Rattle.cadf_listed.specs.ListFile.{ListedModel}
use Rattle.cadf_set.specs.Inventory.{InventoryModel}
use Rattle.cadf_set.specs.Replica.{ReplicaModel}
use Rattle.cadf_split.specs.Split.{split_text}
use Rattle.cadf_tool.specs.declared.input.Loaded.{Loaded}
use Rattle.cadf_tool.specs.declared.request.Request.{Request}
use Rattle.cadf_tool.specs.declared.request.Request.TheVariants as ask
use Rattle.cadf_tool.specs.Exchange.{ByFiles, ByInventory, BySketch, Joined, Kept, Ruled, Delta, Files, externals, AreRead, IsResult, IsDerived}
use Rattle.cadf_tool.specs.Exchange.{IsInventoryOf, IsSketchOf, IsSealOf, IsSealedOf, GivesFile, AreSources}
use Rattle.cadf_tool.specs.Inputs.{SourceState}
use Rattle.cadf_tool.specs.Listed.{erased_file}
use Rattle.cadf_tool.specs.Request.{first_state}
use Rattle.cadf_tool.specs.Rule.{ruling_on}
use Rattle.cadf_tool.specs.Shown.{checked_text}
use Rattle.cadf_tool.specs.Sketch.{AreAsked}
use Rattle.cadf_tool.specs.TwoTexts.{IsTextOf, IsShown}

-- the sources but the last, and the last
abbrev pub but_last : List SourceState → List SourceState
but_last sources = take (length sources - 1) sources

abbrev pub last_state : List SourceState → SourceState
last_state sources = first_state (drop (length sources - 1) sources)

abbrev pub IsAnswered : Request → List SourceState → Text → Type 0
IsAnswered (ask.Join log) sources text = (files : Files) → AreSources files sources → IsDerived (Joined log files) text
IsAnswered (ask.Split unit log) sources text = (files : Files) → AreSources files sources
    → (h : ReplicaModel) × IsResult (Joined log files) h × (text ≡ split_text unit h)
IsAnswered (ask.Missing from) sources text = (froms tos : Files) → AreSources froms (take from sources) → AreSources tos (drop from sources)
    → IsDerived (Delta ByFiles froms tos) text
IsAnswered ask.MissingBy sources text = (froms tos : Files) → AreSources froms (but_last sources)
    → GivesFile (IsInventoryOf (λ ls. AreRead tos ls)) (last_state sources) → IsDerived (Delta ByInventory froms tos) text
IsAnswered ask.Inventory sources text = (files : Files) → AreSources files sources → IsInventoryOf (λ ls. AreRead files ls) text
IsAnswered (ask.Sketch cells salt) sources text = AreAsked cells salt → (files : Files) → AreSources files sources
    → (noted : InventoryModel) × IsSketchOf (λ ls. AreRead files ls) noted text
IsAnswered ask.MissingBySketch sources text = (froms tos : Files) (sketched : InventoryModel) → AreSources froms (but_last sources)
    → GivesFile (IsSketchOf (λ ls. AreRead tos ls) sketched) (last_state sources)
    → (read : InventoryModel) × IsDerived (Delta (BySketch sketched read) froms tos) text
IsAnswered ask.Seal sources text = (files : Files) → AreSources files sources → IsSealOf (λ ls. AreRead files ls) text
IsAnswered ask.Sealed sources text = (files : Files) → AreSources files sources → IsSealedOf (λ ls. AreRead files ls) text
-- what the list keeps of the union
IsAnswered ask.Omit sources text = (files : Files) (bytes : List ℕ) → (first_state sources).left ≡ Some bytes → AreSources files (drop 1 sources)
    → (list : ListedModel) × (bytes ≡ erased_file list) × IsDerived (Kept (is_left list.names) None files) text
IsAnswered (ask.Rule letter key place) sources text = (files : Files) → AreSources files sources
    → (value : Text) × IsDerived (Ruled place (ruling_on (encode_utf8 letter) key value) files) text
IsAnswered (ask.Show conflicts) sources text = (files : Files) → AreSources files sources → IsShown conflicts files text
IsAnswered ask.Check sources text = (files : Files) → AreSources files sources → IsTextOf checked_text files text
-- of these speak the laws of seals and of schedules
IsAnswered ask.Prove sources text = Unit {0}
IsAnswered ask.ProveKeys sources text = Unit {0}
IsAnswered (ask.Verify absent) sources text = Unit {0}
IsAnswered (ask.VerifyKeys absent) sources text = Unit {0}
IsAnswered ask.Growth sources text = Unit {0}
IsAnswered (ask.Grew erased) sources text = Unit {0}
IsAnswered (ask.Rehearse log sites) sources text = Unit {0}

-- if it is known which bytes the sources have left, these are files from outside
abbrev pub AreOutside : List SourceState → Type 0
AreOutside sources = (given : List (List ℕ)) → map (λ (s : SourceState). s.left) sources ≡ map Some given
    → (loaded : List Loaded) × AreSources (externals given loaded) sources

abbrev pub AreAccepted : Request → List SourceState → Type 0
AreAccepted (ask.Missing from) sources = AreOutside (take from sources) × AreOutside (drop from sources)
AreAccepted ask.MissingBy sources = AreOutside (but_last sources)
AreAccepted ask.MissingBySketch sources = AreOutside (but_last sources)
AreAccepted ask.Omit sources = AreOutside (drop 1 sources)
AreAccepted ask.Prove sources = Unit {0}
AreAccepted ask.ProveKeys sources = Unit {0}
AreAccepted (ask.Verify absent) sources = Unit {0}
AreAccepted (ask.VerifyKeys absent) sources = Unit {0}
AreAccepted ask.Growth sources = Unit {0}
AreAccepted (ask.Grew erased) sources = Unit {0}
AreAccepted (ask.Rehearse log sites) sources = Unit {0}
AreAccepted _ sources = AreOutside sources
