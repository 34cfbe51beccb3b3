-- A value that is read with the items of one list apart: they are taken in turn, and the list stays behind without them.
use Rattle.std.specs.Prelude.{◌≡◌, ℕ, pos, List, [], ◌∷◌, ◌++◌, length, Bool, false, if◌then◌else◌, Option, Some, None, ⊤}
use Rattle.std.specs.Float.{binary64}
use Rattle.std.specs.Float.Ieee.{of_int}
use Rattle.std.specs.Str.{bytes_eq}
use Rattle.json.specs.Token.{Token}
use Rattle.json.specs.Json.{value, members}
use Rattle.serde_json.specs.Data.{Data, float, null, boolean, number, string, array, object, Items, no_items, Members, no_members, member}
use Rattle.serde_json.specs.Find.{get_member}
use Rattle.serde_json.specs.Read.{of_json, of_members, converted}
use Rattle.serde_json.specs.Written.{items_have_float}
use Rattle.cadf_json.specs.declared.node.Node.{Node}
use Rattle.cadf_json.specs.declared.node.Node.TheVariants.{Array}
use Rattle.cadf_json.specs.Parts.{to_list}
use Rattle.cadf_json.specs.Reading.{Grown, StandsAsRead}
use Rattle.cadf_json.specs.Value.{SpellsValue}

abbrev pub a_fraction : Data
a_fraction = number (float (of_int binary64 (pos 0)))

-- the list without its items; if a number of them isn't whole, it is one that isn't
abbrev pub emptied : Data → Data
emptied null = null
emptied (boolean b) = boolean b
emptied (number n) = number n
emptied (string s) = string s
emptied (array ds) = if items_have_float ds then a_fraction else array no_items
emptied (object ms) = object ms

abbrev pub emptied_at : List ℕ → List ℕ → Data → Data
emptied_at name k d = if bytes_eq k name then emptied d else d

-- the members, and the list of that name without its items
abbrev pub emptied_in : List ℕ → Members → Members
emptied_in name no_members = no_members
emptied_in name (member k d ms) = member k (emptied_at name k d) (emptied_in name ms)

-- the items were taken, and their numbers are whole
abbrev pub AreTaken : {T : Type 0} → (T → List Data → Type 0) → T → Items → Type 0
AreTaken took t ds = (items_have_float ds ≡ false) × took t (to_list ds)

-- the items of the list, if it is one
abbrev pub TookItems : {T : Type 0} → (T → List Data → Type 0) → T → Option Data → Type 0
TookItems took t None = ⊤
TookItems took t (Some null) = ⊥
TookItems took t (Some (boolean b)) = ⊥
TookItems took t (Some (number n)) = ⊥
TookItems took t (Some (string s)) = ⊥
TookItems took t (Some (array ds)) = AreTaken took t ds
TookItems took t (Some (object ms)) = ⊥

-- the items of the list that the tokens begin with were taken, and the list was appended without them
abbrev pub PassesList : {T : Type 0} → (T → List Data → Type 0) → T → ℕ → List Token → List Token → List Node → List Node → Type 0
PassesList took t depth ts rest old new =
    (ds : Items) × (AreTaken took t ds × (converted of_json (value depth ts) ≡ Some (array ds, rest))
    × (new ≡ old ++ Array (record { size = 1; count = 0 }) ∷ []))

-- the members that the tokens begin with, up to the closing brace, were appended without the items that were taken
abbrev pub AppendsMembers : {T : Type 0} → (T → List Data → Type 0) → T → List ℕ → Bool → ℕ → List Token → List Token → List Node → List Node → List ℕ
    → List ℕ → Type 0
AppendsMembers took t name rising depth ts rest old new u v =
    (ms : Members) × ((converted (λ ms. of_members ms no_members) (members (value depth) (length ts) ts) ≡ Some (ms, rest))
    × TookItems took t (get_member name ms) × Grown (λ w xs. StandsAsRead rising w (object (emptied_in name ms)) xs) old new u v)

-- THE VALUE that the bytes spell is an object, e is it without the items of the list, and these were taken
abbrev pub IsApart : {T : Type 0} → (T → List Data → Type 0) → T → List ℕ → List ℕ → Data → Type 0
IsApart took t bytes name e =
    (ms : Members) × (SpellsValue bytes (object ms) × (e ≡ object (emptied_in name ms)) × TookItems took t (get_member name ms))
