-- What is appended as tokens are read: the nodes and the texts of the values.
use Rattle.std.specs.Prelude.{◌≡◌, ℕ, ◌<◌, ◌≤◌, List, [], ◌∷◌, ◌++◌, length, Bool, true, false, Option, Some, None, ⊤}
use Rattle.std.specs.Prelude.{if◌then◌else◌}
use Rattle.std.specs.Ordering.{nat_cmp, is_lt}
use Rattle.std.specs.Cmp.Lexicographic.{slice_cmp}
use Rattle.std.specs.FinMap.Entries as entries
use Rattle.std.specs.Str.{bytes_eq}
use Rattle.json.specs.Token.{Token}
use Rattle.json.specs.Json.{value, items, members}
use Rattle.serde_json.specs.Data.{Num, Data, array, object, Items, Members, no_members, member}
use Rattle.serde_json.specs.Read.{number_of, of_json, of_items, of_members, converted}
use Rattle.cadf_json.specs.declared.node.Node.{Node}
use Rattle.cadf_json.specs.declared.order.Named.{Named}
use Rattle.cadf_json.specs.declared.walk.FirstMember.{FirstMember}
use Rattle.cadf_json.specs.Flat.{Stands, NumberStands, MembersStand, settled}

-- nodes and texts were appended, and S holds of them
pub record Grown (S : List ℕ → List Node → Type 0) (old new : List Node) (t u : List ℕ) : Type 0 where
  pub xs : List Node
  pub more : List ℕ
  pub nodes : new ≡ old ++ xs
  pub texts : u ≡ t ++ more
  pub stands : S u xs

-- the nodes are of members as they came: once put in order they are of d, and if all names rise they are so already
pub record StandsAsRead (rising : Bool) (t : List ℕ) (d : Data) (xs : List Node) : Type 0 where
  pub raw : Data
  pub settles : settled raw ≡ d
  pub same : rising ≡ true → raw ≡ d
  pub stands : Stands t raw xs

abbrev pub ReadsValue : Bool → ℕ → List Token → List Token → List Node → List Node → List ℕ → List ℕ → Type 0
ReadsValue rising depth ts rest old new t u =
    (d : Data) × ((converted of_json (value depth ts) ≡ Some (d, rest)) × Grown (λ u xs. StandsAsRead rising u d xs) old new t u)

abbrev pub IsNoValue : ℕ → List Token → Type 0
IsNoValue depth ts = converted of_json (value depth ts) ≡ None

abbrev pub AreItemsRead : Bool → ℕ → List Token → List Token → List Node → List Node → List ℕ → List ℕ → Type 0
AreItemsRead rising depth ts rest old new t u =
    (ds : Items) × ((converted of_items (items (value depth) (length ts) ts) ≡ Some (ds, rest))
    × Grown (λ u xs. StandsAsRead rising u (array ds) xs) old new t u)

abbrev pub AreNoItems : ℕ → List Token → Type 0
AreNoItems depth ts = converted of_items (items (value depth) (length ts) ts) ≡ None

abbrev pub AreMembersRead : Bool → ℕ → List Token → List Token → List Node → List Node → List ℕ → List ℕ → Type 0
AreMembersRead rising depth ts rest old new t u =
    (ms : Members) × ((converted (λ ms. of_members ms no_members) (members (value depth) (length ts) ts) ≡ Some (ms, rest))
    × Grown (λ u xs. StandsAsRead rising u (object ms) xs) old new t u)

abbrev pub AreNoMembers : ℕ → List Token → Type 0
AreNoMembers depth ts = converted (λ ms. of_members ms no_members) (members (value depth) (length ts) ts) ≡ None

-- the name is above the last one, if there is one
abbrev pub is_name_above : Option (List ℕ) → List ℕ → Bool
is_name_above None k = true
is_name_above (Some l) k = is_lt (slice_cmp nat_cmp l k)

abbrev pub IsNumberRead : List ℕ → List Node → List Node → List ℕ → List ℕ → Type 0
IsNumberRead s old new t u = (n : Num) × ((number_of s ≡ Some n) × Grown (λ u xs. NumberStands u n xs) old new t u)

-- the nodes of the value were appended
abbrev pub Copied : List ℕ → Data → List Node → List Node → Type 0
Copied t d old new = (xs : List Node) × ((new ≡ old ++ xs) × Stands t d xs)

-- a name, and the last member of that name
abbrev pub Entry : Type 0
Entry = List ℕ × Named

-- the entries are the members, each with its nodes, which are at most n
abbrev pub AreNamed : List ℕ → ℕ → List Entry → Members → Type 0
AreNamed t n [] no_members = ⊤
AreNamed t n [] (member k d ms) = ⊥
AreNamed t n (e ∷ es) no_members = ⊥
AreNamed t n (e ∷ es) (member k d ms) =
    (e.0 ≡ k) × MembersStand t (member k d no_members) e.1.nodes.now × (length e.1.nodes.now ≤ n) × AreNamed t n es ms

-- the members put one after another at their names: of two with the same name the later one stays
abbrev pub put_named : List Named → List Entry → List Entry
put_named [] es = es
put_named (p ∷ ps) es = put_named ps (entries.put (slice_cmp nat_cmp) p.name p es)

-- of members in the order of their names the last one of each name
abbrev pub is_replaced : List ℕ → List Named → Bool
is_replaced k [] = false
is_replaced k (p ∷ ps) = bytes_eq p.name k

abbrev pub lasts : List Named → List Entry
lasts [] = []
lasts (p ∷ ps) = if is_replaced p.name ps then lasts ps else ((p.name, p) ∷ lasts ps)

-- the first member of those at the nodes
pub record IsFirstMember (t : List ℕ) (nodes : List Node) (k : List ℕ) (d : Data) (ms : Members) (f : FirstMember) : Type 0 where
  pub name_is : f.name.now ≡ k
  pub one : MembersStand t (member k d no_members) f.nodes.now
  pub value : Stands t d f.value.now
  pub rest : MembersStand t ms f.rest.now
  pub shorter : length f.rest.now < length nodes
  pub within : length f.nodes.now ≤ length nodes
