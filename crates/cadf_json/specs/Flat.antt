-- The nodes of a value, in preorder, over the decoded texts t.
--     Stands t d xs         these are the nodes of the value
--     ItemsStand t ds xs    those of the items, one after another
--     MembersStand t ms xs  a text and a value for each member, in this order
--     decode t xs           the first value that the nodes are
use Rattle.std.specs.Prelude.{◌≡◌, ◌⊎◌, ℕ, zero, suc, ◌≤◌, List, [], ◌∷◌, ◌++◌, length, slice_range, Bool, true, false, unwrap_or}
use Rattle.std.specs.List.{list_any}
use Rattle.serde_json.specs.Data.{Num, unsigned, Data, null, boolean, number, string, array, object, Items, no_items, item, Members, no_members, member}
use Rattle.serde_json.specs.Data.{put}
use Rattle.serde_json.specs.Find.{is_float}
use Rattle.serde_json.specs.Read.{number_of}
use Rattle.serde_json.specs.Written.{number_text, has_float}
use Rattle.cadf_json.specs.Value.{IsWholeNumber, IsValue}
use Rattle.cadf_json.specs.declared.node.Place.{Place}
use Rattle.cadf_json.specs.declared.node.Extent.{Extent}
use Rattle.cadf_json.specs.declared.node.Node.{Node}
use Rattle.cadf_json.specs.declared.node.Node.TheVariants.{Null, Bool as Truth, Whole, Fraction, Text, Array, Object}

-- how many nodes the value has that begins with this one
abbrev pub size_of : Node → ℕ
size_of Null = 1
size_of (Truth b) = 1
size_of (Whole p) = 1
size_of Fraction = 1
size_of (Text p) = 1
size_of (Array e) = e.size
size_of (Object e) = e.size

abbrev pub text_at : List ℕ → Place → List ℕ
text_at t p = slice_range t p.start p.end

pub record IsTextAt (t : List ℕ) (p : Place) (s : List ℕ) : Type 0 where
  pub rise : p.start ≤ p.end
  pub within : p.end ≤ length t
  pub is : text_at t p ≡ s

-- a whole number has its text, another one has none
abbrev pub NumberStands : List ℕ → Num → List Node → Type 0
NumberStands t n xs =
    ((p : Place) × ((xs ≡ Whole p ∷ []) × IsTextAt t p (number_text n) × IsWholeNumber n)) ⊎ ((xs ≡ Fraction ∷ []) × (is_float n ≡ true))

abbrev pub TextStands : List ℕ → List ℕ → List Node → Type 0
TextStands t s xs = (p : Place) × ((xs ≡ Text p ∷ []) × IsTextAt t p s)

abbrev pub items_count : Items → ℕ
items_count no_items = 0
items_count (item d ds) = suc (items_count ds)

abbrev pub members_count : Members → ℕ
members_count no_members = 0
members_count (member k d ms) = suc (members_count ms)

-- what the first node says of those after it
abbrev pub Extends : Extent → List Node → ℕ → Type 0
Extends e ys n = (e.size ≡ suc (length ys)) × (e.count ≡ n)

abbrev mutual
  pub Stands : List ℕ → Data → List Node → Type 0
  Stands t null xs = xs ≡ Null ∷ []
  Stands t (boolean b) xs = xs ≡ Truth b ∷ []
  Stands t (number n) xs = NumberStands t n xs
  Stands t (string s) xs = TextStands t s xs
  Stands t (array ds) xs = (e : Extent) × ((ys : List Node) × ((xs ≡ Array e ∷ ys) × Extends e ys (items_count ds) × ItemsStand t ds ys))
  Stands t (object ms) xs = (e : Extent) × ((ys : List Node) × ((xs ≡ Object e ∷ ys) × Extends e ys (members_count ms) × MembersStand t ms ys))

  pub ItemsStand : List ℕ → Items → List Node → Type 0
  ItemsStand t no_items xs = xs ≡ []
  ItemsStand t (item d ds) xs = (ys : List Node) × ((zs : List Node) × ((xs ≡ ys ++ zs) × Stands t d ys × ItemsStand t ds zs))

  pub MembersStand : List ℕ → Members → List Node → Type 0
  MembersStand t no_members xs = xs ≡ []
  MembersStand t (member k d ms) xs =
      (p : Place) × ((ys : List Node) × ((zs : List Node) × ((xs ≡ Text p ∷ ys ++ zs) × IsTextAt t p k × Stands t d ys × MembersStand t ms zs)))

-- ---- from the nodes to the value

abbrev pub first_items : ℕ → Items → Items
first_items zero ds = no_items
first_items (suc n) no_items = no_items
first_items (suc n) (item d ds) = item d (first_items n ds)

abbrev pub later_items : ℕ → Items → Items
later_items zero ds = ds
later_items (suc n) no_items = no_items
later_items (suc n) (item d ds) = later_items n ds

abbrev pub name_of : Data → List ℕ
name_of null = []
name_of (boolean b) = []
name_of (number n) = []
name_of (string s) = s
name_of (array ds) = []
name_of (object ms) = []

-- a name and a value for each member
abbrev pub first_members : ℕ → Items → Members
first_members zero ds = no_members
first_members (suc n) no_items = no_members
first_members (suc n) (item k no_items) = no_members
first_members (suc n) (item k (item d ds)) = member (name_of k) d (first_members n ds)

abbrev pub later_members : ℕ → Items → Items
later_members zero ds = ds
later_members (suc n) no_items = no_items
later_members (suc n) (item k no_items) = no_items
later_members (suc n) (item k (item d ds)) = later_members n ds

abbrev pub number_in : List ℕ → Num
number_in s = unwrap_or (number_of s) (unsigned 0)

abbrev pub with_node : List ℕ → Node → Items → Items
with_node t Null ds = item null ds
with_node t (Truth b) ds = item (boolean b) ds
with_node t (Whole p) ds = item (number (number_in (text_at t p))) ds
with_node t Fraction ds = item null ds
with_node t (Text p) ds = item (string (text_at t p)) ds
with_node t (Array e) ds = item (array (first_items e.count ds)) (later_items e.count ds)
with_node t (Object e) ds = item (object (first_members e.count ds)) (later_members e.count ds)

abbrev pub node_values : List ℕ → List Node → Items
node_values t [] = no_items
node_values t (x ∷ xs) = with_node t x (node_values t xs)

abbrev pub first_value : Items → Data
first_value no_items = null
first_value (item d ds) = d

abbrev pub decode : List ℕ → List Node → Data
decode t xs = first_value (node_values t xs)

-- ---- members as they come

-- the members put one after another: of two with the same name the later one stays
abbrev pub put_all : Members → Members → Members
put_all no_members found = found
put_all (member k d ms) found = put_all ms (put k d found)

abbrev mutual
  -- the members of each object put one after another
  pub settled : Data → Data
  settled null = null
  settled (boolean b) = boolean b
  settled (number n) = number n
  settled (string s) = string s
  settled (array ds) = array (settled_items ds)
  settled (object ms) = object (put_all (settled_members ms) no_members)

  pub settled_items : Items → Items
  settled_items no_items = no_items
  settled_items (item d ds) = item (settled d) (settled_items ds)

  pub settled_members : Members → Members
  settled_members no_members = no_members
  settled_members (member k d ms) = member k (settled d) (settled_members ms)

-- a number isn't whole
abbrev pub is_fraction : Node → Bool
is_fraction Null = false
is_fraction (Truth b) = false
is_fraction (Whole p) = false
is_fraction Fraction = true
is_fraction (Text p) = false
is_fraction (Array e) = false
is_fraction (Object e) = false

abbrev pub have_fraction : List Node → Bool
have_fraction xs = list_any is_fraction xs

-- ---- a value whose numbers are whole

-- the nodes are those of the value, and its numbers are whole
pub record IsSettled (t : List ℕ) (d : Data) (xs : List Node) : Type 0 where
  pub stands : Stands t d xs
  pub is_whole : has_float d ≡ false
  pub decodes : decode t xs ≡ d

-- the nodes are those of a value whose numbers are whole, or there are none yet: `null`
abbrev pub IsFlatValue : List ℕ → List Node → Type 0
IsFlatValue t xs = ((xs ≡ []) ⊎ Stands t (decode t xs) xs) × IsValue (decode t xs)
