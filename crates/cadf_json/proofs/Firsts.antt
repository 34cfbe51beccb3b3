-- The first of several values: how many nodes it has.
use Rattle.cadf_json.proofs.Common.{common_steps, ◌≡◌, ℕ, suc, ◌+◌, ◌-◌, ◌<◌, ◌≤◌, List, [], ◌∷◌, ◌++◌, length, take, drop, refl, sym, ap, ap₂, ◌∙◌, arith, append-nil, length-append, take_all, take-append_seam, drop-append_seam, slice_index_or, Num, Data, null, boolean, number, string, array, object, Items, no_items, item, Members, no_members, member, Node, Null, Truth, Text, Array, Object, Place, FirstMember, size_of, IsTextAt, NumberStands, Stands, ItemsStand, MembersStand, text_at, IsFirstMember}

abbrev pub tail_of : List Node → List Node
tail_of xs = take (length xs - 1) (drop 1 xs)

pub tail_is : (x : Node) (xs ys : List Node) → xs ≡ x ∷ ys → tail_of xs ≡ ys
tail_is x xs ys is = grind (arith, common_steps, take_all)

-- a value begins with a node that says how many it has
pub record Begins (xs : List Node) : Type 0 where
  pub x : Node
  pub ys : List Node
  pub is : xs ≡ x ∷ ys
  pub size : size_of x ≡ length xs

begins_with : (xs ys : List Node) (x : Node) → xs ≡ x ∷ ys → size_of x ≡ suc (length ys) → Begins xs
begins_with xs ys x is size = record { x = x; ys = ys; is = is; size = size ∙ ap length (sym is) }

number_begins : (t : List ℕ) (n : Num) (xs : List Node) → NumberStands t n xs → Begins xs
number_begins t n xs given = grind (arith, common_steps, begins_with)

pub begins : (t : List ℕ) (d : Data) (xs : List Node) → Stands t d xs → Begins xs
begins t null xs h = begins_with xs [] Null h refl
begins t (boolean b) xs h = begins_with xs [] (Truth b) h refl
begins t (number n) xs h = number_begins t n xs h
begins t (string s) xs (p, (is, at)) = begins_with xs [] (Text p) is refl
begins t (array ds) xs (e, (ys, (is, extent, h))) = begins_with xs ys (Array e) is extent.0
begins t (object ms) xs (e, (ys, (is, extent, h))) = begins_with xs ys (Object e) is extent.0

-- the first item of those at the nodes, of n nodes
pub record FirstItem (t : List ℕ) (rest : List Node) (n : ℕ) (left : Items) : Type 0 where
  pub value : Data
  pub later : Items
  pub is : left ≡ item value later
  pub some : 0 < n
  pub within : n ≤ length rest
  pub size : length (take n rest) ≡ n
  pub stands : Stands t value (take n rest)
  pub left_stand : ItemsStand t later (drop n rest)

pub first_item : (t : List ℕ) (rest : List Node) (n : ℕ) (left : Items) → 0 < length rest → ItemsStand t left rest
    → n ≡ size_of (slice_index_or rest 0 Null) → FirstItem t rest n left
first_item t rest n no_items some h size = let none = ap length h in absurd (omega (arith, some, none))
first_item t rest n (item d later) some (ys, (zs, (is, h, k))) size = grind (arith, common_steps, begins, length-append, take-append_seam, drop-append_seam)

pub no_item : (t : List ℕ) (rest : List Node) (left : Items) → length rest ≡ 0 → ItemsStand t left rest → left ≡ no_items
no_item t rest no_items none h = refl
no_item t rest (item d later) none (ys, (zs, (is, value, k))) = grind (arith, common_steps, length-append, begins)

-- nodes that are left have a first member
pub some_member : (t : List ℕ) (rest : List Node) (left : Members) → 0 < length rest → MembersStand t left rest
    → (k : List ℕ) × ((d : Data) × ((later : Members) × ((left ≡ member k d later) × MembersStand t (member k d later) rest)))
some_member t rest no_members some h = let none = ap length h in absurd (omega (arith, some, none))
some_member t rest (member k d later) some h = (k, (d, (later, (refl, h))))

pub no_member : (t : List ℕ) (rest : List Node) (left : Members) → length rest ≡ 0 → MembersStand t left rest → left ≡ no_members
no_member t rest no_members none h = refl
no_member t rest (member k d later) none (p, (ys, (zs, (is, at, value, j)))) = let some = ap length is in absurd (omega (arith, some, none))

-- the first member: its name's place, and the first node of its value
pub record Opens (t : List ℕ) (nodes : List Node) (k : List ℕ) (d : Data) (ms : Members) : Type 0 where
  pub place : Place
  pub x : Node
  pub ys : List Node
  pub zs : List Node
  pub is : nodes ≡ Text place ∷ (x ∷ ys) ++ zs
  pub at : IsTextAt t place k
  pub size : size_of x ≡ suc (length ys)
  pub value : Stands t d (x ∷ ys)
  pub rest : MembersStand t ms zs

pub opens : (t : List ℕ) (nodes : List Node) (k : List ℕ) (d : Data) (ms : Members) → MembersStand t (member k d ms) nodes → Opens t nodes k d ms
opens t nodes k d ms (p, (ys, (zs, (is, at, h, j)))) = grind (arith, common_steps, begins)

pub first_of : (t : List ℕ) (nodes : List Node) (k : List ℕ) (d : Data) (ms : Members) (f : FirstMember) (n : ℕ) → (o : Opens t nodes k d ms)
    → n ≡ size_of o.x + 1 → f.name.now ≡ text_at t o.place → f.nodes.now ≡ take n nodes
    → f.value.now ≡ take (length f.nodes.now - 1) (drop 1 f.nodes.now) → f.rest.now ≡ drop n nodes → IsFirstMember t nodes k d ms f
first_of t nodes k d ms f n o sized named whole valued left =
    let lead = Text o.place ∷ o.x ∷ o.ys in
    let size = o.size in
    let long : length nodes ≡ length lead + length o.zs = ap length o.is ∙ length-append lead o.zs in
    let is_n : n ≡ length lead = omega (arith, sized, size) in
    let one : f.nodes.now ≡ lead = whole ∙ ap₂ take is_n o.is ∙ take-append_seam lead o.zs in
    grind (arith, common_steps, take_all, drop-append_seam, append-nil)
