-- Members that are read while the items of one list are taken apart.
use Rattle.cadf_json.proofs.Common.{common_steps, ◌≡◌, ℕ, ◌+◌, ◌-◌, ◌<◌, ◌≤◌, List, [], ◌∷◌, ◌++◌, length, set, Bool, true, false, true≢false, ◌&&◌, ◌||◌, if◌then◌else◌, Option, Some, None, option_map, bytes_eq, refl, sym, ap, ap₂, ◌∙◌, subst, arith, Ordering, Less, Equal, Greater, nat_cmp, slice_cmp, or_parts, bytes_eq-Decides, Token, Parse, read_key, members, Data, array, object, Items, no_items, Members, no_members, member, put, depth, members_depth, get_member, of_json, of_members, converted, has_float, members_have_float, get_member-put, a_fraction, emptied, emptied_at, emptied_in, AreTaken, TookItems, is_name_above, TextStands, put_all, is_one_of, without, Grown, StandsAsRead, IsWhole, MembersAreWhole, RisesFrom, Rises, IsValue, Node, Extent, Null, Object, and_parts, joined}
use Rattle.json.specs.Json as json
use Rattle.cadf_json.proofs.Looks.{member_here, member_passed}
use Rattle.cadf_json.proofs.Loops.{MembersRead, members_start, one_more_member, all_members, put_last}
use Rattle.cadf_json.proofs.Rewriting.{get-put}
use Rattle.cadf_json.proofs.Splits.{same_name}

apart : (k n : List ℕ) → bytes_eq k n ≡ false → k ≡ n → ⊥
apart k n h e = true≢false (sym ((bytes_eq-Decides k n).1 e) ∙ h)

other_order_at : (b : Bool) (k n : List ℕ) → bytes_eq k n ≡ false → bytes_eq n k ≡ b → b ≡ false
other_order_at b k n h is = grind (arith, common_steps, apart, bytes_eq-Decides)

other_order : (k n : List ℕ) → bytes_eq k n ≡ false → bytes_eq n k ≡ false
other_order k n h = other_order_at (bytes_eq n k) k n h refl

-- ---- a list without its items

float_if : (b : Bool) → has_float (if b then a_fraction else array no_items) ≡ b
float_if b = grind (arith, common_steps)

float_emptied : (d : Data) → has_float (emptied d) ≡ has_float d
float_emptied d = grind (arith, common_steps, float_if)

-- a list without its items is whole, and nests no deeper
abbrev Stays : Data → Data → Type 0
Stays d e = IsWhole e × (depth e ≤ depth d)

stays_emptied : (d : Data) → IsWhole d → has_float d ≡ false → Stays d (emptied d)
stays_emptied d h f = grind (arith, common_steps)

module _ (name : List ℕ) where
  float_at : (b : Bool) (d : Data) → has_float (if b then emptied d else d) ≡ has_float d
  float_at true d = float_emptied d
  float_at false d = refl

  pub float_in : (ms : Members) → members_have_float (emptied_in name ms) ≡ members_have_float ms
  float_in no_members = refl
  float_in (member k d ms) = ap₂ (λ x y. x || y) (float_at (bytes_eq k name) d) (float_in ms)

  stays_at : (b : Bool) (d : Data) → IsWhole d → has_float d ≡ false → Stays d (if b then emptied d else d)
  stays_at true d h f = stays_emptied d h f
  stays_at false d h f = (h, omega arith)

  stays_in : (ms : Members) → MembersAreWhole ms → members_have_float ms ≡ false
      → MembersAreWhole (emptied_in name ms) × (members_depth (emptied_in name ms) ≤ members_depth ms)
  stays_in no_members h f = (tt, omega arith)
  stays_in (member k d ms) h f =
      let both = or_parts (has_float d) (members_have_float ms) f in
      let here = stays_at (bytes_eq k name) d h.1 both.0 in
      let rest = stays_in ms h.2 both.1 in
      let a = here.1 in
      let b = rest.1 in
      ((h.0, here.0, rest.0), omega (arith, a, b))

  rises_from : (k : List ℕ) (ms : Members) → RisesFrom k ms → RisesFrom k (emptied_in name ms)
  rises_from k no_members h = tt
  rises_from k (member l d ms) h = (h.0, rises_from l ms h.1)

  rises_in : (ms : Members) → Rises ms → Rises (emptied_in name ms)
  rises_in no_members h = tt
  rises_in (member k d ms) h = rises_from k ms h

  pub value_in : (ms : Members) → IsValue (object ms) → members_have_float ms ≡ false → IsValue (object (emptied_in name ms))
  value_in ms v f =
      let stays = stays_in ms v.0.0 f in
      let low = stays.1 in
      let deep = v.1 in
      ((stays.0, rises_in ms v.0.1), omega (arith, low, deep))

  -- ---- members that are put

  emptied-joined : (ms : Members) (k : List ℕ) (d : Data)
      → emptied_in name (joined ms (member k d no_members)) ≡ joined (emptied_in name ms) (member k (emptied_at name k d) no_members)
  emptied-joined no_members k d = refl
  emptied-joined (member l e ms) k d = ap (member l (emptied_at name l e)) (emptied-joined ms k d)

  emptied-put_at : (o : Ordering) (k l : List ℕ) (d e : Data) (ms : Members) → slice_cmp nat_cmp k l ≡ o
      → put k (emptied_at name k d) (emptied_in name ms) ≡ emptied_in name (put k d ms)
      → put k (emptied_at name k d) (emptied_in name (member l e ms)) ≡ emptied_in name (put k d (member l e ms))
  emptied-put_at Less k l d e ms is rest = rw is refl
  emptied-put_at Equal k l d e ms is rest = rw is (ap (λ n. member l (emptied_at name n d) (emptied_in name ms)) (same_name k l is))
  emptied-put_at Greater k l d e ms is rest = rw is (ap (member l (emptied_at name l e)) rest)

  emptied-put : (k : List ℕ) (d : Data) (ms : Members) → put k (emptied_at name k d) (emptied_in name ms) ≡ emptied_in name (put k d ms)
  emptied-put k d no_members = refl
  emptied-put k d (member l e ms) = emptied-put_at (slice_cmp nat_cmp k l) k l d e ms refl (emptied-put k d ms)

  emptied-all : (ms found : Members) → put_all (emptied_in name ms) (emptied_in name found) ≡ emptied_in name (put_all ms found)
  emptied-all no_members found = refl
  emptied-all (member k d ms) found = ap (put_all (emptied_in name ms)) (emptied-put k d found) ∙ emptied-all ms (put k d found)

-- ---- what is left of the members

get_at : (b : Bool) (name j k : List ℕ) (d : Data) (ms : Members) → bytes_eq j k ≡ b
    → get_member j (emptied_in name ms) ≡ option_map (emptied_at name j) (get_member j ms)
    → get_member j (emptied_in name (member k d ms)) ≡ option_map (emptied_at name j) (get_member j (member k d ms))
get_at b name j k d ms is rest = grind (arith, common_steps, member_here, bytes_eq-Decides, option_map, member_passed)

pub get-emptied : (name j : List ℕ) (ms : Members) → get_member j (emptied_in name ms) ≡ option_map (emptied_at name j) (get_member j ms)
get-emptied name j no_members = refl
get-emptied name j (member k d ms) = get_at (bytes_eq j k) name j k d ms refl (get-emptied name j ms)

same_at : (name j : List ℕ) (o : Option Data) → bytes_eq j name ≡ false → option_map (emptied_at name j) o ≡ o
same_at name j o other = grind (arith, common_steps)

-- members of other names stay
pub get-other : (name j : List ℕ) (ms : Members) → bytes_eq j name ≡ false → get_member j (emptied_in name ms) ≡ get_member j ms
get-other name j ms other = get-emptied name j ms ∙ same_at name j (get_member j ms) other

some_there : (e : Data) → ◌≡◌ {A = Option Data} (Some e) None → ⊥
some_there e h = cc

none_at : (b : Bool) (name k : List ℕ) (d : Data) (ms : Members) → bytes_eq name k ≡ b → get_member name (member k d ms) ≡ None
    → (get_member name ms ≡ None → emptied_in name ms ≡ ms) → emptied_in name (member k d ms) ≡ member k d ms
none_at b name k d ms is none rest = grind (arith, common_steps, some_there, member_here, other_order, member_passed)

-- without a member of that name all stay
pub none-emptied : (name : List ℕ) (ms : Members) → get_member name ms ≡ None → emptied_in name ms ≡ ms
none-emptied name no_members none = refl
none-emptied name (member k d ms) none = none_at (bytes_eq name k) name k d ms refl none (none-emptied name ms)

without_at : (b c : Bool) (names : List (List ℕ)) (name k : List ℕ) (d : Data) (ms : Members) → is_one_of names k ≡ b → bytes_eq k name ≡ c
    → is_one_of names name ≡ true → without names (emptied_in name ms) ≡ without names ms
    → without names (emptied_in name (member k d ms)) ≡ without names (member k d ms)
without_at b c names name k d ms is other listed rest = grind (arith, common_steps, bytes_eq-Decides)

pub without-emptied : (names : List (List ℕ)) (name : List ℕ) (ms : Members) → is_one_of names name ≡ true
    → without names (emptied_in name ms) ≡ without names ms
without-emptied names name no_members listed = refl
without-emptied names name (member k d ms) listed = grind (arith, common_steps, without_at, bytes_eq, (without-emptied names name ms listed))

-- ---- the loop

pub record Apart {T : Type 0} (took : T → List Data → Type 0) (t : T) (name : List ℕ) (p : Parse json.Json) (start now : List Token)
    (old nodes : List Node) (v u : List ℕ) (count : ℕ) (last : Option (List ℕ)) (rising : Bool) : Type 0 where
  pub read : MembersRead (emptied_in name) p start now old nodes v u count last rising
  pub taken : TookItems took t (get_member name (put_all read.got no_members))

module _ {T : Type 0} (took : T → List Data → Type 0) (name : List ℕ) (p : Parse json.Json) (start : List Token) (old : List Node) (v : List ℕ) where
  pub apart_start : (t : T) → Apart took t name p start start old (old ++ Null ∷ []) v v 0 None true
  unfolding members_start
  apart_start t = record { read = members_start (emptied_in name) p start old v refl; taken = tt }

  -- one more member, and what was taken after it
  apart_more : (t s : T) (now between r : List Token) (nodes mid new : List Node) (u w x : List ℕ) (count : ℕ) (last : Option (List ℕ))
      (rising rises after : Bool) (k : List ℕ) (d : Data) → (h : Apart took t name p start now old nodes v u count last rising)
      → read_key now ≡ Some (Some k, between) → Grown (λ u xs. TextStands u k xs) nodes mid u w → converted of_json (p between) ≡ Some (d, r)
      → Grown (λ u xs. StandsAsRead rises u (emptied_at name k d) xs) mid new w x → length r < length now
      → TookItems took s (get_member name (put k d (put_all h.read.got no_members)))
      → (after ≡ true → (rises ≡ true) × ((rising && is_name_above last k) ≡ true))
      → Apart took s name p start r old new v x (count + 1) (Some k) after
  unfolding one_more_member
  apart_more t s now between r nodes mid new u w x count last rising rises after k d h key named read g less taken still = record {
    read = one_more_member (emptied_in name) p start old v now between r nodes mid new u w x count last rising rises after k d (emptied_at name k d) h.read
        key named read g less (emptied-joined name h.read.got k d) still;
    taken = subst (λ ms. TookItems took s (get_member name ms)) (sym (put_last h.read.got k d no_members)) taken;
  }

  -- a member of another name
  pub apart_other : (t : T) (now between r : List Token) (nodes mid new : List Node) (u w x : List ℕ) (count : ℕ) (last : Option (List ℕ))
      (rising rises : Bool) (k : List ℕ) (d : Data) → Apart took t name p start now old nodes v u count last rising → bytes_eq k name ≡ false
      → read_key now ≡ Some (Some k, between) → Grown (λ u xs. TextStands u k xs) nodes mid u w → converted of_json (p between) ≡ Some (d, r)
      → Grown (λ u xs. StandsAsRead rises u d xs) mid new w x → length r < length now
      → Apart took t name p start r old new v x (count + 1) (Some k) (rises && (rising && is_name_above last k))
  apart_other t now between r nodes mid new u w x count last rising rises k d h other key named read g less =
      let same : emptied_at name k d ≡ d = rw other refl in
      apart_more t t now between r nodes mid new u w x count last rising rises _ k d h key named read
      (subst (λ e. Grown (λ u xs. StandsAsRead rises u e xs) mid new w x) (sym same) g) less
      (subst (TookItems took t) (sym (get-put name k d (put_all h.read.got no_members) (other_order k name other))) h.taken)
      (and_parts rises (rising && is_name_above last k))

  -- the list, whose items were taken
  pub apart_list : (t s : T) (now between r : List Token) (nodes mid new : List Node) (u w x : List ℕ) (count : ℕ) (last : Option (List ℕ)) (rising : Bool)
      (k : List ℕ) (ds : Items) → Apart took t name p start now old nodes v u count last rising → bytes_eq k name ≡ true → read_key now ≡ Some (Some k, between)
      → Grown (λ u xs. TextStands u k xs) nodes mid u w → converted of_json (p between) ≡ Some (array ds, r)
      → Grown (λ u xs. StandsAsRead true u (array no_items) xs) mid new w x → length r < length now → AreTaken took s ds
      → Apart took s name p start r old new v x (count + 1) (Some k) (rising && is_name_above last k)
  apart_list t s now between r nodes mid new u w x count last rising k ds h equal key named read g less taken =
      let same : emptied_at name k (array ds) ≡ array no_items = rw (equal, taken.0) refl in
      let found = put_all h.read.got no_members in
      let there : get_member name (put k (array ds) found) ≡ Some (array ds) =
      ap (λ n. get_member name (put n (array ds) found)) ((bytes_eq-Decides k name).0 equal) ∙ get_member-put name (array ds) found in
      apart_more t s now between r nodes mid new u w x count last rising true _ k (array ds) h key named read
      (subst (λ e. Grown (λ u xs. StandsAsRead true u e xs) mid new w x) (sym same) g) less (subst (TookItems took s) (sym there) taken) (λ a. (refl, a))

  -- the closing brace
  pub apart_over : (t : T) (now r : List Token) (nodes new : List Node) (u : List ℕ) (count place len : ℕ) (last : Option (List ℕ)) (rising : Bool)
      (e : Extent) → (h : Apart took t name p start now old nodes v u count last rising) → read_key now ≡ Some (None, r) → place ≡ length old
      → len ≡ length nodes → (e.size ≡ len - place) × (e.count ≡ count) → new ≡ set nodes place (Object e)
      → (ms : Members) × ((converted (λ ms. of_members ms no_members) (members p (length start) start) ≡ Some (ms, r))
      × TookItems took t (get_member name ms) × Grown (λ w xs. StandsAsRead rising w (object (emptied_in name ms)) xs) old new v u)
  apart_over t now r nodes new u count place len last rising e h key at whole extent stored =
      let all = all_members (emptied_in name) p start old v now r nodes new u count place len last rising e h.read key at whole extent stored in (
        put_all h.read.got no_members,
        (
          all.0,
          h.taken,
          subst (λ ms. Grown (λ w xs. StandsAsRead rising w (object ms) xs) old new v u) (emptied-all name h.read.got no_members) all.1,
        ),
      )
