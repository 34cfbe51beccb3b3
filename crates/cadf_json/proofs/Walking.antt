-- From one item or member to the next, over the nodes that are left.
use Rattle.cadf_json.proofs.Common.{common_steps, ◌≡◌, ℕ, ◌<◌, ◌≤◌, List, [], length, take, drop, IsUtf8, true, false, is_some, refl, sym, ap, ap₂, ◌∙◌, subst, arith, append-nil, slice_index_or, Data, null, boolean, number, string, array, object, Items, no_items, item, Members, no_members, member, items_depth, as_array, is_object, items_in, members_in, ItemsAreWhole, IsValue, AreMembers, Rises, RisesFrom, size_of, node_values, decode, Stands, ItemsStand, MembersStand, IsFirstMember, paired, members_at, AreItemsLeft, AreMembersLeft, Node, Null, FirstMember}
use Rattle.cadf_json.proofs.Decoding.{flattened, items_values, members_values, decoded_whole}
use Rattle.cadf_json.proofs.Passing.{followed-none}
use Rattle.cadf_json.proofs.Texts.{has_float-IsWhole}
use Rattle.cadf_json.proofs.Firsts.{first_item, some_member, tail_of, tail_is}

paired_flattened : (ms : Members) → paired (flattened ms no_items) ≡ ms
paired_flattened no_members = refl
paired_flattened (member k d ms) = ap (member k d) (paired_flattened ms)

later_rises : (k : List ℕ) (ms : Members) → RisesFrom k ms → Rises ms
later_rises k ms h = grind (arith, common_steps)

module _ (t : List ℕ) where
  items_are : (ds : Items) (xs : List Node) → ItemsStand t ds xs → ItemsAreWhole ds → node_values t xs ≡ ds
  items_are ds xs h w = ap (node_values t) (sym (append-nil xs)) ∙ items_values t ds xs [] h (has_float-IsWhole (array ds) w) ∙ followed-none ds

  members_are : (ms : Members) (xs : List Node) → MembersStand t ms xs → AreMembers ms → members_at t xs ≡ ms
  members_are ms xs h w =
      ap (members_at t) (sym (append-nil xs)) ∙ ap paired (members_values t ms xs [] h (has_float-IsWhole (object ms) (w.0, w.1))) ∙ paired_flattened ms

  pub items_left_of : (ds : Items) (xs : List Node) → ItemsStand t ds xs → ItemsAreWhole ds → items_depth ds ≤ 126
      → AreItemsLeft t xs × (node_values t xs ≡ ds)
  items_left_of ds xs h w deep =
      let is = items_are ds xs h w in (
        record {
          stand = subst (λ es. ItemsStand t es xs) (sym is) h;
          whole = subst ItemsAreWhole (sym is) w;
          shallow = subst (λ es. items_depth es ≤ 126) (sym is) deep;
        },
        is,
      )

  pub members_left_of : (ms : Members) (xs : List Node) → MembersStand t ms xs → AreMembers ms → AreMembersLeft t xs × (members_at t xs ≡ ms)
  members_left_of ms xs h w =
      let is = members_are ms xs h w in
      (record { stand = subst (λ os. MembersStand t os xs) (sym is) h; are_members = subst AreMembers (sym is) w }, is)

  -- the nodes of a value that is seen from outside
  pub seen : (d : Data) (xs : List Node) → Stands t d xs → IsValue d → (Stands t (decode t xs) xs × IsValue (decode t xs)) × (decode t xs ≡ d)
  seen d xs h v =
      let is = decoded_whole t d xs h v.0 in ((subst (λ e. Stands t e xs) (sym is) h, subst IsValue (sym is) v), is)

  -- ---- the next item

  pub record NextItem (rest : List Node) (n : ℕ) : Type 0 where
    pub within : n ≤ length rest
    pub value : Stands t (decode t (take n rest)) (take n rest) × IsValue (decode t (take n rest))
    pub left : AreItemsLeft t (drop n rest)
    pub is : node_values t rest ≡ item (decode t (take n rest)) (node_values t (drop n rest))

  pub next_item : (rest : List Node) (n : ℕ) → 0 < length rest → AreItemsLeft t rest → n ≡ size_of (slice_index_or rest 0 Null) → NextItem rest n
  next_item rest n some h size =
      let f = first_item t rest n (node_values t rest) some h.stand size in
      let whole : ItemsAreWhole (item f.value f.later) = subst ItemsAreWhole f.is h.whole in
      let deep : items_depth (item f.value f.later) ≤ 126 = subst (λ ds. items_depth ds ≤ 126) f.is h.shallow in
      let v = seen f.value (take n rest) f.stands (whole.0, omega (arith, deep)) in
      let l = items_left_of f.later (drop n rest) f.left_stand whole.1 (omega (arith, deep)) in
      record { within = f.within; value = v.0; left = l.0; is = f.is ∙ ap₂ item (sym v.1) (sym l.1) }

  -- ---- the next member

  abbrev IsFirst : List Node → FirstMember → Type 0
  IsFirst rest f = (k : List ℕ) (d : Data) (ms : Members) → MembersStand t (member k d ms) rest → IsFirstMember t rest k d ms f

  pub record NextMember (rest : List Node) (f : FirstMember) : Type 0 where
    pub utf8 : IsUtf8 f.name.now
    pub value : Stands t (decode t f.value.now) f.value.now × IsValue (decode t f.value.now)
    pub left : AreMembersLeft t f.rest.now
    pub is : members_at t rest ≡ member f.name.now (decode t f.value.now) (members_at t f.rest.now)

  pub any_member : (rest : List Node) → 0 < length rest → AreMembersLeft t rest
      → (k : List ℕ) × ((d : Data) × ((ms : Members) × MembersStand t (member k d ms) rest))
  any_member rest some h =
      let l = some_member t rest (members_at t rest) some h.stand in
      (l.0, (l.1.0, (l.1.1.0, l.1.1.1.1)))

  pub next_member : (rest : List Node) (f : FirstMember) → 0 < length rest → AreMembersLeft t rest → IsFirst rest f → NextMember rest f
  next_member rest f some h first =
      let l = some_member t rest (members_at t rest) some h.stand in
      let k = l.0 in
      let d = l.1.0 in
      let later = l.1.1.0 in
      let m = first k d later l.1.1.1.1 in
      let all : AreMembers (member k d later) = subst AreMembers l.1.1.1.0 h.are_members in
      let deep = all.2 in
      let v = seen d f.value.now m.value (all.0.1, omega (arith, deep)) in
      let r = members_left_of later f.rest.now m.rest (all.0.2, later_rises k later all.1, omega (arith, deep)) in
      record {
        utf8 = subst IsUtf8 (sym m.name_is) all.0.0;
        value = v.0;
        left = r.0;
        is = l.1.1.1.0 ∙ ap (λ n. member n d later) (sym m.name_is) ∙ ap₂ (member f.name.now) (sym v.1) (sym r.1);
      }

  -- ---- the items and members of a value

  pub list_parts : (d : Data) (xs : List Node) → Stands t d xs → IsValue d → is_some (as_array d) ≡ true
      → AreItemsLeft t (tail_of xs) × (node_values t (tail_of xs) ≡ items_in d)
  list_parts null xs h v e = absurd cc
  list_parts (boolean b) xs h v e = absurd cc
  list_parts (number n) xs h v e = absurd cc
  list_parts (string s) xs h v e = absurd cc
  list_parts (array ds) xs (x, (ys, (is, extent, h))) v e =
      let deep = v.1 in
      items_left_of ds (tail_of xs) (subst (ItemsStand t ds) (sym (tail_is _ xs ys is)) h) v.0 (omega (arith, deep))
  list_parts (object ms) xs h v e = absurd cc

  pub object_parts : (d : Data) (xs : List Node) → Stands t d xs → IsValue d → is_object d ≡ true
      → AreMembersLeft t (tail_of xs) × (members_at t (tail_of xs) ≡ members_in d)
  object_parts null xs h v e = absurd cc
  object_parts (boolean b) xs h v e = absurd cc
  object_parts (number n) xs h v e = absurd cc
  object_parts (string s) xs h v e = absurd cc
  object_parts (array ds) xs h v e = absurd cc
  object_parts (object ms) xs (x, (ys, (is, extent, h))) v e =
      let deep = v.1 in
      members_left_of ms (tail_of xs) (subst (MembersStand t ms) (sym (tail_is _ xs ys is)) h) (v.0.0, v.0.1, omega (arith, deep))

pub no_list : (d : Data) → is_some (as_array d) ≡ false → items_in d ≡ no_items
no_list d e = grind (arith, common_steps)

pub are_members_in : (d : Data) → IsValue d → AreMembers (members_in d)
are_members_in d v = grind (arith, common_steps)
