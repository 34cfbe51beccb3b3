-- The loops of the descent: items and members, appended as they are read.
use Rattle.cadf_json.proofs.Common.{common_steps, ◌≡◌, ℕ, zero, suc, ◌+◌, ◌-◌, ◌<◌, ◌≤◌, List, [], ◌∷◌, ◌++◌, length, set, Bool, true, ◌&&◌, Option, Some, None, option_map, refl, sym, ap, ap₂, ◌∙◌, subst, arith, append_assoc, append-nil, length-append, Ordering, Less, nat_cmp, slice_cmp, set-append_seam, Token, Parse, parse_map, after_end_array, read_key, items, members, value, opens, items_fail, items_more, members_fail, members_more, members_no_key, Data, array, object, Items, no_items, Members, no_members, member, put, of_json, of_items, of_members, converted, is_name_above, and_parts, is_lt, Node, Null, Text, Array, Object, Extent, IsTextAt, TextStands, ItemsStand, MembersStand, items_count, members_count, put_all, settled_items, settled_members, Grown, StandsAsRead, joined}
use Rattle.json.specs.Json as json
use Rattle.cadf_json.proofs.Orders.{AreBelow, push_if_last, AreBelow-further, AreBelow-joined}
use Rattle.cadf_json.proofs.Passing.{followed, followed-none, with_last, further as further_items, parsed_none}
use Rattle.cadf_json.proofs.Turns.{item_read, items_over, member_read, members_over}
use Rattle.cadf_json.proofs.Settling.{settled_last, settled_joined}
use Rattle.cadf_json.proofs.Standing.{text_further, items_further, members_further, items_last, members_last, count_last, count_joined}

-- ---- what can't be read

too_deep_at : (ts : List Token) → opens ts ≡ true → converted of_json (value 0 ts) ≡ None
unfolding value
too_deep_at ts e = grind (arith, common_steps)

pub too_deep : (depth : ℕ) (ts : List Token) → depth ≡ 0 → opens ts ≡ true → converted of_json (value depth ts) ≡ None
too_deep depth ts e h = ap (λ n. converted of_json (value n ts)) e ∙ too_deep_at ts h

some_none : (o : Option Data) (r : List Token) → option_map {U = Data × List Token} (λ b. (b, r)) o ≡ None → o ≡ None
some_none o r e = grind (arith, common_steps)

no_item : (j : json.Json) (o : Option (json.Items × List Token)) → of_json j ≡ None → converted of_items (parse_map (json.item j) o) ≡ None
no_item j o e = grind (arith, common_steps)

no_member : (k : List ℕ) (j : json.Json) (got : Members) (o : Option (json.Members × List Token)) → of_json j ≡ None
    → converted (λ ms. of_members ms got) (parse_map (json.member k j) o) ≡ None
no_member k j got o e = grind (arith, common_steps)

module _ (p : Parse json.Json) where
  item_failed_at : (n : ℕ) (ts : List Token) (o : Option (json.Json × List Token)) → p ts ≡ o → after_end_array ts ≡ None → converted of_json o ≡ None
      → converted of_items (items p n ts) ≡ None
  unfolding items
  item_failed_at zero ts o is going e = refl
  item_failed_at (suc n) ts None is going e = ap (converted of_items) (items_fail p (suc n) ts going is)
  item_failed_at (suc n) ts (Some q) is going e =
      ap (converted of_items) (items_more p (suc n) ts q.1 q.0 (omega arith) going is) ∙ no_item q.0 _ (some_none (of_json q.0) q.1 e)

  pub item_failed : (n : ℕ) (ts : List Token) → after_end_array ts ≡ None → converted of_json (p ts) ≡ None → converted of_items (items p n ts) ≡ None
  item_failed n ts going e = item_failed_at n ts (p ts) refl going e

  member_failed_at : (got : Members) (n : ℕ) (k : List ℕ) (ts s : List Token) (o : Option (json.Json × List Token)) → p s ≡ o
      → read_key ts ≡ Some (Some k, s) → converted of_json o ≡ None → converted (λ ms. of_members ms got) (members p n ts) ≡ None
  unfolding members
  member_failed_at got zero k ts s o is key e = refl
  member_failed_at got (suc n) k ts s None is key e = ap (converted (λ ms. of_members ms got)) (members_fail p (suc n) k ts s key is)
  member_failed_at got (suc n) k ts s (Some q) is key e =
      ap (converted (λ ms. of_members ms got)) (members_more p (suc n) k ts s q.1 q.0 (omega arith) key is)
      ∙ no_member k q.0 got _ (some_none (of_json q.0) q.1 e)

  pub member_failed : (got : Members) (n : ℕ) (k : List ℕ) (ts s : List Token) → read_key ts ≡ Some (Some k, s) → converted of_json (p s) ≡ None
      → converted (λ ms. of_members ms got) (members p n ts) ≡ None
  member_failed got n k ts s key e = member_failed_at got n k ts s (p s) refl key e

  pub key_failed : (got : Members) (n : ℕ) (ts : List Token) → read_key ts ≡ None → converted (λ ms. of_members ms got) (members p n ts) ≡ None
  key_failed got n ts key = ap (converted (λ ms. of_members ms got)) (members_no_key p n ts key)

-- ---- items

pub record ItemsRead (p : Parse json.Json) (start now : List Token) (old nodes : List Node) (t u : List ℕ) (count : ℕ) (rising : Bool) : Type 0 where
  pub bound : ℕ
  pub enough : length now ≤ bound
  pub got : Items
  pub left : converted of_items (items p (length start) start) ≡ parse_map (followed got) (converted of_items (items p bound now))
  pub shorter : length now ≤ length start
  pub raw : Items
  pub settles : settled_items raw ≡ got
  pub same : rising ≡ true → raw ≡ got
  pub xs : List Node
  pub more : List ℕ
  pub nodes_are : nodes ≡ old ++ Null ∷ xs
  pub texts_are : u ≡ t ++ more
  pub stands : ItemsStand u raw xs
  pub counted : count ≡ items_count raw

-- the list or object that the node at the seam begins
pub closed_at : (old nodes new xs : List Node) (x : Node) (place : ℕ) → nodes ≡ old ++ Null ∷ xs → place ≡ length old → new ≡ set nodes place x
    → new ≡ old ++ x ∷ xs
closed_at old nodes new xs x place is at stored = grind (arith, common_steps, set-append_seam)

pub size_is : (old nodes xs : List Node) (place len size : ℕ) → nodes ≡ old ++ Null ∷ xs → place ≡ length old → len ≡ length nodes → size ≡ len - place
    → size ≡ suc (length xs)
size_is old nodes xs place len size is at whole e = grind (arith, common_steps, length-append)

module _ (p : Parse json.Json) (start : List Token) (old : List Node) (t : List ℕ) where
  pub items_start : ItemsRead p start start old (old ++ Null ∷ []) t t 0 true
  items_start = record {
    bound = length start;
    enough = omega arith;
    got = no_items;
    left = parsed_none _;
    shorter = omega arith;
    raw = no_items;
    settles = refl;
    same = λ r. refl;
    xs = [];
    more = [];
    nodes_are = refl;
    texts_are = sym (append-nil t);
    stands = refl;
    counted = refl;
  }

  pub one_more_item : (now r : List Token) (nodes new : List Node) (u v : List ℕ) (count : ℕ) (rising rises : Bool) (d : Data)
      → ItemsRead p start now old nodes t u count rising → after_end_array now ≡ None → converted of_json (p now) ≡ Some (d, r)
      → Grown (λ u xs. StandsAsRead rises u d xs) nodes new u v → length r < length now
      → ItemsRead p start r old new t v (count + 1) (rises && rising)
  one_more_item now r nodes new u v count rising rises d h going read g less =
      let enough = h.enough in
      let shorter = h.shorter in
      let counted = h.counted in
      let s = g.stands in
      let one = count_last h.raw s.raw in
      record {
        bound = h.bound - 1;
        enough = omega (arith, enough, less);
        got = with_last d h.got;
        left = h.left ∙ ap (parse_map (followed h.got)) (item_read p h.bound now r d (omega (arith, enough, less)) going read) ∙ further_items h.got d _;
        shorter = omega (arith, shorter, less);
        raw = with_last s.raw h.raw;
        settles = settled_last h.raw s.raw ∙ ap₂ with_last s.settles h.settles;
        same = λ still. let both = and_parts rises rising still in ap₂ with_last (s.same both.0) (h.same both.1);
        xs = h.xs ++ g.xs;
        more = h.more ++ g.more;
        nodes_are = g.nodes ∙ ap (λ ys. ys ++ g.xs) h.nodes_are ∙ append_assoc old (Null ∷ h.xs) g.xs;
        texts_are = g.texts ∙ ap (λ ys. ys ++ g.more) h.texts_are ∙ append_assoc t h.more g.more;
        stands = items_last v h.raw s.raw h.xs g.xs (subst (λ w. ItemsStand w h.raw h.xs) (sym g.texts) (items_further u g.more h.raw h.xs h.stands)) s.stands;
        counted = omega (arith, counted, one);
      }

  pub all_items : (now r : List Token) (nodes new : List Node) (u : List ℕ) (count place len : ℕ) (rising : Bool) (e : Extent)
      → ItemsRead p start now old nodes t u count rising → after_end_array now ≡ Some r → place ≡ length old → len ≡ length nodes
      → (e.size ≡ len - place) × (e.count ≡ count) → new ≡ set nodes place (Array e)
      → (ds : Items) × ((converted of_items (items p (length start) start) ≡ Some (ds, r)) × Grown (λ u xs. StandsAsRead rising u (array ds) xs) old new t u)
  all_items now r nodes new u count place len rising e h over at whole extent stored = (
    h.got,
    (
      h.left ∙ ap (parse_map (followed h.got)) (items_over p h.bound now r h.enough over) ∙ ap (λ es. Some (es, r)) (followed-none h.got),
      record {
        xs = Array e ∷ h.xs;
        more = h.more;
        nodes = closed_at old nodes new h.xs (Array e) place h.nodes_are at stored;
        texts = h.texts_are;
        stands = record {
          raw = array h.raw;
          settles = ap array h.settles;
          same = λ still. ap array (h.same still);
          stands = (e, (h.xs, (refl, (size_is old nodes h.xs place len e.size h.nodes_are at whole extent.0, extent.1 ∙ h.counted), h.stands)));
        };
      },
    ),
  )

  pub no_items_here : (now : List Token) (nodes : List Node) (u : List ℕ) (count : ℕ) (rising : Bool) → ItemsRead p start now old nodes t u count rising
      → after_end_array now ≡ None → converted of_json (p now) ≡ None → converted of_items (items p (length start) start) ≡ None
  no_items_here now nodes u count rising h going e = h.left ∙ ap (parse_map (followed h.got)) (item_failed p h.bound now going e)

-- ---- members

pub put_last : (ms : Members) (k : List ℕ) (d : Data) (found : Members) → put_all (joined ms (member k d no_members)) found ≡ put k d (put_all ms found)
put_last no_members k d found = refl
put_last (member l e ms) k d found = put_last ms k d (put l e found)

-- the last name, above which further ones are
abbrev pub IsLast : Members → Option (List ℕ) → Type 0
IsLast got None = got ≡ no_members
IsLast got (Some l) = (k : List ℕ) → slice_cmp nat_cmp l k ≡ Less → AreBelow got k

less_from : (o : Ordering) → is_lt o ≡ true → o ≡ Less
less_from o h = grind (arith, common_steps)

below_next : (got : Members) (last : Option (List ℕ)) (k : List ℕ) → IsLast got last → is_name_above last k ≡ true → AreBelow got k
below_next got last k h above = grind (arith, common_steps, AreBelow, less_from, nat_cmp)

-- while the names rise, the members are in order
pub record AreRising (got : Members) (last : Option (List ℕ)) : Type 0 where
  pub ends : IsLast got last
  pub same : put_all got no_members ≡ got

pub rises_further : (got : Members) (last : Option (List ℕ)) (k : List ℕ) (d : Data) → AreRising got last → is_name_above last k ≡ true
    → AreRising (joined got (member k d no_members)) (Some k)
rises_further got last k d h above = grind (arith, common_steps, below_next, AreBelow-joined, AreBelow-further, put_last, push_if_last)

-- the members that were read, of which the nodes show `shown`
pub record MembersRead (shown : Members → Members) (p : Parse json.Json) (start now : List Token) (old nodes : List Node) (t u : List ℕ) (count : ℕ)
    (last : Option (List ℕ)) (rising : Bool) : Type 0 where
  pub bound : ℕ
  pub enough : length now ≤ bound
  pub got : Members
  pub left : converted (λ ms. of_members ms no_members) (members p (length start) start)
      ≡ converted (λ ms. of_members ms (put_all got no_members)) (members p bound now)
  pub shorter : length now ≤ length start
  pub in_order : rising ≡ true → AreRising (shown got) last
  pub raw : Members
  pub settles : settled_members raw ≡ shown got
  pub same : rising ≡ true → raw ≡ shown got
  pub xs : List Node
  pub more : List ℕ
  pub nodes_are : nodes ≡ old ++ Null ∷ xs
  pub texts_are : u ≡ t ++ more
  pub stands : MembersStand u raw xs
  pub counted : count ≡ members_count raw

module _ (shown : Members → Members) (p : Parse json.Json) (start : List Token) (old : List Node) (t : List ℕ) where
  unfoldable pub members_start : shown no_members ≡ no_members → MembersRead shown p start start old (old ++ Null ∷ []) t t 0 None true
  members_start none = record {
    bound = length start;
    enough = omega arith;
    got = no_members;
    left = refl;
    shorter = omega arith;
    in_order = λ r. subst (λ ms. AreRising ms None) (sym none) (record { ends = refl; same = refl });
    raw = no_members;
    settles = sym none;
    same = λ r. sym none;
    xs = [];
    more = [];
    nodes_are = refl;
    texts_are = sym (append-nil t);
    stands = refl;
    counted = refl;
  }

  -- one more member, of which the nodes show e
  unfoldable pub one_more_member : (now s r : List Token) (nodes mid new : List Node) (u v w : List ℕ) (count : ℕ) (last : Option (List ℕ)) (rising rises after : Bool)
      (k : List ℕ) (d e : Data) → (h : MembersRead shown p start now old nodes t u count last rising) → read_key now ≡ Some (Some k, s)
      → Grown (λ u xs. TextStands u k xs) nodes mid u v → converted of_json (p s) ≡ Some (d, r) → Grown (λ u xs. StandsAsRead rises u e xs) mid new v w
      → length r < length now → shown (joined h.got (member k d no_members)) ≡ joined (shown h.got) (member k e no_members)
      → (after ≡ true → (rises ≡ true) × ((rising && is_name_above last k) ≡ true)) → MembersRead shown p start r old new t w (count + 1) (Some k) after
  one_more_member now s r nodes mid new u v w count last rising rises after k d e h key named read g less joins still =
      let enough = h.enough in
      let shorter = h.shorter in
      let counted = h.counted in
      let value = g.stands in
      let one = count_joined h.raw k value.raw in
      let place = named.stands.0 in
      let is : named.xs ≡ Text place ∷ [] = named.stands.1.0 in
      let mid_are : mid ≡ nodes ++ Text place ∷ [] = named.nodes ∙ ap (λ ys. nodes ++ ys) is in
      let new_are : new ≡ nodes ++ Text place ∷ g.xs = g.nodes ∙ ap (λ ys. ys ++ g.xs) mid_are ∙ append_assoc nodes (Text place ∷ []) g.xs in
      let before = subst (λ y. MembersStand y h.raw h.xs) (sym named.texts) (members_further u named.more h.raw h.xs h.stands) in
      let up = λ (a : after ≡ true). and_parts rising (is_name_above last k) (still a).1 in
      record {
        bound = h.bound - 1;
        enough = omega (arith, enough, less);
        got = joined h.got (member k d no_members);
        left = h.left ∙ member_read p (put_all h.got no_members) h.bound k now s r d (omega (arith, enough, less)) key read
            ∙ ap (λ found. converted (λ ms. of_members ms found) (members p (h.bound - 1) r)) (sym (put_last h.got k d no_members));
        shorter = omega (arith, shorter, less);
        in_order = λ a. subst (λ ms. AreRising ms (Some k)) (sym joins) (rises_further (shown h.got) last k e (h.in_order (up a).0) (up a).1);
        raw = joined h.raw (member k value.raw no_members);
        settles = settled_joined h.raw k value.raw ∙ ap₂ (λ ms f. joined ms (member k f no_members)) h.settles value.settles ∙ sym joins;
        same = λ a. ap₂ (λ ms f. joined ms (member k f no_members)) (h.same (up a).0) (value.same (still a).0) ∙ sym joins;
        xs = h.xs ++ Text place ∷ g.xs;
        more = h.more ++ (named.more ++ g.more);
        nodes_are = new_are ∙ ap (λ ys. ys ++ Text place ∷ g.xs) h.nodes_are ∙ append_assoc old (Null ∷ h.xs) (Text place ∷ g.xs);
        texts_are = g.texts ∙ ap (λ ys. ys ++ g.more) (named.texts ∙ ap (λ ys. ys ++ named.more) h.texts_are)
            ∙ append_assoc (t ++ h.more) named.more g.more ∙ append_assoc t h.more (named.more ++ g.more);
        stands = members_last w h.raw k value.raw place h.xs g.xs
            (subst (λ y. MembersStand y h.raw h.xs) (sym g.texts) (members_further v g.more h.raw h.xs before))
            (subst (λ y. IsTextAt y place k) (sym g.texts) (text_further v g.more place k named.stands.1.1)) value.stands;
        counted = omega (arith, counted, one);
      }

  pub all_members : (now r : List Token) (nodes new : List Node) (u : List ℕ) (count place len : ℕ) (last : Option (List ℕ)) (rising : Bool) (e : Extent)
      → (h : MembersRead shown p start now old nodes t u count last rising) → read_key now ≡ Some (None, r) → place ≡ length old → len ≡ length nodes
      → (e.size ≡ len - place) × (e.count ≡ count) → new ≡ set nodes place (Object e)
      → (converted (λ ms. of_members ms no_members) (members p (length start) start) ≡ Some (put_all h.got no_members, r))
      × Grown (λ u xs. StandsAsRead rising u (object (put_all (shown h.got) no_members)) xs) old new t u
  all_members now r nodes new u count place len last rising e h key at whole extent stored = (
    h.left ∙ members_over p (put_all h.got no_members) h.bound now r h.enough key,
    record {
      xs = Object e ∷ h.xs;
      more = h.more;
      nodes = closed_at old nodes new h.xs (Object e) place h.nodes_are at stored;
      texts = h.texts_are;
      stands = record {
        raw = object h.raw;
        settles = ap (λ ms. object (put_all ms no_members)) h.settles;
        same = λ still. ap object (h.same still ∙ sym (h.in_order still).same);
        stands = (e, (h.xs, (refl, (size_is old nodes h.xs place len e.size h.nodes_are at whole extent.0, extent.1 ∙ h.counted), h.stands)));
      };
    },
  )

  pub no_key_here : (now : List Token) (nodes : List Node) (u : List ℕ) (count : ℕ) (last : Option (List ℕ)) (rising : Bool)
      → MembersRead shown p start now old nodes t u count last rising → read_key now ≡ None
      → converted (λ ms. of_members ms no_members) (members p (length start) start) ≡ None
  no_key_here now nodes u count last rising h key = h.left ∙ key_failed p (put_all h.got no_members) h.bound now key

  pub no_member_here : (now s : List Token) (nodes : List Node) (u : List ℕ) (count : ℕ) (last : Option (List ℕ)) (rising : Bool) (k : List ℕ)
      → MembersRead shown p start now old nodes t u count last rising → read_key now ≡ Some (Some k, s) → converted of_json (p s) ≡ None
      → converted (λ ms. of_members ms no_members) (members p (length start) start) ≡ None
  no_member_here now s nodes u count last rising k h key e = h.left ∙ member_failed p (put_all h.got no_members) h.bound k now s key e
