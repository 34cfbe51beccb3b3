-- Nodes that are copied with members in order: the loops over items and over members.
use Rattle.cadf_json.proofs.Common.{common_steps, ◌≡◌, ℕ, ◌+◌, ◌-◌, ◌<◌, ◌≤◌, List, [], ◌∷◌, ◌++◌, length, set, drop, refl, sym, ap, ◌∙◌, subst, arith, inl, inr, append_assoc, append-nil, length-append, slice_index_or, Data, null, boolean, number, string, array, object, Items, no_items, Members, no_members, member, Extent, Place, Node, Null, Truth, Whole, Fraction, Text, Array, Object, IsTextAt, Stands, ItemsStand, MembersStand, items_count, members_count, put_all, settled, settled_items, settled_members, Entry, Copied, AreNamed, joined}
use Rattle.cadf_json.proofs.Firsts.{FirstItem, no_item, tail_of, tail_is}
use Rattle.cadf_json.proofs.Loops.{closed_at, size_is}
use Rattle.cadf_json.proofs.Orders.{joined-none, joined-one}
use Rattle.cadf_json.proofs.Passing.{with_last, followed, followed-none, followed-last}
use Rattle.cadf_json.proofs.Settling.{settled_last, settled_joined, settled_count, settled_all}
use Rattle.cadf_json.proofs.Standing.{items_last, members_last, count_joined}

-- ---- a value by its first node

-- what the first node says of the value and of the nodes after it
abbrev pub Begun : List ℕ → Node → Data → List Node → Type 0
Begun t Null d ys = (ys ≡ []) × (settled d ≡ d)
Begun t (Truth b) d ys = (ys ≡ []) × (settled d ≡ d)
Begun t (Whole p) d ys = (ys ≡ []) × (settled d ≡ d)
Begun t Fraction d ys = (ys ≡ []) × (settled d ≡ d)
Begun t (Text p) d ys = (ys ≡ []) × (settled d ≡ d)
Begun t (Array e) d ys = (ds : Items) × ((d ≡ array ds) × (e.count ≡ items_count ds) × ItemsStand t ds ys)
Begun t (Object e) d ys = (ms : Members) × ((d ≡ object ms) × MembersStand t ms ys)

begun : (t : List ℕ) (d : Data) (xs : List Node) → Stands t d xs → (x : Node) × ((ys : List Node) × ((xs ≡ x ∷ ys) × Begun t x d ys))
begun t null xs h = (Null, ([], (h, (refl, refl))))
begun t (boolean b) xs h = (Truth b, ([], (h, (refl, refl))))
begun t (number n) xs (inl (p, (is, at, whole))) = (Whole p, ([], (is, (refl, refl))))
begun t (number n) xs (inr (is, float)) = (Fraction, ([], (is, (refl, refl))))
begun t (string s) xs (p, (is, at)) = (Text p, ([], (is, (refl, refl))))
begun t (array ds) xs (e, (ys, (is, extent, h))) = (Array e, (ys, (is, (ds, (refl, extent.1, h)))))
begun t (object ms) xs (e, (ys, (is, extent, h))) = (Object e, (ys, (is, (ms, (refl, h)))))

pub nonempty : (t : List ℕ) (d : Data) (xs : List Node) → Stands t d xs → xs ≡ slice_index_or xs 0 Null ∷ tail_of xs
nonempty t d xs h = grind (arith, common_steps, begun, tail_is)

pub begun_by : (t : List ℕ) (d : Data) (xs : List Node) (x : Node) → Stands t d xs → slice_index_or xs 0 Null ≡ x → Begun t x d (tail_of xs)
begun_by t d xs x h is = grind (arith, common_steps, begun, tail_of, tail_is)

pub scalar_begun : (t : List ℕ) (x : Node) (d : Data) (ys : List Node) → Begun t x d ys → ((e : Extent) → x ≡ Array e → ⊥)
    → ((e : Extent) → x ≡ Object e → ⊥) → (ys ≡ []) × (settled d ≡ d)
scalar_begun t x d ys h no_list no_object = grind (arith, common_steps)

pub place_within : (old out xs : List Node) (place : ℕ) → out ≡ old ++ Null ∷ xs → place ≡ length old → place < length out
place_within old out xs place is at = let long = ap length is ∙ length-append old (Null ∷ xs) in omega (arith, long, at)

-- ---- items

pub record ItemsCopied (t : List ℕ) (ds : Items) (rest old out : List Node) : Type 0 where
  pub done : Items
  pub left : Items
  pub all : followed done left ≡ ds
  pub left_stand : ItemsStand t left rest
  pub xs : List Node
  pub out_are : out ≡ old ++ Null ∷ xs
  pub stands : ItemsStand t (settled_items done) xs

module _ (t : List ℕ) (ds : Items) (old : List Node) where
  pub copied_none : (xs : List Node) → ItemsStand t ds xs → ItemsCopied t ds xs old (old ++ Null ∷ [])
  copied_none xs h = record { done = no_items; left = ds; all = refl; left_stand = h; xs = []; out_are = refl; stands = refl }

  pub copied_more : (rest out new : List Node) (n : ℕ) → (h : ItemsCopied t ds rest old out) → (f : FirstItem t rest n h.left)
      → Copied t (settled f.value) out new → ItemsCopied t ds (drop n rest) old new
  copied_more rest out new n h f copy = record {
    done = with_last f.value h.done;
    left = f.later;
    all = sym (followed-last h.done f.value f.later) ∙ ap (followed h.done) (sym f.is) ∙ h.all;
    left_stand = f.left_stand;
    xs = h.xs ++ copy.0;
    out_are = copy.1.0 ∙ ap (λ ys. ys ++ copy.0) h.out_are ∙ append_assoc old (Null ∷ h.xs) copy.0;
    stands = subst (λ es. ItemsStand t es (h.xs ++ copy.0)) (sym (settled_last h.done f.value))
        (items_last t (settled_items h.done) (settled f.value) h.xs copy.0 h.stands copy.1.1);
  }

  pub copied_all : (rest out new : List Node) (count place len : ℕ) (e : Extent) → ItemsCopied t ds rest old out → length rest ≡ 0 → count ≡ items_count ds
      → place ≡ length old → len ≡ length out → (e.size ≡ len - place) × (e.count ≡ count) → new ≡ set out place (Array e)
      → Copied t (array (settled_items ds)) old new
  copied_all rest out new count place len e h none counted at whole extent stored =
      let is : h.done ≡ ds = sym (followed-none h.done) ∙ ap (followed h.done) (sym (no_item t rest h.left none h.left_stand)) ∙ h.all in (
        Array e ∷ h.xs,
        (
          closed_at old out new h.xs (Array e) place h.out_are at stored,
          (
            e,
            (
              h.xs,
              (
                refl,
                (size_is old out h.xs place len e.size h.out_are at whole extent.0, extent.1 ∙ counted ∙ sym (settled_count ds)),
                subst (λ es. ItemsStand t (settled_items es) h.xs) is h.stands,
              ),
            ),
          ),
        ),
      )

-- ---- members

pub record MembersCopied (t : List ℕ) (n : ℕ) (ms : Members) (es : List Entry) (old out : List Node) (kept : ℕ) : Type 0 where
  pub done : Members
  pub left : Members
  pub all : joined done left ≡ put_all ms no_members
  pub named : AreNamed t n es left
  pub xs : List Node
  pub out_are : out ≡ old ++ Null ∷ xs
  pub stands : MembersStand t (settled_members done) xs
  pub counted : kept ≡ members_count (settled_members done)

-- the first of some entries: its member, and the nodes of its name and value
pub record FirstNamed (t : List ℕ) (n : ℕ) (e : Entry) (es : List Entry) (left : Members) : Type 0 where
  pub name : List ℕ
  pub value : Data
  pub later : Members
  pub is : left ≡ member name value later
  pub place : Place
  pub ys : List Node
  pub nodes_are : e.1.nodes.now ≡ Text place ∷ ys
  pub at : IsTextAt t place name
  pub stands : Stands t value ys
  pub within : length e.1.nodes.now ≤ n
  pub named : AreNamed t n es later

module _ (t : List ℕ) (n : ℕ) where
  pub first_named : (e : Entry) (es : List Entry) (left : Members) → AreNamed t n (e ∷ es) left → FirstNamed t n e es left
  first_named e es no_members h = absurd h
  first_named e es (member k d ms) (same, (p, (ys, (zs, (is, at, value, none)))), within, h) = record {
    name = k;
    value = d;
    later = ms;
    is = refl;
    place = p;
    ys = ys;
    nodes_are = is ∙ ap (λ ws. Text p ∷ ys ++ ws) none ∙ ap (λ ws. Text p ∷ ws) (append-nil ys);
    at = at;
    stands = value;
    within = within;
    named = h;
  }

  -- the first of the entries that are left
  pub first_kept : {ms : Members} {fs es : List Entry} {e : Entry} {old out : List Node} {kept : ℕ} → (now : fs ≡ e ∷ es)
      → (h : MembersCopied t n ms fs old out kept) → FirstNamed t n e es (subst (λ gs. MembersCopied t n ms gs old out kept) now h).left
  first_kept {ms} {fs} {es} {e} {old} {out} {kept} now h = first_named e es _ (subst (λ gs. MembersCopied t n ms gs old out kept) now h).named

  none_named : (left : Members) → AreNamed t n [] left → left ≡ no_members
  none_named no_members h = refl
  none_named (member k d ms) h = absurd h

  module _ (ms : Members) (old : List Node) where
    pub named_none : (es : List Entry) → AreNamed t n es (put_all ms no_members) → MembersCopied t n ms es old (old ++ Null ∷ []) 0
    named_none es h =
        record { done = no_members; left = put_all ms no_members; all = refl; named = h; xs = []; out_are = refl; stands = refl; counted = refl }

    pub named_more : (e : Entry) (es : List Entry) (out mid new : List Node) (kept : ℕ) → (h : MembersCopied t n ms (e ∷ es) old out kept)
        → (f : FirstNamed t n e es h.left) → mid ≡ out ++ Text f.place ∷ [] → Copied t (settled f.value) mid new
        → MembersCopied t n ms es old new (kept + 1)
    named_more e es out mid new kept h f pushed copy =
        let counted = h.counted in
        let is = settled_joined h.done f.name f.value in
        let one = count_joined (settled_members h.done) f.name (settled f.value) in
        let same = ap members_count is in
        record {
          done = joined h.done (member f.name f.value no_members);
          left = f.later;
          all = joined-one h.done f.name f.value f.later ∙ ap (joined h.done) (sym f.is) ∙ h.all;
          named = f.named;
          xs = h.xs ++ Text f.place ∷ copy.0;
          out_are = copy.1.0 ∙ ap (λ ys. ys ++ copy.0) pushed ∙ append_assoc out (Text f.place ∷ []) copy.0 ∙ ap (λ ys. ys ++ Text f.place ∷ copy.0) h.out_are
              ∙ append_assoc old (Null ∷ h.xs) (Text f.place ∷ copy.0);
          stands = subst (λ os. MembersStand t os (h.xs ++ Text f.place ∷ copy.0)) (sym is)
              (members_last t (settled_members h.done) f.name (settled f.value) f.place h.xs copy.0 h.stands f.at copy.1.1);
          counted = omega (arith, counted, one, same);
        }

    pub named_all : (out new : List Node) (kept place len : ℕ) (e : Extent) → MembersCopied t n ms [] old out kept → place ≡ length old
        → len ≡ length out → (e.size ≡ len - place) × (e.count ≡ kept) → new ≡ set out place (Object e)
        → Copied t (object (put_all (settled_members ms) no_members)) old new
    named_all out new kept place len e h at whole extent stored =
        let is : h.done ≡ put_all ms no_members = sym (joined-none h.done) ∙ ap (joined h.done) (sym (none_named h.left h.named)) ∙ h.all in
        let all : settled_members h.done ≡ put_all (settled_members ms) no_members = ap settled_members is ∙ settled_all ms no_members in (
          Object e ∷ h.xs,
          (
            closed_at old out new h.xs (Object e) place h.out_are at stored,
            (
              e,
              (
                h.xs,
                (
                  refl,
                  (size_is old out h.xs place len e.size h.out_are at whole extent.0, extent.1 ∙ h.counted ∙ ap members_count all),
                  subst (λ os. MembersStand t os h.xs) all h.stands,
                ),
              ),
            ),
          ),
        )
