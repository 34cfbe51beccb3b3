-- The value that nodes are is determined by them, and so is whether a number of it isn't whole.
use Rattle.cadf_json.proofs.Common.{common_steps, ◌≡◌, ℕ, List, [], ◌++◌, Bool, false, ◌||◌, refl, sym, ap, ap₂, ◌∙◌, subst, inl, inr, append_assoc, append-nil, arith, or_parts, or-false, Num, Data, null, boolean, number, string, array, object, Items, no_items, item, Members, no_members, member, is_float, has_float, items_have_float, members_have_float, IsWholeNumber, IsWhole, IsValue, Node, text_at, NumberStands, Stands, ItemsStand, MembersStand, items_count, members_count, first_items, later_items, first_members, later_members, node_values, first_value, decode, have_fraction, IsSettled, IsFlatValue}
use Rattle.cadf_json.proofs.Passing.{followed}
use Rattle.cadf_json.proofs.Texts.{number_in_is, has_float-IsWhole}

first_followed : (ds es : Items) → first_items (items_count ds) (followed ds es) ≡ ds
first_followed no_items es = refl
first_followed (item d ds) es = ap (item d) (first_followed ds es)

later_followed : (ds es : Items) → later_items (items_count ds) (followed ds es) ≡ es
later_followed no_items es = refl
later_followed (item d ds) es = later_followed ds es

abbrev pub flattened : Members → Items → Items
flattened no_members es = es
flattened (member k d ms) es = item (string k) (item d (flattened ms es))

first_flattened : (ms : Members) (es : Items) → first_members (members_count ms) (flattened ms es) ≡ ms
first_flattened no_members es = refl
first_flattened (member k d ms) es = ap (member k d) (first_flattened ms es)

later_flattened : (ms : Members) (es : Items) → later_members (members_count ms) (flattened ms es) ≡ es
later_flattened no_members es = refl
later_flattened (member k d ms) es = later_flattened ms es

module _ (t : List ℕ) where
  number_values : (n : Num) (xs ys : List Node) → NumberStands t n xs → is_float n ≡ false → node_values t (xs ++ ys) ≡ item (number n) (node_values t ys)
  number_values n xs ys (inl (p, (is, at, whole))) f =
      ap (λ zs. node_values t (zs ++ ys)) is ∙ ap (λ m. item (number m) (node_values t ys)) (number_in_is (text_at t p) n whole at.is)
  number_values n xs ys (inr (is, odd)) f = absurd cc

  mutual
    pub values_of : (d : Data) (xs ys : List Node) → Stands t d xs → has_float d ≡ false → node_values t (xs ++ ys) ≡ item d (node_values t ys)
    values_of null xs ys h f = ap (λ zs. node_values t (zs ++ ys)) h
    values_of (boolean b) xs ys h f = ap (λ zs. node_values t (zs ++ ys)) h
    values_of (number n) xs ys h f = number_values n xs ys h f
    values_of (string s) xs ys (p, (is, at)) f = ap (λ zs. node_values t (zs ++ ys)) is ∙ ap (λ u. item (string u) (node_values t ys)) at.is
    values_of (array ds) xs ys (e, (zs, (is, extent, h))) f =
        ap (λ ws. node_values t (ws ++ ys)) is
        ∙ ap₂ (λ n vs. item (array (first_items n vs)) (later_items n vs)) extent.1 (items_values ds zs ys h f)
        ∙ ap₂ (λ es vs. item (array es) vs) (first_followed ds (node_values t ys)) (later_followed ds (node_values t ys))
    values_of (object ms) xs ys (e, (zs, (is, extent, h))) f =
        ap (λ ws. node_values t (ws ++ ys)) is
        ∙ ap₂ (λ n vs. item (object (first_members n vs)) (later_members n vs)) extent.1 (members_values ms zs ys h f)
        ∙ ap₂ (λ ns vs. item (object ns) vs) (first_flattened ms (node_values t ys)) (later_flattened ms (node_values t ys))

    pub items_values : (ds : Items) (xs ys : List Node) → ItemsStand t ds xs → items_have_float ds ≡ false → node_values t (xs ++ ys) ≡ followed ds (node_values t ys)
    items_values no_items xs ys h f = ap (λ zs. node_values t (zs ++ ys)) h
    items_values (item d ds) xs ys (vs, (ws, (is, h, k))) f =
        let both = or_parts (has_float d) (items_have_float ds) f in
        ap (λ zs. node_values t (zs ++ ys)) is ∙ ap (node_values t) (append_assoc vs ws ys) ∙ values_of d vs (ws ++ ys) h both.0 ∙ ap (item d) (items_values ds ws ys k both.1)

    pub members_values : (ms : Members) (xs ys : List Node) → MembersStand t ms xs → members_have_float ms ≡ false → node_values t (xs ++ ys) ≡ flattened ms (node_values t ys)
    members_values no_members xs ys h f = ap (λ zs. node_values t (zs ++ ys)) h
    members_values (member k d ms) xs ys (p, (vs, (ws, (is, at, h, j)))) f =
        let both = or_parts (has_float d) (members_have_float ms) f in
        ap (λ zs. node_values t (zs ++ ys)) is
        ∙ ap₂ (λ u zs. item (string u) (node_values t zs)) at.is (append_assoc vs ws ys)
        ∙ ap (item (string k)) (values_of d vs (ws ++ ys) h both.0 ∙ ap (item d) (members_values ms ws ys j both.1))

  pub decoded : (d : Data) (xs : List Node) → Stands t d xs → has_float d ≡ false → decode t xs ≡ d
  decoded d xs h f = ap (decode t) (sym (append-nil xs)) ∙ ap first_value (values_of d xs [] h f)

  pub decoded_whole : (d : Data) (xs : List Node) → Stands t d xs → IsWhole d → decode t xs ≡ d
  decoded_whole d xs h w = decoded d xs h (has_float-IsWhole d w)

-- ---- fractions

no_float : (n : Num) → IsWholeNumber n → is_float n ≡ false
no_float n h = grind (arith, common_steps)

or_assoc : (a b c : Bool) → (a || (b || c)) ≡ ((a || b) || c)
or_assoc a b c = grind (arith, common_steps)

module _ (t : List ℕ) where
  number_fraction : (n : Num) (xs ys : List Node) → NumberStands t n xs → have_fraction (xs ++ ys) ≡ (is_float n || have_fraction ys)
  number_fraction n xs ys (inl (p, (is, at, whole))) =
      ap (λ zs. have_fraction (zs ++ ys)) is ∙ ap (λ b. b || have_fraction ys) (sym (no_float n whole))
  number_fraction n xs ys (inr (is, odd)) = ap (λ zs. have_fraction (zs ++ ys)) is ∙ ap (λ b. b || have_fraction ys) (sym odd)

  mutual
    fraction_of : (d : Data) (xs ys : List Node) → Stands t d xs → have_fraction (xs ++ ys) ≡ (has_float d || have_fraction ys)
    fraction_of null xs ys h = ap (λ zs. have_fraction (zs ++ ys)) h
    fraction_of (boolean b) xs ys h = ap (λ zs. have_fraction (zs ++ ys)) h
    fraction_of (number n) xs ys h = number_fraction n xs ys h
    fraction_of (string s) xs ys (p, (is, at)) = ap (λ zs. have_fraction (zs ++ ys)) is
    fraction_of (array ds) xs ys (e, (zs, (is, extent, h))) = ap (λ ws. have_fraction (ws ++ ys)) is ∙ items_fraction ds zs ys h
    fraction_of (object ms) xs ys (e, (zs, (is, extent, h))) = ap (λ ws. have_fraction (ws ++ ys)) is ∙ members_fraction ms zs ys h

    items_fraction : (ds : Items) (xs ys : List Node) → ItemsStand t ds xs → have_fraction (xs ++ ys) ≡ (items_have_float ds || have_fraction ys)
    items_fraction no_items xs ys h = ap (λ zs. have_fraction (zs ++ ys)) h
    items_fraction (item d ds) xs ys (vs, (ws, (is, h, k))) =
        ap (λ zs. have_fraction (zs ++ ys)) is ∙ ap have_fraction (append_assoc vs ws ys) ∙ fraction_of d vs (ws ++ ys) h
        ∙ ap (λ b. has_float d || b) (items_fraction ds ws ys k) ∙ or_assoc (has_float d) (items_have_float ds) (have_fraction ys)

    members_fraction : (ms : Members) (xs ys : List Node) → MembersStand t ms xs → have_fraction (xs ++ ys) ≡ (members_have_float ms || have_fraction ys)
    members_fraction no_members xs ys h = ap (λ zs. have_fraction (zs ++ ys)) h
    members_fraction (member k d ms) xs ys (p, (vs, (ws, (is, at, h, j)))) =
        ap (λ zs. have_fraction (zs ++ ys)) is ∙ ap have_fraction (append_assoc vs ws ys) ∙ fraction_of d vs (ws ++ ys) h
        ∙ ap (λ b. has_float d || b) (members_fraction ms ws ys j) ∙ or_assoc (has_float d) (members_have_float ms) (have_fraction ys)

  pub fraction_is : (d : Data) (xs : List Node) → Stands t d xs → have_fraction xs ≡ has_float d
  fraction_is d xs h = ap have_fraction (sym (append-nil xs)) ∙ fraction_of d xs [] h ∙ or-false (has_float d)

pub flat_value : (t : List ℕ) (d : Data) (xs : List Node) → IsSettled t d xs → IsValue d → IsFlatValue t xs
flat_value t d xs s v = (inr (subst (λ e. Stands t e xs) (sym s.decodes) s.stands), subst IsValue (sym s.decodes) v)
