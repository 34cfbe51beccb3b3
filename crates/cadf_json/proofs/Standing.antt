-- The nodes of a value stay its nodes when texts are appended, and one more item or member follows the others.
use Rattle.cadf_json.proofs.Common.{common_steps, ◌≡◌, ℕ, suc, ◌≤◌, List, [], ◌∷◌, ◌++◌, length, refl, sym, ap, ◌∙◌, arith, inl, inr, append_assoc, append-nil, length-append, length-drop, slice_range, take-append-le, drop-append-le, Num, Data, null, boolean, number, string, array, object, Items, no_items, item, Members, no_members, member, Node, Text, Place, IsTextAt, NumberStands, Stands, ItemsStand, MembersStand, items_count, members_count, joined}
use Rattle.cadf_json.proofs.Passing.{with_last}

pub range_append : {A : Type 0} (xs ys : List A) (a b : ℕ) → a ≤ b → b ≤ length xs → slice_range (xs ++ ys) a b ≡ slice_range xs a b
range_append xs ys a b h k = grind (arith, common_steps, drop-append-le, take-append-le, length-drop)

module _ (t more : List ℕ) where
  pub text_further : (p : Place) (s : List ℕ) → IsTextAt t p s → IsTextAt (t ++ more) p s
  text_further p s h =
      let within = h.within in
      record { rise = h.rise; within = omega (arith, within, length-append t more); is = range_append t more p.start p.end h.rise h.within ∙ h.is }

  number_further : (n : Num) (xs : List Node) → NumberStands t n xs → NumberStands (t ++ more) n xs
  number_further n xs (inl (p, (e, at, whole))) = inl (p, (e, text_further p _ at, whole))
  number_further n xs (inr h) = inr h

  mutual
    pub further : (d : Data) (xs : List Node) → Stands t d xs → Stands (t ++ more) d xs
    further null xs h = h
    further (boolean b) xs h = h
    further (number n) xs h = number_further n xs h
    further (string s) xs (p, (e, at)) = (p, (e, text_further p s at))
    further (array ds) xs (e, (ys, (is, extent, h))) = (e, (ys, (is, extent, items_further ds ys h)))
    further (object ms) xs (e, (ys, (is, extent, h))) = (e, (ys, (is, extent, members_further ms ys h)))

    pub items_further : (ds : Items) (xs : List Node) → ItemsStand t ds xs → ItemsStand (t ++ more) ds xs
    items_further no_items xs h = h
    items_further (item d ds) xs (ys, (zs, (e, h, k))) = (ys, (zs, (e, further d ys h, items_further ds zs k)))

    pub members_further : (ms : Members) (xs : List Node) → MembersStand t ms xs → MembersStand (t ++ more) ms xs
    members_further no_members xs h = h
    members_further (member k d ms) xs (p, (ys, (zs, (e, at, h, j)))) = (p, (ys, (zs, (e, text_further p k at, further d ys h, members_further ms zs j))))

module _ (t : List ℕ) where
  pub items_last : (ds : Items) (d : Data) (xs ys : List Node) → ItemsStand t ds xs → Stands t d ys → ItemsStand t (with_last d ds) (xs ++ ys)
  items_last no_items d xs ys h s = (ys, ([], (ap (λ zs. zs ++ ys) h ∙ sym (append-nil ys), s, refl)))
  items_last (item e ds) d xs ys (vs, (ws, (is, h, k))) s =
      (vs, (ws ++ ys, (ap (λ zs. zs ++ ys) is ∙ append_assoc vs ws ys, h, items_last ds d ws ys k s)))

  pub members_last : (ms : Members) (k : List ℕ) (d : Data) (p : Place) (xs ys : List Node) → MembersStand t ms xs → IsTextAt t p k → Stands t d ys
      → MembersStand t (joined ms (member k d no_members)) (xs ++ Text p ∷ ys)
  members_last no_members k d p xs ys h at s =
      (p, (ys, ([], (ap (λ zs. zs ++ Text p ∷ ys) h ∙ ap (λ zs. Text p ∷ zs) (sym (append-nil ys)), at, s, refl))))
  members_last (member l e ms) k d p xs ys (q, (vs, (ws, (is, on, h, j)))) at s = (
    q,
    (
      vs,
      (
        ws ++ Text p ∷ ys,
        (
          ap (λ zs. zs ++ Text p ∷ ys) is ∙ ap (λ zs. Text q ∷ zs) (append_assoc vs ws (Text p ∷ ys)),
          on,
          h,
          members_last ms k d p ws ys j at s,
        ),
      ),
    ),
  )

pub count_last : (ds : Items) (d : Data) → items_count (with_last d ds) ≡ suc (items_count ds)
count_last no_items d = refl
count_last (item e ds) d = ap suc (count_last ds d)

pub count_joined : (ms : Members) (k : List ℕ) (d : Data) → members_count (joined ms (member k d no_members)) ≡ suc (members_count ms)
count_joined no_members k d = refl
count_joined (member l e ms) k d = ap suc (count_joined ms k d)
