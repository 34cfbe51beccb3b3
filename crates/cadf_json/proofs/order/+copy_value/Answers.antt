use Rattle.cadf_json.proofs.Common.{common_steps, ◌≡◌, [], ◌∷◌, ◌++◌, length, ◌+◌, ◌-◌, false, drop, take, set, slice_index_or, refl, sym, ap, ◌∙◌, subst, arith, rules, length-drop, at_drop_all, on_ok_weaker, Null, Text, Array, Object, Stands, settled, size_of, Copied, is_replaced, lasts}
use Rattle.cadf_json.proofs.Copying.{nonempty, begun_by, scalar_begun, place_within, ItemsCopied, copied_none, copied_more, copied_all, MembersCopied}
use Rattle.cadf_json.proofs.Copying.{first_kept, named_none, named_more, named_all}
use Rattle.cadf_json.proofs.Firsts.{first_item, tail_of, tail_is}
use Rattle.cadf_json.proofs.Sorted.{lasts_from, spot}
use Rattle.cadf_json.proofs.order.+copy_value.Goals as goal

-- ---- a value

pub copy_value-bounds-value-0 : goal.copy_value-bounds-value-0
copy_value-bounds-value-0 t c = grind (arith, common_steps, nonempty)

pub copy_value-slice_bounds-copy_items-count : goal.copy_value-slice_bounds-copy_items-count
copy_value-slice_bounds-copy_items-count t c = grind (arith, common_steps, nonempty)

pub copy_value-slice_bounds-copy_items-start : goal.copy_value-slice_bounds-copy_items-start
copy_value-slice_bounds-copy_items-start t c = grind (arith, common_steps, nonempty)

pub copy_value-copy_items-requires : goal.copy_value-copy_items-requires
copy_value-copy_items-requires t c =
    let first : c.node.result ≡ slice_index_or c.args.value.now 0 Null = grind (arith, common_steps, slice_index_or, nonempty) in
    let xs = c.args.value.now in
    let long = ap length (nonempty c.args.texts.now c.requires.0 xs c.requires.1) in
    let inside = begun_by c.args.texts.now c.requires.0 xs (Array c.in-Array.extent) c.requires.1 (sym first ∙ c.in-Array.is) in
    (omega (arith, long), (inside.0, inside.1.2))

pub copy_value-slice_bounds-copy_members-count : goal.copy_value-slice_bounds-copy_members-count
copy_value-slice_bounds-copy_members-count t c = grind (arith, common_steps, nonempty)

pub copy_value-slice_bounds-copy_members-start : goal.copy_value-slice_bounds-copy_members-start
copy_value-slice_bounds-copy_members-start t c = grind (arith, common_steps, nonempty)

pub copy_value-copy_members-requires : goal.copy_value-copy_members-requires
copy_value-copy_members-requires t c =
    let first : c.node.result ≡ slice_index_or c.args.value.now 0 Null = grind (arith, common_steps, slice_index_or, nonempty) in
    let xs = c.args.value.now in
    let long = ap length (nonempty c.args.texts.now c.requires.0 xs c.requires.1) in
    let inside = begun_by c.args.texts.now c.requires.0 xs (Object c.in-Object.extent) c.requires.1 (sym first ∙ c.in-Object.is) in
    (omega (arith, long), (inside.0, inside.1.1))

pub copy_value-returns-in-Array : goal.copy_value-returns-in-Array
copy_value-returns-in-Array t c =
    let first : c.node.result ≡ slice_index_or c.args.value.now 0 Null = grind (arith, common_steps, slice_index_or, nonempty) in
    on_ok_weaker c.copy_items.result (λ copy. λ d h.
    let inside = begun_by c.args.texts.now d c.args.value.now (Array c.in-Array.extent) h (sym first ∙ c.in-Array.is) in
    subst (λ e. Copied c.args.texts.now (settled e) c.args.out.now.items c.copy_items.new.out.items) (sym inside.1.0) (copy inside.0 inside.1.2 inside.1.1))
    c.copy_items.ensures

pub copy_value-returns-in-Object : goal.copy_value-returns-in-Object
copy_value-returns-in-Object t c =
    let first : c.node.result ≡ slice_index_or c.args.value.now 0 Null = grind (arith, common_steps, slice_index_or, nonempty) in
    on_ok_weaker c.copy_members.result (λ copy. λ d h.
    let inside = begun_by c.args.texts.now d c.args.value.now (Object c.in-Object.extent) h (sym first ∙ c.in-Object.is) in
    subst (λ e. Copied c.args.texts.now (settled e) c.args.out.now.items c.copy_members.new.out.items) (sym inside.1.0) (copy inside.0 inside.1.1))
    c.copy_members.ensures

pub copy_value-returns-in_ok-push-in_default : goal.copy_value-returns-in_ok-push-in_default
copy_value-returns-in_ok-push-in_default t c = λ d h.
    let first : c.node.result ≡ slice_index_or c.args.value.now 0 Null = grind (arith, common_steps, slice_index_or, nonempty) in
    let texts = c.args.texts.now in
    let xs = c.args.value.now in
    let x = slice_index_or xs 0 Null in
    let one = scalar_begun texts x d (tail_of xs) (begun_by texts d xs x h refl) (λ e is. c.in_default.not-Array e (first ∙ is)) (λ e is. c.in_default.not-Object e (first ∙ is)) in
    let is : xs ≡ x ∷ [] = nonempty texts d xs h ∙ ap (λ ys. x ∷ ys) one.0 in
    (x ∷ [], (search rules, subst (λ e. Stands texts e (x ∷ [])) (sym one.1) (subst (Stands texts d) is h)))

-- ---- items

pub copy_items-items-init : goal.copy_items-items-init
copy_items-items-init t c = grind (arith, common_steps, ItemsCopied, copied_none)

pub copy_items-split_at-requires : goal.copy_items-split_at-requires
copy_items-split_at-requires t c =
    let first : c.node.result ≡ slice_index_or c.items.rest.now 0 Null = grind (arith, common_steps, slice_index_or) in
    let l = c.items in
    let g = l.invariant.0 c.requires.0 c.requires.1 in
    (first_item c.args.texts.now l.rest.now c.size.result g.left (grind arith) g.left_stand (c.size.ensures.value ∙ ap size_of first)).within

pub copy_items-copy_value-requires : goal.copy_items-copy_value-requires
copy_items-copy_value-requires t c =
    let first : c.node.result ≡ slice_index_or c.items.rest.now 0 Null = grind (arith, common_steps, slice_index_or) in
    let l = c.items in
    let g = l.invariant.0 c.requires.0 c.requires.1 in
    let f = first_item c.args.texts.now l.rest.now c.size.result g.left (grind arith) g.left_stand (c.size.ensures.value ∙ ap size_of first) in
    let front = ap length c.split_at.ensures.front in
    let size = f.size in
    grind (arith, common_steps)

pub copy_items-items-smaller : goal.copy_items-items-smaller
copy_items-items-smaller t c =
    let first : c.node.result ≡ slice_index_or c.items.rest.now 0 Null = grind (arith, common_steps, slice_index_or) in
    let l = c.items in
    let g = l.invariant.0 c.requires.0 c.requires.1 in
    let f = first_item c.args.texts.now l.rest.now c.size.result g.left (grind arith) g.left_stand (c.size.ensures.value ∙ ap size_of first) in
    let back = ap length c.split_at.ensures.back ∙ length-drop c.size.result l.rest.now in
    grind (arith, common_steps)

pub copy_items-items-preserved : goal.copy_items-items-preserved
copy_items-items-preserved t c =
    let first : c.node.result ≡ slice_index_or c.items.rest.now 0 Null = grind (arith, common_steps, slice_index_or) in
    let l = c.items in
    let texts = c.args.texts.now in
    let old = c.args.out.now.items in
    let back = ap length c.split_at.ensures.back ∙ length-drop c.size.result l.rest.now in
    let shorter = l.invariant.2 in (
      (λ ds h.
          let g = l.invariant.0 ds h in
          let f = first_item texts l.rest.now c.size.result g.left (grind arith) g.left_stand (c.size.ensures.value ∙ ap size_of first) in
          subst (λ rest. ItemsCopied texts ds rest old c.copy_value.new.out.items) (sym c.split_at.ensures.back)
          (copied_more texts ds old l.rest.now l.out.items c.copy_value.new.out.items c.size.result g f
          (c.in_ok-copy_value.ensures f.value (subst (Stands texts f.value) (sym c.split_at.ensures.front) f.stands)))),
      l.invariant.1,
      omega (arith, back, shorter),
    )

pub copy_items-extent_from-requires : goal.copy_items-extent_from-requires
copy_items-extent_from-requires t c = grind (arith, common_steps, place_within)

pub copy_items-index_mut-requires : goal.copy_items-index_mut-requires
copy_items-index_mut-requires t c = grind (arith, common_steps, place_within)

pub copy_items-returns : goal.copy_items-returns
copy_items-returns t c = λ ds h counted.
    let l = c.items in
    let len = l.out.ok.0 in
    let none : length l.rest.now ≡ 0 = grind arith in
    copied_all c.args.texts.now ds c.args.out.now.items l.rest.now l.out.items _ c.args.count
    c.len-at.result l.out.len c.in_ok-extent.extent (l.invariant.0 ds h) none counted l.invariant.1 (omega (arith, len)) c.in_ok-extent.ensures.ok
    (ap (set l.out.items c.len-at.result) c.in_ok-out.ensures.ok)

-- ---- members

pub copy_members-members-init : goal.copy_members-members-init
copy_members-members-init t c = grind (arith, common_steps, MembersCopied, named_none)

pub copy_members-members-preserved : goal.copy_members-members-preserved
copy_members-members-preserved t c = grind (arith, common_steps, lasts_from, MembersCopied)

pub copy_members-bounds-member-0 : goal.copy_members-bounds-member-0
copy_members-bounds-member-0 t c = grind (arith, common_steps, slice_index_or, spot, lasts_from, first_kept)

pub copy_members-slice_bounds-copy_value-count : goal.copy_members-slice_bounds-copy_value-count
copy_members-slice_bounds-copy_value-count t c = grind (arith, common_steps, lasts_from, first_kept)

pub copy_members-slice_bounds-copy_value-start : goal.copy_members-slice_bounds-copy_value-start
copy_members-slice_bounds-copy_value-start t c = grind (arith, common_steps, slice_index_or, spot, lasts_from, first_kept)

pub copy_members-copy_value-requires : goal.copy_members-copy_value-requires
copy_members-copy_value-requires t c = grind (arith, common_steps, slice_index_or, spot, lasts_from, first_kept, tail_is)

pub copy_members-members-preserved-then-not-is_replaced : goal.copy_members-members-preserved-then-not-is_replaced
copy_members-members-preserved-then-not-is_replaced t c =
    let l = c.members in
    let texts = c.args.texts.now in
    let n = length c.args.members.now in
    let p = slice_index_or c.as_slice-sorted.result.now l.at (spot []) in
    let rest = lasts (drop (l.at + 1) c.as_slice-sorted.result.now) in
    let old = c.args.out.now.items in
    let mid = c.push-then-not-is_replaced.new.self.items in
    let item : c.index-sorted-at.result ≡ p = grind (arith, common_steps, slice_index_or) in
    let sorted = c.as_slice-sorted.result.now in
    let later = take (length sorted - (l.at + 1)) (drop (l.at + 1) sorted) in
    let now = lasts_from sorted l.at false c.members-test.true
    (sym c.if-not-is_replaced.true ∙ c.is_replaced.ensures ∙ ap (λ k. is_replaced k later) (c.text.ensures ∙ ap (λ x. x.name) item)) in
    let counted : l.kept + 1 ≡ c.in_ok-kept.kept = grind arith in
    let pushed : mid ≡ l.out.items ++ slice_index_or p.nodes.now 0 c.index-member-0.result ∷ [] =
    c.in_ok-push-2.ensures.items ∙ ap (λ x. l.out.items ++ slice_index_or x.nodes.now 0 c.index-member-0.result ∷ []) item in (
      (λ ms h.
          let f = first_kept c.args.texts.now (length c.args.members.now) now (l.invariant.0 ms h) in
          let tail = tail_is (Text f.place) c.index-sorted-at.result.nodes.now f.ys (ap (λ x. x.nodes.now) item ∙ f.nodes_are) in
          subst (λ k. MembersCopied texts n ms rest old c.copy_value.new.out.items k) counted (named_more texts n ms old (p.name, p) rest l.out.items mid c.copy_value.new.out.items l.kept
          (subst (λ es. MembersCopied texts n ms es old l.out.items l.kept) now (l.invariant.0 ms h)) f
          (pushed ∙ ap (λ ns. l.out.items ++ slice_index_or ns 0 c.index-member-0.result ∷ []) f.nodes_are)
          (c.in_ok-copy_value.ensures f.value (subst (Stands texts f.value) (sym tail) f.stands)))),
      l.invariant.1,
    )

pub copy_members-extent_from-requires : goal.copy_members-extent_from-requires
copy_members-extent_from-requires t c = grind (arith, common_steps, place_within)

pub copy_members-index_mut-requires : goal.copy_members-index_mut-requires
copy_members-index_mut-requires t c = grind (arith, common_steps, place_within)

pub copy_members-returns : goal.copy_members-returns
copy_members-returns t c = λ ms h.
    let l = c.members in
    let len = l.out.ok.0 in
    let over = c.members-test.false in
    let none = at_drop_all lasts c.as_slice-sorted.result.now l.at (omega (arith, over)) in
    named_all c.args.texts.now (length c.args.members.now) ms c.args.out.now.items l.out.items
    _ l.kept c.len-start.result l.out.len c.in_ok-extent.extent
    (subst (λ es. MembersCopied c.args.texts.now (length c.args.members.now) ms es c.args.out.now.items l.out.items l.kept) none (l.invariant.0 ms h))
    l.invariant.1 (omega (arith, len)) c.in_ok-extent.ensures.ok (ap (set l.out.items c.len-start.result) c.in_ok-out.ensures.ok)
