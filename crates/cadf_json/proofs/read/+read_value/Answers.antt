use Rattle.cadf_json.proofs.Common.{common_steps, ◌≡◌, ◌+◌, ◌<◌, [], ◌∷◌, length, set, ◌&&◌, Some, None, Err, option_map, refl, sym, ap, ◌∙◌, subst, arith, rules, append-nil, after_end_array, read_key, value, token_of, value_is, value-begin_array, value-begin_object, read_key-shorter, null, boolean, number, string, of_json, converted, NotJson, opens, and_parts, is_name_above, put_all, no_members}
use Rattle.cadf_json.proofs.Turns.{converted-array, converted-object}
use Rattle.cadf_json.proofs.Settling.{scalar}
use Rattle.cadf_json.proofs.Loops.{too_deep, ItemsRead, MembersRead, items_start, one_more_item, all_items, no_items_here}
use Rattle.cadf_json.proofs.Loops.{members_start, one_more_member, all_members, no_key_here, no_member_here}
use Rattle.cadf_json.proofs.read.+read_value.Goals as goal

-- ---- a value

pub read_value-returns-in_default-clause-not_json : goal.read_value-returns-in_default-clause-not_json
read_value-returns-in_default-clause-not_json t c h = grind (arith, common_steps, value_is)

pub read_value-returns-in_default-token-3-clause-not_json : goal.read_value-returns-in_default-token-3-clause-not_json
read_value-returns-in_default-token-3-clause-not_json t c h = grind (arith, common_steps, value_is, too_deep, opens)

pub read_value-returns-in_err-push_number-in-Number-clause-not_json : goal.read_value-returns-in_err-push_number-in-Number-clause-not_json
read_value-returns-in_err-push_number-in-Number-clause-not_json t c h = grind (arith, common_steps, value_is, option_map)

pub read_value-returns-in_default-token-clause-not_json : goal.read_value-returns-in_default-token-clause-not_json
read_value-returns-in_default-token-clause-not_json t c h = grind (arith, common_steps, value_is, too_deep, opens)

pub read_value-returns-in_default-token-2-clause-not_json : goal.read_value-returns-in_default-token-2-clause-not_json
read_value-returns-in_default-token-2-clause-not_json t c h = grind (arith, common_steps, value_is, too_deep, opens)

pub read_value-returns-in_err-read_items-in-BeginArray-clause-not_json : goal.read_value-returns-in_err-read_items-in-BeginArray-clause-not_json
read_value-returns-in_err-read_items-in-BeginArray-clause-not_json t c h = grind (arith, common_steps, value-begin_array, converted-array)

pub read_value-returns-in_err-read_members-in-BeginObject-clause-not_json : goal.read_value-returns-in_err-read_members-in-BeginObject-clause-not_json
read_value-returns-in_err-read_members-in-BeginObject-clause-not_json t c h = grind (arith, common_steps, value-begin_object, converted-object)

pub read_value-returns-in_ok-push_string-in-String-clause-ok : goal.read_value-returns-in_ok-push_string-in-String-clause-ok
read_value-returns-in_ok-push_string-in-String-clause-ok t c =
    let rest = c.next.new.self in
    let is = c.in-Some.ensures.value ∙ ap (λ k. token_of k ∷ rest) c.in-String.is in
    (string c.in-String.text.now, (ap (converted of_json) (ap (value c.args.depth) is ∙ value_is c.args.depth _), scalar (string _) refl c.in_ok-push_string-in-String.ensures))

pub read_value-returns-in_ok-push_number-in-Number-clause-ok : goal.read_value-returns-in_ok-push_number-in-Number-clause-ok
read_value-returns-in_ok-push_number-in-Number-clause-ok t c =
    let rest = c.next.new.self in
    let is = c.in-Some.ensures.value ∙ ap (λ k. token_of k ∷ rest) c.in-Number.is in
    let read = c.in_ok-push_number-in-Number.ensures.ok in (
      number read.0,
      (
        ap (converted of_json) (ap (value c.args.depth) is ∙ value_is c.args.depth _) ∙ ap (λ n. option_map (λ d. (d, rest)) (option_map number n)) read.1.0,
        scalar (number _) refl read.1.1,
      ),
    )

pub read_value-returns-in_ok-push-in-Bool-clause-ok : goal.read_value-returns-in_ok-push-in-Bool-clause-ok
read_value-returns-in_ok-push-in-Bool-clause-ok t c =
    let rest = c.next.new.self in
    let is = c.in-Some.ensures.value ∙ ap (λ k. token_of k ∷ rest) c.in-Bool.is in (
      boolean c.in-Bool.b,
      (
        ap (converted of_json) (ap (value c.args.depth) is ∙ value_is c.args.depth _),
        record { xs = _ ∷ []; more = []; nodes = search rules; texts = sym (append-nil _); stands = record { raw = _; settles = refl; same = λ r. refl; stands = refl } },
      ),
    )

pub read_value-returns-in_ok-push-in-Null-clause-ok : goal.read_value-returns-in_ok-push-in-Null-clause-ok
read_value-returns-in_ok-push-in-Null-clause-ok t c =
    let rest = c.next.new.self in
    let is = c.in-Some.ensures.value ∙ ap (λ k. token_of k ∷ rest) c.in-Null.is in (
      null,
      (
        ap (converted of_json) (ap (value c.args.depth) is ∙ value_is c.args.depth _),
        record { xs = _ ∷ []; more = []; nodes = search rules; texts = sym (append-nil _); stands = record { raw = _; settles = refl; same = λ r. refl; stands = refl } },
      ),
    )

pub read_value-returns-in-BeginArray-clause-ok : goal.read_value-returns-in-BeginArray-clause-ok
read_value-returns-in-BeginArray-clause-ok t c = grind (arith, common_steps, value-begin_array, converted-array)

pub read_value-returns-in-BeginObject-clause-ok : goal.read_value-returns-in-BeginObject-clause-ok
read_value-returns-in-BeginObject-clause-ok t c = grind (arith, common_steps, value-begin_object, converted-object)

-- ---- items

pub read_items-items-init : goal.read_items-items-init
read_items-items-init t c = grind (arith, common_steps, ItemsRead, items_start)

pub read_items-returns-in_err-rising-clause-not_json : goal.read_items-returns-in_err-rising-clause-not_json
read_items-returns-in_err-rising-clause-not_json t c h =
    let l = c.items in
    let going : (after_end_array l.reader ≡ None) × (c.take_end_array.new.self ≡ l.reader) = grind arith in
    let failed : Err c.in_err-rising.field-0.0 ≡ Err NotJson = search rules in
    no_items_here (value c.args.depth) c.args.reader.now c.args.flat.now.nodes.items c.args.flat.now.texts.items l.reader l.flat.nodes.items l.flat.texts.items l.count l.rising l.invariant.0
    going.0 (subst (λ ts. converted of_json (value c.args.depth ts) ≡ None) going.1 (c.in_err-rising.ensures.not_json failed))

pub read_items-items-preserved : goal.read_items-items-preserved
read_items-items-preserved t c =
    let l = c.items in
    let p = value c.args.depth in
    let going : (after_end_array l.reader ≡ None) × (c.take_end_array.new.self ≡ l.reader) = grind arith in
    let done = c.in_ok-rising.ensures in
    let r = c.read_value.new.reader in
    let less : length r < length l.reader = rw (← going.1) done.shorter in
    let counted : l.count + 1 ≡ c.in_ok-count.count = grind arith in
    let read = done.ok in (
      subst (λ n. ItemsRead p c.args.reader.now r c.args.flat.now.nodes.items c.read_value.new.flat.nodes.items c.args.flat.now.texts.items
          c.read_value.new.flat.texts.items n (c.in_ok-rising.field-0 && l.rising)) counted (one_more_item p c.args.reader.now c.args.flat.now.nodes.items c.args.flat.now.texts.items l.reader r l.flat.nodes.items c.read_value.new.flat.nodes.items l.flat.texts.items
          c.read_value.new.flat.texts.items l.count l.rising _ read.0 l.invariant.0 going.0 (rw (← going.1) read.1.0) read.1.1 less),
      l.invariant.1,
    )

pub read_items-returns-clause-ok : goal.read_items-returns-clause-ok
read_items-returns-clause-ok t c =
    let l = c.items in
    let len = l.flat.nodes.ok.0 in
    all_items (value c.args.depth) c.args.reader.now c.args.flat.now.nodes.items c.args.flat.now.texts.items l.reader c.take_end_array.new.self l.flat.nodes.items
    _ l.flat.texts.items l.count c.len-at.result l.flat.nodes.len l.rising c.in_ok-extent.extent l.invariant.0 (grind arith)
    l.invariant.1 (omega (arith, len)) c.in_ok-extent.ensures.ok (ap (set l.flat.nodes.items c.len-at.result) c.in_ok-flat.ensures.ok)

-- ---- members

pub read_members-members-init : goal.read_members-members-init
read_members-members-init t c = grind (arith, common_steps, MembersRead, members_start)

pub read_members-returns-in_default-clause-not_json : goal.read_members-returns-in_default-clause-not_json
read_members-returns-in_default-clause-not_json t c h =
    let l = c.members in
    let key : read_key l.reader ≡ None = grind arith in
    no_key_here (λ ms. ms) (value c.args.depth) c.args.reader.now c.args.flat.now.nodes.items c.args.flat.now.texts.items l.reader l.flat.nodes.items l.flat.texts.items l.count
    (option_map (λ x. x.now) l.last) l.rising l.invariant.0 key

pub read_members-returns-clause-ok : goal.read_members-returns-clause-ok
read_members-returns-clause-ok t c =
    let l = c.members in
    let s = c.next_key.new.self in
    let over : read_key l.reader ≡ Some (None, s) = c.in-Ok.ensures.value ∙ ap (λ o. Some (option_map (λ x. x.now) o, s)) c.in_default-key.is in
    let len = l.flat.nodes.ok.0 in (
      put_all l.invariant.0.got no_members,
      all_members (λ ms. ms) (value c.args.depth) c.args.reader.now c.args.flat.now.nodes.items c.args.flat.now.texts.items l.reader s l.flat.nodes.items
          _ l.flat.texts.items l.count c.len-at.result l.flat.nodes.len
          (option_map (λ x. x.now) l.last) l.rising c.in_ok-extent.extent l.invariant.0 over l.invariant.1 (omega (arith, len)) c.in_ok-extent.ensures.ok
          (ap (set l.flat.nodes.items c.len-at.result) c.in_ok-flat.ensures.ok),
    )

pub read_members-returns-in_err-rising-clause-not_json : goal.read_members-returns-in_err-rising-clause-not_json
read_members-returns-in_err-rising-clause-not_json t c h =
    let l = c.members in
    let k = c.in-Some.name in
    let s = c.next_key.new.self in
    let named : read_key l.reader ≡ Some (Some k.now, s) = c.in-Ok.ensures.value ∙ ap (λ o. Some (option_map (λ x. x.now) o, s)) c.in-Some.is in
    let failed : Err c.in_err-rising.field-0.0 ≡ Err NotJson = search rules in
    no_member_here (λ ms. ms) (value c.args.depth) c.args.reader.now c.args.flat.now.nodes.items c.args.flat.now.texts.items l.reader s l.flat.nodes.items l.flat.texts.items l.count
    (option_map (λ x. x.now) l.last) l.rising k.now l.invariant.0 named (c.in_err-rising.ensures.not_json failed)

pub read_members-members-preserved : goal.read_members-members-preserved
read_members-members-preserved t c =
    let l = c.members in
    let p = value c.args.depth in
    let start = c.args.reader.now in
    let old = c.args.flat.now.nodes.items in
    let u = c.args.flat.now.texts.items in
    let last = option_map (λ x. x.now) l.last in
    let k = c.in-Some.name in
    let s = c.next_key.new.self in
    let named : read_key l.reader ≡ Some (Some k.now, s) = c.in-Ok.ensures.value ∙ ap (λ o. Some (option_map (λ x. x.now) o, s)) c.in-Some.is in
    let done = c.in_ok-rising.ensures in
    let r = c.read_value.new.reader in
    let sooner = read_key-shorter l.reader (Some k.now) s named in
    let later = done.shorter in
    let less : length r < length l.reader = omega (arith, sooner, later) in
    let counted : l.count + 1 ≡ c.in_ok-count.count = grind arith in
    let read = done.ok in (
      subst (λ b. MembersRead (λ ms. ms) p start r old c.read_value.new.flat.nodes.items u c.read_value.new.flat.texts.items c.in_ok-count.count (Some k.now) (c.in_ok-rising.field-0 && b))
          (sym c.rises_to-rising.ensures)
          (subst (λ n. MembersRead (λ ms. ms) p start r old c.read_value.new.flat.nodes.items u c.read_value.new.flat.texts.items n (Some k.now)
          (c.in_ok-rising.field-0 && (l.rising && is_name_above last k.now))) counted (one_more_member (λ ms. ms) p start old u l.reader s r l.flat.nodes.items c.push_string.new.flat.nodes.items c.read_value.new.flat.nodes.items l.flat.texts.items
          c.push_string.new.flat.texts.items c.read_value.new.flat.texts.items l.count last l.rising _ _ k.now read.0 read.0 l.invariant.0 named
          c.in_ok-push_string.ensures read.1.0 read.1.1 less refl (and_parts c.in_ok-rising.field-0 (l.rising && is_name_above last k.now)))),
      l.invariant.1,
    )
