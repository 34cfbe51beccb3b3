use Rattle.cadf_json.proofs.Common.{common_steps, ◌≡◌, ◌<◌, ◌+◌, ◌∷◌, [], length, set, true, false, ◌&&◌, Some, None, option_map, bytes_eq, refl, sym, ap, ◌∙◌, subst, arith, rules, append-nil, value, read_key, read_key-shorter, array, no_items, Grown, StandsAsRead, is_name_above}
use Rattle.cadf_json.proofs.Settling.{scalar}
use Rattle.cadf_json.proofs.ReadValues.{rest_utf8, key_utf8}
use Rattle.cadf_json.proofs.TakenApart.{Apart, apart_start, apart_other, apart_list, apart_over}
use Rattle.cadf_json.proofs.apart.pass_members.Goals as goal

pub members-init : goal.members-init
members-init g c = grind (arith, common_steps, Apart, apart_start)

pub returns : goal.returns
returns g c =
    let l = c.members in
    let s = c.next_key.new.self in
    let over : read_key l.reader ≡ Some (None, s) = c.in-Ok.ensures.value ∙ ap (λ o. Some (option_map (λ x. x.now) o, s)) c.in_default-key.is in
    let len = l.flat.nodes.ok.0 in
    apart_over g.T.ItemVisitor.took c.args.name.now (value c.args.depth) c.args.reader.now c.args.flat.now.nodes.items c.args.flat.now.texts.items l.taker l.reader s
    l.flat.nodes.items _ l.flat.texts.items l.count c.len-at.result l.flat.nodes.len
    (option_map (λ x. x.now) l.last) l.rising c.in_ok-extent.extent l.invariant.0 over l.invariant.1 (omega (arith, len)) c.in_ok-extent.ensures.ok
    (ap (set l.flat.nodes.items c.len-at.result) c.in_ok-flat.ensures.ok)

pub members-preserved : goal.members-preserved
members-preserved g c =
    let took = g.T.ItemVisitor.took in
    let name = c.args.name.now in
    let l = c.members in
    let p = value c.args.depth in
    let start = c.args.reader.now in
    let old = c.args.flat.now.nodes.items in
    let u = c.args.flat.now.texts.items in
    let last = option_map (λ x. x.now) l.last in
    let k = c.in-Some.key in
    let s = c.next_key.new.self in
    let named : read_key l.reader ≡ Some (Some k.now, s) = c.in-Ok.ensures.value ∙ ap (λ o. Some (option_map (λ x. x.now) o, s)) c.in-Some.is in
    let other : bytes_eq k.now name ≡ false = search rules in
    let done = c.in_ok-rising.ensures in
    let r = c.read_value.new.reader in
    let sooner = read_key-shorter l.reader (Some k.now) s named in
    let later = done.shorter in
    let less : length r < length l.reader = omega (arith, sooner, later) in
    let counted : l.count + 1 ≡ c.in_ok-count.count = grind arith in
    let read = done.ok in (
      subst (λ b. Apart took l.taker name p start r old c.read_value.new.flat.nodes.items u c.read_value.new.flat.texts.items c.in_ok-count.count (Some k.now)
          (c.in_ok-rising.field-0 && b)) (sym c.rises_to-rising.ensures)
          (subst (λ n. Apart took l.taker name p start r old c.read_value.new.flat.nodes.items u c.read_value.new.flat.texts.items n (Some k.now)
          (c.in_ok-rising.field-0 && (l.rising && is_name_above last k.now))) counted (apart_other took name p start old u l.taker l.reader s r l.flat.nodes.items c.push_string.new.flat.nodes.items c.read_value.new.flat.nodes.items l.flat.texts.items
          c.push_string.new.flat.texts.items c.read_value.new.flat.texts.items l.count last l.rising _ k.now read.0 l.invariant.0 other named c.in_ok-push_string.ensures
          read.1.0 read.1.1 less)),
      l.invariant.1,
      rest_utf8 c.args.depth s r read.0 (key_utf8 l.reader s (Some k.now) l.invariant.2 named) read.1.0,
    )

pub members-preserved-in_ok-pass_list : goal.members-preserved-in_ok-pass_list
members-preserved-in_ok-pass_list g c =
    let took = g.T.ItemVisitor.took in
    let name = c.args.name.now in
    let l = c.members in
    let p = value c.args.depth in
    let start = c.args.reader.now in
    let old = c.args.flat.now.nodes.items in
    let u = c.args.flat.now.texts.items in
    let last = option_map (λ x. x.now) l.last in
    let k = c.in-Some.key in
    let s = c.next_key.new.self in
    let named : read_key l.reader ≡ Some (Some k.now, s) = c.in-Ok.ensures.value ∙ ap (λ o. Some (option_map (λ x. x.now) o, s)) c.in-Some.is in
    let equal : bytes_eq k.now name ≡ true = search rules in
    let done = c.in_ok-pass_list.ensures in
    let r = c.pass_list.new.reader in
    let sooner = read_key-shorter l.reader (Some k.now) s named in
    let later = done.shorter in
    let less : length r < length l.reader = omega (arith, sooner, later) in
    let counted : l.count + 1 ≡ c.in_ok-count.count = grind arith in
    let list = done.ok in
    let w = c.push_string.new.flat.texts.items in
    let grown : Grown (λ u xs. StandsAsRead true u (array no_items) xs) c.push_string.new.flat.nodes.items c.pass_list.new.nodes.items w w =
    scalar (array no_items) refl (record { xs = _ ∷ []; more = []; nodes = list.1.2; texts = sym (append-nil w); stands = (_, ([], (refl, (refl, refl), refl))) }) in (
      subst (λ b. Apart took c.pass_list.new.taker name p start r old c.pass_list.new.nodes.items u w c.in_ok-count.count (Some k.now) b)
          (sym c.rises_to-rising.ensures)
          (subst (λ n. Apart took c.pass_list.new.taker name p start r old c.pass_list.new.nodes.items u w n (Some k.now)
          (l.rising && is_name_above last k.now)) counted (apart_list took name p start old u l.taker c.pass_list.new.taker l.reader s r l.flat.nodes.items c.push_string.new.flat.nodes.items
          c.pass_list.new.nodes.items l.flat.texts.items w w l.count last l.rising k.now list.0 l.invariant.0 equal named c.in_ok-push_string.ensures
          list.1.1 grown less list.1.0)),
      l.invariant.1,
      rest_utf8 c.args.depth s r (array list.0) (key_utf8 l.reader s (Some k.now) l.invariant.2 named) list.1.1,
    )

pub pass_list-requires-clause-utf8 : goal.pass_list-requires-clause-utf8
pass_list-requires-clause-utf8 g c = grind (arith, common_steps, option_map, key_utf8)
