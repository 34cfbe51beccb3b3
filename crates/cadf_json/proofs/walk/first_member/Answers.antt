use Rattle.cadf_json.proofs.Common.{common_steps, ◌≡◌, ◌+◌, ◌-◌, slice_index_or, take, drop, ap, ◌∙◌, arith, refl, length-append, Null, size_of}
use Rattle.cadf_json.proofs.Firsts.{opens, first_of}
use Rattle.cadf_json.proofs.walk.first_member.Goals as goal

pub bounds-nodes-1 : goal.bounds-nodes-1
bounds-nodes-1 c =
    let r = c.requires in
    let o = opens c.args.texts.now c.args.nodes.now r.0 r.1.0 r.1.1.0 r.1.1.1 in
    grind (arith, common_steps)

pub overflow_add-end : goal.overflow_add-end
overflow_add-end c = let small = c.size-size.ensures.small in omega (arith, small)

pub split_at-requires : goal.split_at-requires
split_at-requires c =
    let r = c.requires in
    let o = opens c.args.texts.now c.args.nodes.now r.0 r.1.0 r.1.1.0 r.1.1.1 in
    grind (arith, common_steps, slice_index_or, length-append)

pub returns : goal.returns
returns c = λ k d ms h.
    let t = c.args.texts.now in
    let nodes = c.args.nodes.now in
    let o = opens t nodes k d ms h in
    let first : c.node.result ≡ slice_index_or nodes 0 Null = grind (arith, common_steps, slice_index_or) in
    let second : c.node-2.result ≡ slice_index_or nodes 1 Null = grind (arith, common_steps, slice_index_or) in
    let place = c.place_of-place.ensures o.place (first ∙ ap (λ ns. slice_index_or ns 0 Null) o.is) in
    let sized = c.size-size.ensures.value ∙ ap size_of second ∙ ap (λ ns. size_of (slice_index_or ns 1 Null)) o.is in
    first_of t nodes k d ms _ _ o (ap (λ n. n + 1) sized) (ap (λ p. take (p.end - p.start) (drop p.start t)) place)
    c.split_at.ensures.front refl c.split_at.ensures.back
