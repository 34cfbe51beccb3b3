use Rattle.cadf_pathset.proofs.Common.{common_steps, ◌<◌, ◌∷◌, length, get_or, sym, ap, ◌∙◌, subst, string_bytes, arith, get_or_read, IsUtf8-string_bytes, IsCharBoundary}
use Rattle.cadf_pathset.proofs.Cuts.{texts_count, front_boundary, text_rises, text_boundary, text_there}
use Rattle.cadf_pathset.proofs.nodes.Pool.text.Goals as goal

pub start_of-start-requires : goal.start_of-start-requires
start_of-start-requires c = grind (arith, common_steps, texts_count, string_bytes)

pub split_at-requires : goal.split_at-requires
split_at-requires c =
    let s = c.self.inside in
    let v = ap length c.self.view_is in
    let n = texts_count 0 s.ends.items (string_bytes s.block) in
    let r = c.requires in
    subst (λ z. IsCharBoundary z c.start_of-start.result) (sym c.as_str.ensures.value)
    (front_boundary s.ends.items (string_bytes s.block) (IsUtf8-string_bytes s.block) c.self.invariant c.args.number c.start_of-start.result
    (c.start_of-start.ensures ∙ ap (λ z. get_or (0 ∷ z) c.args.number 0) c.as_slice.ensures.value) (omega (arith, v, n, r)))

pub index-requires : goal.index-requires
index-requires c = grind (arith, common_steps, texts_count, string_bytes)

pub overflow_sub-index : goal.overflow_sub-index
overflow_sub-index c =
    let s = c.self.inside in
    let v = ap length c.self.view_is in
    let n = texts_count 0 s.ends.items (string_bytes s.block) in
    let r = c.requires in
    let fits : c.args.number < length s.ends.items = omega (arith, v, n, r) in
    text_rises s.ends.items (string_bytes s.block) (IsUtf8-string_bytes s.block) c.self.invariant c.args.number c.start_of-start.result
    (c.start_of-start.ensures ∙ ap (λ z. get_or (0 ∷ z) c.args.number 0) c.as_slice.ensures.value) c.index.result.now
    (get_or_read s.ends.items c.args.number c.index.result.now fits c.index.ensures 0) fits

pub split_at-requires-2 : goal.split_at-requires-2
split_at-requires-2 c = grind (arith, common_steps, texts_count, string_bytes, text_boundary, IsUtf8-string_bytes, get_or_read)

pub returns : goal.returns
returns c = grind (arith, common_steps, texts_count, string_bytes, text_there, IsUtf8-string_bytes, get_or_read)
