use Rattle.cadf_json.proofs.Common.{common_steps, ◌≡◌, slice_index_or, sym, subst, arith, ap, ◌∙◌, Null, decode, Stands, size_of, IsValue, AreItemsLeft}
use Rattle.cadf_json.proofs.Walking.{next_item}
use Rattle.cadf_json.proofs.walk.ItemsIterator.next.Goals as goal

pub split_at-requires : goal.split_at-requires
split_at-requires c = grind (arith, common_steps, next_item)

pub invariant_of-result : goal.invariant_of-result
invariant_of-result c =
    let t = c.self.inside.texts.now in
    let first : c.node.result ≡ slice_index_or c.self.inside.nodes.now 0 Null = grind (arith, common_steps, slice_index_or) in
    let n = next_item t c.self.inside.nodes.now c.size.result (grind arith) c.self.invariant (c.size.ensures.value ∙ ap size_of first) in
    subst (λ xs. Stands t (decode t xs) xs × IsValue (decode t xs)) (sym c.split_at.ensures.front) n.value

pub invariant_of-self : goal.invariant_of-self
invariant_of-self c =
    let t = c.self.inside.texts.now in
    let first : c.node.result ≡ slice_index_or c.self.inside.nodes.now 0 Null = grind (arith, common_steps, slice_index_or) in
    let n = next_item t c.self.inside.nodes.now c.size.result (grind arith) c.self.invariant (c.size.ensures.value ∙ ap size_of first) in
    subst (AreItemsLeft t) (sym c.split_at.ensures.back) n.left

pub returns-clause-steps : goal.returns-clause-steps
returns-clause-steps c =
    let t = c.self.inside.texts.now in
    let first : c.node.result ≡ slice_index_or c.self.inside.nodes.now 0 Null = grind (arith, common_steps, slice_index_or) in
    let n = next_item t c.self.inside.nodes.now c.size.result (grind arith) c.self.invariant (c.size.ensures.value ∙ ap size_of first) in
    grind (arith, common_steps)

pub returns-clause-goes : goal.returns-clause-goes
returns-clause-goes c = rw (returns-clause-steps c).0 (omega arith)
