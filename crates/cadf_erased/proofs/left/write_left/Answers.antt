use Rattle.cadf_erased.proofs.Common.{◌∙◌, subst, Appends, Appends-trans, AppendsPrefix, text_of_lines, none_written, front_more, front_after, body_at, body_two, left_of}
use Rattle.cadf_join.proofs.Outcome as outcome
use Rattle.cadf_erased.proofs.LeftPlaces.{file_at, file_pieces}
use Rattle.cadf_erased.proofs.left.write_left.Goals as goal

pub returns-in_err-places-clause-front : goal.returns-in_err-places-clause-front
returns-in_err-places-clause-front g c = outcome.on_err c.from_residual.result (none_written _ _)

pub returns-in_err-hasher-clause-front : goal.returns-in_err-hasher-clause-front
returns-in_err-hasher-clause-front g c =
    let h = c.args.replica.now in
    let body = body_at c.as_slice.result.now h in
    let pieces = file_pieces body (body_two (left_of c.args.erased.now h))
    (file_at c.args.erased.now h c.as_slice.result.now c.type_invariant.ensures (c.as_slice.ensures.value ∙ c.in_ok-places.ensures)) in
    outcome.on_err c.from_residual-in_err-hasher.result
    (subst (AppendsPrefix _ _) pieces (front_more _ _ (text_of_lines body) _ c.in_err-hasher.ensures.front))

pub returns-clause-bytes : goal.returns-clause-bytes
returns-clause-bytes g c =
    let h = c.args.replica.now in
    let body = body_at c.as_slice.result.now h in
    let pieces = file_pieces body (body_two (left_of c.args.erased.now h))
    (file_at c.args.erased.now h c.as_slice.result.now c.type_invariant.ensures (c.as_slice.ensures.value ∙ c.in_ok-places.ensures)) in
    outcome.on_ok_then c.write_digest.result
    (λ last. subst (Appends _ _) pieces (Appends-trans _ _ _ (text_of_lines body) _ c.in_ok-hasher.ensures.bytes last))
    (c.write_digest.ensures.bytes (text_of_lines body) c.in_ok-hasher.ensures.hash)

pub returns-clause-front : goal.returns-clause-front
returns-clause-front g c =
    let h = c.args.replica.now in
    let body = body_at c.as_slice.result.now h in
    let pieces = file_pieces body (body_two (left_of c.args.erased.now h))
    (file_at c.args.erased.now h c.as_slice.result.now c.type_invariant.ensures (c.as_slice.ensures.value ∙ c.in_ok-places.ensures)) in
    outcome.on_err_then c.write_digest.result
    (λ last. subst (AppendsPrefix _ _) pieces (front_after _ _ _ (text_of_lines body) _ c.in_ok-hasher.ensures.bytes last))
    (c.write_digest.ensures.front (text_of_lines body) c.in_ok-hasher.ensures.hash)
