use Rattle.cadf_pathset.proofs.Common.{append-nil, drop_all, ◌++◌, ◌∙◌, ap, arith, sym, at_places}
use Rattle.cadf_pathset.proofs.Placed.{placed_next}
use Rattle.cadf_pathset.proofs.path_vec.numbers_at.Goals as goal

pub returns : goal.returns
returns c =
    let past = c.loop-place-test.false in
    sym (append-nil c.loop-place.found.items)
    ∙ ap (λ z. c.loop-place.found.items ++ at_places z c.args.numbers.now) (sym (drop_all c.loop-place.place-index c.args.places.now (omega (arith, past))))
    ∙ c.loop-place.invariant

pub loop-place-preserved : goal.loop-place-preserved
loop-place-preserved c =
    placed_next c.args.numbers.now c.loop-place.found.items c.push_at.new.found.items c.args.places.now c.loop-place.place-index c.loop-place-test.true
    c.in_ok-push_at.ensures ∙ c.loop-place.invariant
