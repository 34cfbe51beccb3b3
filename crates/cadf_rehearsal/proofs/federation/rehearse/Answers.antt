use Rattle.cadf_rehearsal.proofs.Common.{rules, common_steps, ◌≤◌, length, ap, sym, ◌∙◌, reverse, refl, arith, err_from_is_err_and, take_all, atom_digest, after, world_of}
use Rattle.cadf_rehearsal.proofs.Played.{after_more, after_refused}
use Rattle.cadf_rehearsal.proofs.Seen.{left_is}
use Rattle.cadf_rehearsal.proofs.federation.rehearse.Goals as goal

pub take-requires : goal.take-requires
take-requires c = (c.args.log.now, c.loop-i.invariant.one_log)

pub loop-i-preserved : goal.loop-i-preserved
loop-i-preserved c = grind (arith, common_steps, after_more)

pub returns-in_err-take-clause-err : goal.returns-in_err-take-clause-err
returns-in_err-take-clause-err c = search (rules, after_refused, err_from_is_err_and)

pub returns-clause-ok : goal.returns-clause-ok
returns-clause-ok c =
    let f = c.loop-i.federation in
    let kept = c.loop-i.invariant in
    let all : length c.args.turns.now ≤ c.loop-i.i = omega arith in (
      world_of f,
      ap (λ ts. after atom_digest c.args.log.now c.args.sites (reverse ts)) (sym (take_all c.loop-i.i c.args.turns.now all)) ∙ kept.so_far,
      left_is c.args.log.now f.sites.items (world_of f) c.args.sites kept.count kept.one_log.sites (λ j. refl),
    )
