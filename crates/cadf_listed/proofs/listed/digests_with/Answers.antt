use Rattle.cadf_listed.proofs.Common.{◌≡◌, sym, subst, arith, common_steps, AreRisingDigests, digests_with}
use Rattle.cadf_listed.proofs.MarkedNames.{digests_rise}
use Rattle.cadf_listed.proofs.listed.digests_with.Goals as goal

pub returns-clause-set : goal.returns-clause-set
returns-clause-set c =
    let whole : c.loop-name.digests.items ≡ digests_with c.args.mark c.args.names.now = grind (arith, common_steps) in
    subst AreRisingDigests (sym whole) (digests_rise c.args.mark c.args.names.now c.requires)
