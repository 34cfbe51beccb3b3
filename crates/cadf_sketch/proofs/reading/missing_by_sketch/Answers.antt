use Rattle.cadf_sketch.proofs.Common.{◌∙◌, ap, sym, inventory_is}
use Rattle.cadf_sketch.proofs.reading.missing_by_sketch.Goals as goal

pub returns-in-Ok-clause-ok : goal.returns-in-Ok-clause-ok
returns-in-Ok-clause-ok c = record {
  log = sym (ap (λ n. n.log) c.in_ok-own.ensures ∙ c.in_ok-log.ensures ∙ c.log.ensures) ∙ c.in_ok-theirs.ensures.log.0;
  theirs = c.in_ok-theirs.theirs;
  same_log = c.in_ok-theirs.ensures.log.1;
  inventory = inventory_is c.in_ok-theirs.theirs c.type_invariant.ensures.log c.type_invariant.ensures.digests;
  digest = c.in_ok-theirs.ensures.digest;
  missing = c.in-Ok.ensures.ok.1;
}
