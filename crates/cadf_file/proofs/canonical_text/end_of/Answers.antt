use Rattle.cadf_file.proofs.Common.{true≢false, sym, ◌∙◌, Decides-eqb, starts_is}
use Rattle.cadf_file.proofs.canonical_text.end_of.Goals as goal

pub returns-else-starts_with-clause-same : goal.returns-else-starts_with-clause-same
returns-else-starts_with-clause-same c more e =
    true≢false (sym ((starts_is Decides-eqb c.args.spelled.now c.args.escape.now c.starts_with.result c.starts_with.ensures.value).1 more e) ∙ c.if-starts_with.false)
