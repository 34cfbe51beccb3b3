use Rattle.cadf_file.proofs.Common.{Some, None, arith, strip_prefix_char}
use Rattle.cadf_file.proofs.CanonicalTexts.{quoted_text}
use Rattle.cadf_file.proofs.canonical_text.read_quoted.Goals as goal

pub returns-in_default-clause-same : goal.returns-in_default-clause-same
returns-in_default-clause-same c t rest e = strip_prefix_char 34 c.args.line.now None c.in_default.ensures.cases (omega arith) _ e

pub returns-clause-same : goal.returns-clause-same
returns-clause-same c =
    quoted_text c.args.line.now c.in-Some.spelled.now _ _ (strip_prefix_char 34 c.args.line.now (Some c.in-Some.spelled) c.in-Some.ensures.cases (omega arith))
    c.read_to_mark.ensures.same
