use Rattle.cadf_file.proofs.Common.{string_bytes, arith, strip_prefix_char}
use Rattle.cadf_file.proofs.CanonicalTexts.{ended}
use Rattle.cadf_file.proofs.canonical_text.read_to_mark.Goals as goal

pub returns-clause-same : goal.returns-clause-same
returns-clause-same c =
    ended c.args.spelled.now (string_bytes c.pieces.buffer) _ c.pieces.rest.now c.strip_prefix.result c.pieces.invariant.1
    (rw c.in_default.is at c.in_ok-more.ensures.same) (c.in_ok-more.ensures.none c.in_default.is)
    (strip_prefix_char 34 c.pieces.rest.now c.strip_prefix.result c.strip_prefix.ensures.cases (omega arith))
