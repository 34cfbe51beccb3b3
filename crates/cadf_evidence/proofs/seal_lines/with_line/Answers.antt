use Rattle.cadf_evidence.proofs.Common.{subst}
use Rattle.cadf_evidence.specs.SealLines.{AreTold}
use Rattle.cadf_evidence.proofs.SealLemmas.{count_put, facts_put, key_count_put, whole_put}
use Rattle.cadf_evidence.proofs.seal_lines.with_line.Goals as goal

pub returns-in_ok-number_after-in-Nothing : goal.returns-in_ok-number_after-in-Nothing
returns-in_ok-number_after-in-Nothing c = rw c.in-Nothing.is (count_put c.args.line.now _ c.in_ok-number_after-in-Nothing.ensures)

pub returns-in_ok-hash-in-Count : goal.returns-in_ok-hash-in-Count
returns-in_ok-hash-in-Count c =
    rw c.in-Count.is (facts_put c.args.line.now _ _ (subst AreTold c.in-Count.is c.requires) c.in_ok-hash-in-Count.ensures)

pub returns-in_ok-number_after-in-Facts : goal.returns-in_ok-number_after-in-Facts
returns-in_ok-number_after-in-Facts c =
    rw c.in-Facts.is (key_count_put c.args.line.now _ _ (subst AreTold c.in-Facts.is c.requires) c.in_ok-number_after-in-Facts.ensures)

pub returns-in_ok-hash-in-KeyCount : goal.returns-in_ok-hash-in-KeyCount
returns-in_ok-hash-in-KeyCount c =
    rw c.in-KeyCount.is (whole_put c.args.line.now _ _ _ (subst AreTold c.in-KeyCount.is c.requires) c.in_ok-hash-in-KeyCount.ensures)
