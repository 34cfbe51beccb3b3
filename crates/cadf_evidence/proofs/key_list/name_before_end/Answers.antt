use Rattle.cadf_evidence.proofs.Common.{sym, subst, IsUtf8}
use Rattle.cadf_evidence.proofs.KeyLemmas.{name_none}
use Rattle.cadf_evidence.proofs.key_list.name_before_end.Goals as goal

pub returns-in_default-from_utf8 : goal.returns-in_default-from_utf8
returns-in_default-from_utf8 c =
    sym (name_none c.args.text.now (λ h. c.in_default-from_utf8.ensures.cases.0 (subst IsUtf8 (sym c.in-Some.ensures.cases.1) h)))
