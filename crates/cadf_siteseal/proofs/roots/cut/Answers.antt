use Rattle.cadf_siteseal.proofs.Common.{sym}
use Rattle.cadf_siteseal.proofs.Words.{whole_word}
use Rattle.cadf_siteseal.proofs.roots.cut.Goals as goal

pub returns-in-None-clause-first : goal.returns-in-None-clause-first
returns-in-None-clause-first c = whole_word c.args.text.now (sym c.in-None.ensures.blank)
