use Rattle.cadf_siteseal.proofs.Common.{sym, subst, IfErr, on_ok_then, CauseIs, IsSealTold}
use Rattle.cadf_siteseal.proofs.SealedItems.{seal_kind}
use Rattle.cadf_siteseal.proofs.SiteLemmas.{cause_is, item_put}
use Rattle.cadf_siteseal.proofs.seal_lines.SiteSealModelFile.put_line.Goals as goal

pub returns-in-Some-clause-ok : goal.returns-in-Some-clause-ok
returns-in-Some-clause-ok c =
    rw c.in-Some.is (on_ok_then c.put_item.result
    (item_put seal_kind c.in-Some.told.unit c.put_item.new.told.unit c.in-Some.told.items.items c.put_item.new.told.items.items c.in-Some.told.state c.put_item.new.told.state c.args.line.now
    (subst IsSealTold c.in-Some.is c.requires)) c.put_item.ensures.ok)

pub returns-in-Some-clause-err : goal.returns-in-Some-clause-err
returns-in-Some-clause-err c =
    rw c.in-Some.is (subst (λ o. IfErr c.put_item.result (λ e. CauseIs e o))
    (sym (cause_is seal_kind c.in-Some.told.unit c.in-Some.told.items.items c.in-Some.told.state c.args.line.now (subst IsSealTold c.in-Some.is c.requires))) c.put_item.ensures.err)
