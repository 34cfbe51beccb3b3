use Rattle.cadf_listed.proofs.Common.{[], sym, subst, IfErr, on_ok_then, CauseIs, rising_none, IsPut}
use Rattle.cadf_listed.proofs.ListLemmas.{cause_said, line_put}
use Rattle.cadf_listed.proofs.lines.ListedModelFile.put_line.Goals as goal

pub returns-in_ok-put_name-in-None-clause-ok : goal.returns-in_ok-put_name-in-None-clause-ok
returns-in_ok-put_name-in-None-clause-ok g c =
    let names = c.put_name.new.names.items in
    rw c.in-None.is (line_put [] names c.args.line.now (tt, rising_none)
    (subst (λ ns. IsPut ns c.args.line.now names) c.new-names.ensures.items c.in_ok-put_name-in-None.ensures.ok))

pub returns-in-Some-clause-ok : goal.returns-in-Some-clause-ok
returns-in-Some-clause-ok g c =
    rw c.in-Some.is (on_ok_then c.put_name-in-Some.result
    (line_put c.in-Some.names.items c.put_name-in-Some.new.names.items c.args.line.now (rw c.in-Some.is at c.requires)) c.put_name-in-Some.ensures.ok)

pub returns-in-Some-clause-err : goal.returns-in-Some-clause-err
returns-in-Some-clause-err g c =
    rw c.in-Some.is (subst (λ o. IfErr c.put_name-in-Some.result (λ e. CauseIs e o))
    (sym (cause_said c.in-Some.names.items c.args.line.now (rw c.in-Some.is at c.requires))) c.put_name-in-Some.ensures.err)
