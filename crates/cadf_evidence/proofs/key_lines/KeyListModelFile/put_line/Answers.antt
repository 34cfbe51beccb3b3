use Rattle.cadf_evidence.proofs.Common.{[], subst, on_ok_then, rising_none, IsPutKey}
use Rattle.cadf_evidence.proofs.KeyFiles.{line_put}
use Rattle.cadf_evidence.proofs.key_lines.KeyListModelFile.put_line.Goals as goal

pub returns-in_ok-put_key-in-None-clause-ok : goal.returns-in_ok-put_key-in-None-clause-ok
returns-in_ok-put_key-in-None-clause-ok c =
    let keys = c.put_key.new.keys.items in
    rw c.in-None.is (line_put [] keys c.args.line.now (tt, rising_none)
    (subst (λ qs. IsPutKey qs c.args.line.now keys) c.new-keys.ensures.items c.in_ok-put_key-in-None.ensures.ok))

pub returns-in-Some-clause-ok : goal.returns-in-Some-clause-ok
returns-in-Some-clause-ok c =
    rw c.in-Some.is (on_ok_then c.put_key-in-Some.result
    (line_put c.in-Some.keys.items c.put_key-in-Some.new.keys.items c.args.line.now (rw c.in-Some.is at c.requires)) c.put_key-in-Some.ensures.ok)
