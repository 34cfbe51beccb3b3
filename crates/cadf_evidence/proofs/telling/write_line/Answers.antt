use Rattle.cadf_evidence.proofs.Common.{◌∙◌, subst, err_from_is_err_and, on_err_weaker, AppendsPrefix, front_after, front_more, digest_text}
use Rattle.cadf_evidence.proofs.telling.write_line.Goals as goal

pub returns-in_err-write_all-clause-front : goal.returns-in_err-write_all-clause-front
returns-in_err-write_all-clause-front g c =
    let p = err_from_is_err_and c.from_residual.result c.from_residual.ensures.1 in
    rw p.1 (front_more _ _ c.args.head.now (digest_text c.args.digest.now) c.in_err-write_all.ensures.front)

pub returns-clause-front : goal.returns-clause-front
returns-clause-front g c =
    on_err_weaker c.write_all-2.result
    (λ h. front_after _ _ _ c.args.head.now (digest_text c.args.digest.now) c.in_ok-write_all.ensures.bytes
    (subst (AppendsPrefix _ _) (c.as_slice.ensures ∙ c.digest_text.ensures) h)) c.write_all-2.ensures.front
