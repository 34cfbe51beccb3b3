use Rattle.cadf.proofs.Common.{ap, subst, ◌∙◌, Keeps, writer_contents, std_inner}
use Rattle.cadf.proofs.output.CountedBufferOutput.end.Goals as goal

pub returns : goal.returns
returns g c = (
  c.over_limit-over_limit.ensures,
  (
    c.in_ok-flushed.field-0,
    c.in_ok-flushed.ensures.0,
    subst (λ buffer. Keeps (writer_contents g.W.Write.contents buffer) (writer_contents g.W.Write.contents c.in_ok-flushed.field-0))
        (c.into_inner-2.ensures ∙ ap std_inner c.into_inner.ensures) c.in_ok-flushed.ensures.1,
  ),
)
