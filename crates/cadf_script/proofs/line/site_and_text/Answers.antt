use Rattle.cadf_script.proofs.Cuts.{no_site_number}
use Rattle.cadf_script.proofs.line.site_and_text.Goals as goal

pub returns-in_err-number : goal.returns-in_err-number
returns-in_err-number c = rw c.from_residual-in_err-number.ensures (no_site_number c.args.words.now c.in_ok-site.site.now
    c.in_ok-site.text.now c.in_ok-site.ensures c.in_err-number.ensures)
