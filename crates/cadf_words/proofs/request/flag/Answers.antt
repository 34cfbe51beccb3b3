use Rattle.cadf_words.proofs.Common.{◌∙◌, found_of, one_text-rows}
use Rattle.cadf_words.proofs.request.flag.Goals as goal

pub returns : goal.returns
returns c =
    let rows = one_text-rows (found_of c.args.matches.now) c.args.name.now in
    (λ e. c.get_flag.ensures.value (rows ∙ e), λ e. c.get_flag.ensures.other (rows ∙ e))
