use Rattle.cadf_words.proofs.Common.{map, app_of}
use Rattle.cadf_words.proofs.Found.{answered}
use Rattle.cadf_words.proofs.request.matches_of.Goals as goal

pub returns : goal.returns
returns c = answered (app_of c.in_ok-command.field-0) (map (λ s. s.bytes.items) c.args.words.now) c.try_get_matches_from.result
    c.in_ok-command.ensures c.try_get_matches_from.ensures.matches c.try_get_matches_from.ensures.kinds
