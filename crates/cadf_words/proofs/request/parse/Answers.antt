use Rattle.cadf_words.proofs.Common.{map, found_of, rows_of}
use Rattle.cadf_words.proofs.Found.{known, made, no_command, told_err}
use Rattle.cadf_words.proofs.request.parse.Goals as goal

pub returns-in_err-matches : goal.returns-in_err-matches
returns-in_err-matches c =
    told_err (map (λ s. s.bytes.items) c.args.words.now) c.in_err-matches.field-0.0 c.from_residual.result c.in_err-matches.ensures c.from_residual.ensures.1

pub request_of-requires : goal.request_of-requires
request_of-requires c = known (map (λ s. s.bytes.items) c.args.words.now) c.in_ok-matches.matches c.in_ok-matches.ensures c.in-Some.name.now
    (rows_of (found_of c.in-Some.matches.now)) c.in-Some.ensures.name c.in-Some.ensures.rows

pub unreachable-requires : goal.unreachable-requires
unreachable-requires c =
    no_command (map (λ s. s.bytes.items) c.args.words.now) c.in_ok-matches.matches c.in_ok-matches.ensures c.in-None.ensures.variant

pub returns : goal.returns
returns c = made (map (λ s. s.bytes.items) c.args.words.now) c.in_ok-matches.matches c.in_ok-matches.ensures c.in-Some.name.now
    (rows_of (found_of c.in-Some.matches.now)) c.in-Some.ensures.name c.in-Some.ensures.rows c.in_ok-request_of-in-Some.field-0
    c.in_ok-request_of-in-Some.ensures
