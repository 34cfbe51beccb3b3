use Rattle.cadf_json.proofs.Common.{common_steps, ◌≡◌, [], ◌∷◌, Some, true, option_map, inr, refl, sym, ap, ◌∙◌, append-nil, rules, arith, is_float, number_of, num_of}
use Rattle.cadf_json.proofs.Numbers.{whole_number_of}
use Rattle.cadf_json.proofs.push.push_number.Goals as goal

pub returns-in_ok-push_whole-in-Some-Negative-clause-ok : goal.returns-in_ok-push_whole-in-Some-Negative-clause-ok
returns-in_ok-push_whole-in-Some-Negative-clause-ok c = grind (arith, common_steps, option_map, whole_number_of)

pub returns-in_ok-push-in-Some-Float-clause-ok : goal.returns-in_ok-push-in-Some-Float-clause-ok
returns-in_ok-push-in-Some-Float-clause-ok c =
    let n = num_of c.in-Some-Float.field-0 in
    let read : number_of c.args.text.now ≡ Some n = sym c.parse.ensures ∙ ap (option_map num_of) c.in-Some-Float.is in
    let odd : is_float n ≡ true = rw c.in-Some-Float.field-0-is refl in
    (n, (read, record { xs = _ ∷ []; more = []; nodes = search rules; texts = sym (append-nil _); stands = inr (refl, odd) }))
