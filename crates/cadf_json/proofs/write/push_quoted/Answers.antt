use Rattle.cadf_json.proofs.Common.{common_steps, ◌≡◌, ◌++◌, [], ◌∷◌, ℕ, List, ap, ap₂, ◌∙◌, append-nil, append_assoc, length, sym, arith, prefix_len, is_plain, Token, print, print_from, quoted, escape}
use Rattle.cadf_json.proofs.PlainRuns.{spelled_whole}
use Rattle.cadf_json.proofs.write.push_quoted.Goals as goal

one_string : (s : List ℕ) → print (Token.string s ∷ []) ≡ quoted s
unfolding print_from
one_string s = append-nil (quoted s)

pub returns-then-plain_length-text : goal.returns-then-plain_length-text
returns-then-plain_length-text c = grind (arith, common_steps, one_string)

pub returns : goal.returns
returns c =
    let text = c.args.text.now in
    let bytes = c.as_bytes.ensures.value in
    let plain = spelled_whole text (omega (arith, ap (prefix_len is_plain) bytes, ap length bytes, c.plain_length.ensures.value)) in
    c.in_ok-push-2.ensures.items
    ∙ ap (λ xs. xs ++ 34 ∷ []) (c.in_ok-extend_from_slice-2.ensures.items ∙ ap₂ (λ xs ys. xs ++ ys) c.in_ok-push.ensures.items (c.as_bytes-2.ensures.value ∙ sym plain))
    ∙ append_assoc (c.args.out.now.items ++ 34 ∷ []) (escape text) (34 ∷ []) ∙ append_assoc c.args.out.now.items (34 ∷ []) (escape text ++ 34 ∷ [])
