-- A value that UTF-8 tokens begin with satisfies the invariant of values.
use Rattle.cadf_json.proofs.Common.{common_steps, ◌≡◌, ℕ, ◌≤◌, List, false, Option, Some, option_map, subst, arith, ⊤, Token, value, read_key, value-depth, Num, Data, number, array, object, item, Members, no_members, member, put, depth, items_depth, members_depth, number_of, of_json, of_items, of_members, converted, has_float, HaveUtf8, IsValue}
use Rattle.json.specs.Json as json
use Rattle.json.specs.Tree as tree
use Rattle.cadf_json.proofs.Formed.{IsFormed, formed_json}
use Rattle.cadf_json.proofs.Given.{Given, Given-map, Given-and_then}
use Rattle.cadf_json.proofs.Orders.{put_step}
use Rattle.cadf_json.proofs.ReadTexts.{JsonHasUtf8, keys, value_reads}
use Rattle.cadf_json.proofs.Spelled.{whole}
use Rattle.cadf_json.proofs.Turns.{converted_some}

-- ---- how deep a value nests

low_put : (k : List ℕ) (d : Data) (ms : Members) (n : ℕ) → depth d ≤ n → members_depth ms ≤ n → members_depth (put k d ms) ≤ n
low_put k d no_members n p q = omega arith
low_put k d (member l e ms) n p q = grind (arith, common_steps, put_step, (low_put k d ms n p (omega arith)))

any_number : (o : Option Num) → Given (λ x. ⊤) o
any_number o = grind (arith, common_steps)

mutual
  low_json : (j : json.Json) (n : ℕ) → tree.depth j ≤ n → Given (λ d. depth d ≤ n) (of_json j)
  low_json json.null n h = omega arith
  low_json (json.boolean b) n h = omega arith
  low_json (json.number s) n h = Given-map (λ x. ⊤) (λ d. depth d ≤ n) number (λ x k. omega arith) (number_of s) (any_number (number_of s))
  low_json (json.string s) n h = omega arith
  low_json (json.array js) n h =
      Given-map (λ ds. items_depth ds ≤ tree.items_depth js) (λ d. depth d ≤ n) array (λ ds k. omega arith) (of_items js)
      (low_items js (tree.items_depth js) (omega arith))
  low_json (json.object ms) n h =
      Given-map (λ os. members_depth os ≤ tree.members_depth ms) (λ d. depth d ≤ n) object (λ os k. omega arith) (of_members ms no_members)
      (low_members ms no_members (tree.members_depth ms) (omega arith) (omega arith))

  low_items : (js : json.Items) (n : ℕ) → tree.items_depth js ≤ n → Given (λ ds. items_depth ds ≤ n) (of_items js)
  low_items json.no_items n h = omega arith
  low_items (json.item j js) n h =
      Given-and_then (λ d. depth d ≤ n) (λ ds. items_depth ds ≤ n) (λ d. option_map (item d) (of_items js))
      (λ d x. Given-map (λ ds. items_depth ds ≤ n) (λ ds. items_depth ds ≤ n) (item d) (λ ds y. omega arith) (of_items js) (low_items js n (omega arith)))
      (of_json j) (low_json j n (omega arith))

  low_members : (ms : json.Members) (found : Members) (n : ℕ) → tree.members_depth ms ≤ n → members_depth found ≤ n
      → Given (λ os. members_depth os ≤ n) (of_members ms found)
  low_members json.no_members found n h k = k
  low_members (json.member name j ms) found n h k =
      Given-and_then (λ d. depth d ≤ n) (λ os. members_depth os ≤ n) (λ d. of_members ms (put name d found))
      (λ d x. low_members ms (put name d found) n (omega arith) (low_put name d found n x k)) (of_json j) (low_json j n (omega arith))

-- ---- a value that is read

given_some : {A : Type 0} (P : A → Type 0) (o : Option A) (a : A) → Given P o → o ≡ Some a → P a
given_some P o a h e = subst (Given P) e h

pub value_read : (n : ℕ) (ts rest : List Token) (d : Data) → n ≤ 127 → HaveUtf8 ts → converted of_json (value n ts) ≡ Some (d, rest)
    → has_float d ≡ false → IsValue d
value_read n ts rest d low u e no_float =
    let some = converted_some of_json (value n ts) d rest e in
    let well = given_some (λ p. JsonHasUtf8 p.0 × HaveUtf8 p.1) (value n ts) (some.0, rest) (value_reads n ts u) some.1 in
    let formed = given_some IsFormed (of_json some.0) d (formed_json some.0 well.0) some.2 in
    let shallow = value-depth n ts rest some.0 some.1 in
    let deep = given_some (λ x. depth x ≤ n) (of_json some.0) d (low_json some.0 n shallow) some.2 in
    (whole d formed no_float, omega (arith, deep, low))

-- the tokens after it are UTF-8
pub rest_utf8 : (n : ℕ) (ts rest : List Token) (d : Data) → HaveUtf8 ts → converted of_json (value n ts) ≡ Some (d, rest) → HaveUtf8 rest
rest_utf8 n ts rest d u e = grind (arith, common_steps, converted_some, given_some, JsonHasUtf8, value_reads)

-- those after a key, too
pub key_utf8 : (ts rest : List Token) (k : Option (List ℕ)) → HaveUtf8 ts → read_key ts ≡ Some (k, rest) → HaveUtf8 rest
key_utf8 ts rest k u e = (given_some (λ p. _ × HaveUtf8 p.1) (read_key ts) (k, rest) (keys ts u) e).1
