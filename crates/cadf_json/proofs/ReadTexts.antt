-- The JSON that a UTF-8 text is has UTF-8 texts.
use Rattle.cadf_json.proofs.Common.{common_steps, ℕ, zero, suc, List, [], ◌∷◌, length, Option, Some, None, option_and_then, IsUtf8, arith, ⊤, Token, tokens, Json, Parse, parse_map, after_end_array, read_key, items_step, members_step, items, members, value_with, value, if_last, HaveUtf8}
use Rattle.json.specs.Json.{null, boolean, number, string, array, object, Items, no_items, item, Members, no_members, member}
use Rattle.cadf_json.proofs.Given.{Given}
use Rattle.cadf_json.proofs.TokenTexts.{tokens_utf8}

abbrev mutual
  pub JsonHasUtf8 : Json → Type 0
  JsonHasUtf8 null = ⊤
  JsonHasUtf8 (boolean b) = ⊤
  JsonHasUtf8 (number s) = ⊤
  JsonHasUtf8 (string s) = IsUtf8 s
  JsonHasUtf8 (array js) = ItemsHaveUtf8 js
  JsonHasUtf8 (object ms) = MembersHaveUtf8 ms

  pub ItemsHaveUtf8 : Items → Type 0
  ItemsHaveUtf8 no_items = ⊤
  ItemsHaveUtf8 (item j js) = JsonHasUtf8 j × ItemsHaveUtf8 js

  pub MembersHaveUtf8 : Members → Type 0
  MembersHaveUtf8 no_members = ⊤
  MembersHaveUtf8 (member k j ms) = IsUtf8 k × JsonHasUtf8 j × MembersHaveUtf8 ms

-- what is read has the property, and the tokens after it have UTF-8 texts
abbrev pub ReadWell : {A : Type 0} → (A → Type 0) → Option (A × List Token) → Type 0
ReadWell P o = Given (λ p. P p.0 × HaveUtf8 p.1) o

abbrev pub Reads : {A : Type 0} → (A → Type 0) → Parse A → Type 0
Reads P parse = (ts : List Token) → HaveUtf8 ts → ReadWell P (parse ts)

mapped : {A B : Type 0} (P : A → Type 0) (Q : B → Type 0) (f : A → B) → ((a : A) → P a → Q (f a)) → (o : Option (A × List Token)) → ReadWell P o
    → ReadWell Q (parse_map f o)
mapped P Q f step o h = grind (arith, common_steps)

and_more : {B : Type 0} (Q : B → Type 0) (f : Json → B → B) → ((j : Json) (b : B) → JsonHasUtf8 j → Q b → Q (f j b)) → (more : Parse B) → Reads Q more
    → (o : Option (Json × List Token)) → ReadWell JsonHasUtf8 o → ReadWell Q (option_and_then (λ p. parse_map (f p.0) (more p.1)) o)
and_more Q f step more reads o h = grind (arith, common_steps, mapped)

ends : (ts : List Token) → HaveUtf8 ts → Given HaveUtf8 (after_end_array ts)
ends ts h = grind (arith, common_steps)

pub keys : Reads (Given IsUtf8) read_key
keys [] h = tt
keys (Token.begin_object ∷ ts) h = tt
keys (Token.end_object ∷ ts) h = (tt, h.1)
keys (Token.begin_array ∷ ts) h = tt
keys (Token.end_array ∷ ts) h = tt
keys (Token.key s ∷ ts) h = (h.0, h.1)
keys (Token.string s ∷ ts) h = tt
keys (Token.number s ∷ ts) h = tt
keys (Token.boolean b ∷ ts) h = tt
keys (Token.null ∷ ts) h = tt
keys (Token.bad ∷ ts) h = tt

module _ (p : Parse Json) (reads : Reads JsonHasUtf8 p) where
  item_turn : (more : Parse Items) → Reads ItemsHaveUtf8 more → (ts : List Token) → HaveUtf8 ts → (o : Option (List Token)) → Given HaveUtf8 o
      → ReadWell ItemsHaveUtf8 (items_step p more ts o)
  item_turn more again ts h (Some r) k = (tt, k)
  item_turn more again ts h None k = and_more ItemsHaveUtf8 item (λ j js a b. (a, b)) more again (p ts) (reads ts h)

  items_read : (n : ℕ) → Reads ItemsHaveUtf8 (items p n)
  unfolding items
  items_read zero ts h = tt
  items_read (suc n) ts h = item_turn (items p n) (items_read n) ts h (after_end_array ts) (ends ts h)

  member_turn : (more : Parse Members) → Reads MembersHaveUtf8 more → (o : Option (Option (List ℕ) × List Token)) → ReadWell (Given IsUtf8) o
      → ReadWell MembersHaveUtf8 (option_and_then (λ q. members_step p more q.0 q.1) o)
  member_turn more again None h = tt
  member_turn more again (Some (None, s)) h = (tt, h.1)
  member_turn more again (Some (Some k, s)) h = and_more MembersHaveUtf8 (member k) (λ j ms a b. (h.0, a, b)) more again (p s) (reads s h.1)

  members_read : (n : ℕ) → Reads MembersHaveUtf8 (members p n)
  unfolding members
  members_read zero ts h = tt
  members_read (suc n) ts h = member_turn (members p n) (members_read n) (read_key ts) (keys ts h)

one_level : (a : Parse Items) (o : Parse Members) → Reads ItemsHaveUtf8 a → Reads MembersHaveUtf8 o → Reads JsonHasUtf8 (value_with a o)
one_level a o p q [] h = tt
one_level a o p q (Token.begin_object ∷ ts) h = mapped MembersHaveUtf8 JsonHasUtf8 object (λ ms k. k) (o ts) (q ts h.1)
one_level a o p q (Token.end_object ∷ ts) h = tt
one_level a o p q (Token.begin_array ∷ ts) h = mapped ItemsHaveUtf8 JsonHasUtf8 array (λ js k. k) (a ts) (p ts h.1)
one_level a o p q (Token.end_array ∷ ts) h = tt
one_level a o p q (Token.key s ∷ ts) h = tt
one_level a o p q (Token.string s ∷ ts) h = (h.0, h.1)
one_level a o p q (Token.number s ∷ ts) h = (tt, h.1)
one_level a o p q (Token.boolean b ∷ ts) h = (tt, h.1)
one_level a o p q (Token.null ∷ ts) h = (tt, h.1)
one_level a o p q (Token.bad ∷ ts) h = tt

pub value_reads : (depth : ℕ) → Reads JsonHasUtf8 (value depth)
unfolding value
value_reads zero = one_level (λ ts. None) (λ ts. None) (λ ts h. tt) (λ ts h. tt)
value_reads (suc depth) =
    one_level (λ ts. items (value depth) (length ts) ts) (λ ts. members (value depth) (length ts) ts)
    (λ ts h. items_read (value depth) (value_reads depth) (length ts) ts h) (λ ts h. members_read (value depth) (value_reads depth) (length ts) ts h)

last_of : (o : Option (Json × List Token)) → ReadWell JsonHasUtf8 o → Given JsonHasUtf8 (option_and_then (λ p. if_last p.0 p.1) o)
last_of o h = grind (arith, common_steps)

pub json_utf8 : (depth : ℕ) (text : List ℕ) → IsUtf8 text → Given JsonHasUtf8 (option_and_then (λ p. if_last p.0 p.1) (value depth (tokens text)))
json_utf8 depth text u = last_of (value depth (tokens text)) (value_reads depth (tokens text) (tokens_utf8 text u))
