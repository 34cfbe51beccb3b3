-- The lines of a proof's file: what each decodes to, that they are a kind of file, and how they are read one by one.
use Rattle.cadf_evidence.proofs.Common.{◌≡◌, inl, inr, ℕ, List, [], ◌∷◌, ◌++◌, map, Bool, true, false, cond, true≢false, Option, Some, None, refl, sym, ap, ◌∙◌, subst, arith, append_assoc, append-nil, common_steps, bytes_eq-Decides, ◌⊎◌, ◌&&◌, ◌||◌, not, nat_eq, codes, is_some, option_map, option_or, bytes_eq, encode_lower, Text, is_name_text, is_unbroken, IsNameText, all_append, unbroken_quoted, AreAfter, map_more, and_true, are_unbroken, Ends, Follows, IsModelKind, Plain, accepts-models, lines_of, models-tell, name_is, unbroken_digest, good_log, shape_unless, AcceptsModels, log_line, with_digest_line, begins_digest, unbroken_digest_of, IsDigest, Both, Added, Gone, Part, Node, Hash, Leaf, rest_after, digest_after, digest_line, ProofModel, proof_header, node_line, keys_line, part_line, keys_lines, proof_lines, proof_body, IsPart, AreParts, AreKeyParts, HasProofParts, IsProof, ProofFileIsInjective, leaf_in, part_in, starts_keys, have_begun, cause_after, parts_in, facts_in, keys_in, proof_model_in, proof_kind, IsPutInto}
use Rattle.cadf_linefile.specs.Verdict as frame
use Rattle.cadf_evidence.proofs.MarkedLemmas.{digest_after-again, digest_after-only}

-- ---- the line of a part decodes to it

other_mark : (a b : ℕ) (t : List ℕ) → nat_eq a b ≡ false → digest_after (b ∷ 32 ∷ []) (a ∷ 32 ∷ t) ≡ None
unfolding digest_after rest_after
other_mark a b t e = grind (arith, common_steps)

-- what is tried after the mark of a leaf of both, and after that of an added one
abbrev after_both : List ℕ → Option Part
after_both l = option_or (option_map (Leaf Added) (digest_after (codes "A ") l)) (option_map (Leaf Gone) (digest_after (codes "G ") l))

abbrev after_added : List ℕ → Option Part
after_added l = option_map (Leaf Gone) (digest_after (codes "G ") l)

pub part-again : (p : Part) → IsPart p → part_in (part_line p) ≡ Some p
unfolding part_in leaf_in
part-again Node is = refl
part-again (Hash h) is = ap (λ o. option_or (option_map Hash o) (leaf_in (part_line (Hash h)))) (digest_after-again (codes "H ") h is)
part-again (Leaf Both d) is =
    let l = part_line (Leaf Both d) in
    ap (λ o. option_or (option_map Hash o) (leaf_in l)) (other_mark 80 72 (encode_lower d) refl)
    ∙ ap (λ o. option_or (option_map (Leaf Both) o) (after_both l)) (digest_after-again (codes "P ") d is)
part-again (Leaf Added d) is =
    let l = part_line (Leaf Added d) in
    ap (λ o. option_or (option_map Hash o) (leaf_in l)) (other_mark 65 72 (encode_lower d) refl)
    ∙ ap (λ o. option_or (option_map (Leaf Both) o) (after_both l)) (other_mark 65 80 (encode_lower d) refl)
    ∙ ap (λ o. option_or (option_map (Leaf Added) o) (after_added l)) (digest_after-again (codes "A ") d is)
part-again (Leaf Gone d) is =
    let l = part_line (Leaf Gone d) in
    ap (λ o. option_or (option_map Hash o) (leaf_in l)) (other_mark 71 72 (encode_lower d) refl)
    ∙ ap (λ o. option_or (option_map (Leaf Both) o) (after_both l)) (other_mark 71 80 (encode_lower d) refl)
    ∙ ap (λ o. option_or (option_map (Leaf Added) o) (after_added l)) (other_mark 71 65 (encode_lower d) refl)
    ∙ ap (option_map (Leaf Gone)) (digest_after-again (codes "G ") d is)

-- ---- and no other line does

abbrev IsLine : List ℕ → Part → Type 0
IsLine l p = (l ≡ part_line p) × IsPart p

either_of : (f : Text → Part) (o : Option Text) (q : Option Part) (p : Part) → option_or (option_map f o) q ≡ Some p
    → ((d : Text) × (o ≡ Some d) × (f d ≡ p)) ⊎ (q ≡ Some p)
either_of f None q p e = inr e
either_of f (Some d) q p e = let same : f d ≡ p = cc in inl (d, refl, same)

module _ (f : Text → Part) (mark : List ℕ) (line : (d : Text) → part_line (f d) ≡ digest_line mark d) (part : (d : Text) → IsDigest d → IsPart (f d)) where
  marked : (l : List ℕ) (p : Part) → ((d : Text) × (digest_after mark l ≡ Some d) × (f d ≡ p)) → IsLine l p
  marked l p m =
      let q = digest_after-only mark l m.0 m.1 in
      (q.0 ∙ sym (line m.0) ∙ ap part_line m.2, subst IsPart m.2 (part m.0 q.1))

  one_of : (l : List ℕ) (q : Option Part) (p : Part) → (q ≡ Some p → IsLine l p) → option_or (option_map f (digest_after mark l)) q ≡ Some p → IsLine l p
  one_of l q p others e = elim (either_of f (digest_after mark l) q p e) [
    | inl m ↦ marked l p m
    | inr o ↦ others o
  ]

none_left : (o : Option Part) → option_or o None ≡ o
none_left None = refl
none_left (Some p) = refl

leaf-only : (l : List ℕ) (p : Part) → leaf_in l ≡ Some p → IsLine l p
unfolding leaf_in
leaf-only l p e =
    one_of (Leaf Both) (codes "P ") (λ d. refl) (λ d is. is) l _ p
    (λ f. one_of (Leaf Added) (codes "A ") (λ d. refl) (λ d is. is) l _ p
    (λ g. one_of (Leaf Gone) (codes "G ") (λ d. refl) (λ d is. is) l None p (λ h. absurd (cc)) (none_left _ ∙ g)) f) e

pub part-only : (l : List ℕ) (p : Part) → part_in l ≡ Some p → IsLine l p
unfolding part_in
part-only l p e = by (bytes_eq l node_line) refl e
  where
    by : (b : Bool) → bytes_eq l node_line ≡ b → cond b (Some Node) (option_or (option_map Hash (digest_after (codes "H ") l)) (leaf_in l)) ≡ Some p → IsLine l p
    by true is k = let same : Node ≡ p = cc in ((bytes_eq-Decides l node_line).0 is ∙ ap part_line same, subst IsPart same tt)
    by false is k = one_of Hash (codes "H ") (λ d. refl) (λ d is. is) l (leaf_in l) p (leaf-only l p) k

-- ---- the line that begins the keys' parts

pub no_keys : (p : Part) → starts_keys (part_line p) ≡ false
unfolding starts_keys
no_keys Node = refl
no_keys (Hash h) = refl
no_keys (Leaf Both d) = refl
no_keys (Leaf Added d) = refl
no_keys (Leaf Gone d) = refl

keys_start : starts_keys keys_line ≡ true
unfolding starts_keys
keys_start = refl

pub only_keys : (l : List ℕ) → starts_keys l ≡ true → l ≡ keys_line
unfolding starts_keys
only_keys l e = (bytes_eq-Decides l keys_line).0 e

module _ (before : List (List ℕ)) where
  no_digest_part : part_in (frame.digest_line before) ≡ None
  unfolding part_in leaf_in digest_after rest_after
  no_digest_part = refl

  no_digest_keys : starts_keys (frame.digest_line before) ≡ false
  unfolding starts_keys
  no_digest_keys = refl

-- ---- several lines

begun_after : (ps : List Part) (ls : List (List ℕ)) → have_begun (map part_line ps ++ ls) ≡ have_begun ls
begun_after [] ls = refl
begun_after (p ∷ ps) ls = ap (λ b. b || have_begun (map part_line ps ++ ls)) (no_keys p) ∙ begun_after ps ls

begun_is : (ps : List Part) (ks : Option (List Part)) → have_begun (map part_line ps ++ keys_lines ks) ≡ is_some ks
begun_is ps None = begun_after ps []
begun_is ps (Some ks) = begun_after ps (keys_lines (Some ks)) ∙ ap (λ b. b || have_begun (map part_line ks)) keys_start

parts_again : (ps : List Part) (ls : List (List ℕ)) → AreParts ps → parts_in ls ≡ [] → parts_in (map part_line ps ++ ls) ≡ ps
parts_again [] ls each none = none
parts_again (p ∷ ps) ls each none = rw (part-again p each.0) (ap (λ xs. p ∷ xs) (parts_again ps ls each.1 none))

facts_again : (ps : List Part) (ls : List (List ℕ)) → AreParts ps → facts_in (map part_line ps ++ ls) ≡ ps ++ facts_in ls
facts_again [] ls each = refl
facts_again (p ∷ ps) ls each = rw (no_keys p) (rw (part-again p each.0) (ap (λ xs. p ∷ xs) (facts_again ps ls each.1)))

keys_again : (ps : List Part) (ls : List (List ℕ)) → keys_in (map part_line ps ++ ls) ≡ keys_in ls
keys_again [] ls = refl
keys_again (p ∷ ps) ls = rw (no_keys p) (keys_again ps ls)

-- ---- lines that may follow each other are those of a proof

abbrev After : List Plain → List Plain → Type 0
After before xs = AreAfter (Follows proof_kind) (Ends proof_kind) before xs

record AreKeys (ls : List (List ℕ)) : Type 0 where
  pub keys : List Part
  pub are : ls ≡ map part_line keys
  pub parts : AreParts keys

record AreFacts (ls : List (List ℕ)) : Type 0 where
  pub facts : List Part
  pub keys : Option (List Part)
  pub are : ls ≡ map part_line facts ++ keys_lines keys
  pub parts : AreParts facts
  pub key_parts : AreKeyParts keys

begun_more : (before : List Plain) (x : Plain) → have_begun (lines_of (before ++ x ∷ [])) ≡ (have_begun (lines_of before) || starts_keys x.0)
begun_more [] x = grind (arith, common_steps)
begun_more (y ∷ before) x = grind (arith, common_steps, (begun_more before x))

may_be : (a b c : Bool) → shape_unless (a || (b && not c)) ≡ None → a ≡ false → (b ≡ true) × (c ≡ false)
may_be a b c e f = grind (arith, common_steps)

keys_found : (before xs : List Plain) → have_begun (lines_of before) ≡ true → After before xs → AreKeys (lines_of xs)
keys_found before [] begun h = record { keys = []; are = refl; parts = tt }
keys_found before (x ∷ xs) begun h =
    by (part_in x.0) refl (keys_found (before ++ x ∷ []) xs (begun_more before x ∙ ap (λ b. b || starts_keys x.0) begun) h.1)
  where
    by : (o : Option Part) → part_in x.0 ≡ o → AreKeys (lines_of xs) → AreKeys (lines_of (x ∷ xs))
    by None e r = absurd (true≢false (sym begun ∙ (may_be (is_some (part_in x.0)) _ _ h.0 (ap is_some e)).1))
    by (Some p) e r =
        let o = part-only x.0 p e in
        record { keys = p ∷ r.keys; are = λ i. o.0 i ∷ r.are i; parts = (o.1, r.parts) }

facts_found : (before xs : List Plain) → have_begun (lines_of before) ≡ false → After before xs → AreFacts (lines_of xs)
facts_found before [] begun h = record { facts = []; keys = None; are = refl; parts = tt; key_parts = tt }
facts_found before (x ∷ xs) begun h = by (part_in x.0) refl (λ none. facts_found (before ++ x ∷ []) xs none h.1)
  where
    more : (b : Bool) → starts_keys x.0 ≡ b → have_begun (lines_of (before ++ x ∷ [])) ≡ b
    more b e = begun_more before x ∙ (λ i. begun i || e i)

    by : (o : Option Part) → part_in x.0 ≡ o → (have_begun (lines_of (before ++ x ∷ [])) ≡ false → AreFacts (lines_of xs)) → AreFacts (lines_of (x ∷ xs))
    by None e later =
        let k = (may_be (is_some (part_in x.0)) _ _ h.0 (ap is_some e)).0 in
        let r = keys_found (before ++ x ∷ []) xs (more true k) h.1 in
        record { facts = []; keys = Some r.keys; are = λ i. only_keys x.0 k i ∷ r.are i; parts = tt; key_parts = r.parts }
    by (Some p) e later =
        let o = part-only x.0 p e in
        let r = later (more false (ap starts_keys o.0 ∙ no_keys p)) in
        record { facts = p ∷ r.facts; keys = r.keys; are = λ i. o.0 i ∷ r.are i; parts = (o.1, r.parts); key_parts = r.key_parts }

proof_found : (name : Text) (xs : List Plain) → is_name_text name ≡ true → After [] xs
    → (p : ProofModel) × (proof_header ∷ log_line name ∷ lines_of xs ≡ proof_body p) × IsProof p
proof_found name xs named h =
    let r = facts_found [] xs refl h in (
      record { log = name; facts = r.facts; keys = r.keys },
      ap (λ ls. proof_header ∷ log_line name ∷ ls) r.are,
      record { log = named; parts = record { facts = r.parts; keys = r.key_parts } },
    )

-- ---- and the lines of a proof may follow each other

no_z : (p : Part) → begins_digest (part_line p) ≡ false
no_z Node = refl
no_z (Hash h) = refl
no_z (Leaf Both d) = refl
no_z (Leaf Added d) = refl
no_z (Leaf Gone d) = refl

abbrev plain_parts : List Part → List Plain
plain_parts ps = map (λ p. (part_line p, no_z p)) ps

abbrev plain_keys : Option (List Part) → List Plain
plain_keys None = []
plain_keys (Some ks) = (keys_line, refl) ∷ plain_parts ks

abbrev plains : ProofModel → List Plain
plains p = plain_parts p.facts ++ plain_keys p.keys

plain_lines : (ps : List Part) (xs : List Plain) → lines_of (plain_parts ps ++ xs) ≡ map part_line ps ++ lines_of xs
plain_lines [] xs = refl
plain_lines (p ∷ ps) xs = ap (λ ls. part_line p ∷ ls) (plain_lines ps xs)

key_lines : (ks : Option (List Part)) → lines_of (plain_keys ks) ≡ keys_lines ks
key_lines None = refl
key_lines (Some ks) =
    ap (λ ls. keys_line ∷ ls) (ap lines_of (sym (append-nil (plain_parts ks))) ∙ plain_lines ks [] ∙ append-nil (map part_line ks))

parts_follow : (before : List Plain) (ps : List Part) (xs : List Plain) → AreParts ps → After (before ++ plain_parts ps) xs → After before (plain_parts ps ++ xs)
parts_follow before [] xs each h = subst (λ b. After b xs) (append-nil before) h
parts_follow before (p ∷ ps) xs each h = (
  ap (λ o. shape_unless (is_some o || (starts_keys (part_line p) && not (have_begun (lines_of before))))) (part-again p each.0),
  parts_follow (before ++ (part_line p, no_z p) ∷ []) ps xs each.1
      (subst (λ b. After b xs) (sym (append_assoc before ((part_line p, no_z p) ∷ []) (plain_parts ps))) h),
)

or_true : (a b : Bool) → b ≡ true → shape_unless (a || b) ≡ None
or_true a b e = grind (arith, common_steps)

keys_follow : (ps : List Part) (ks : Option (List Part)) → AreKeyParts ks → After (plain_parts ps) (plain_keys ks)
keys_follow ps None each = refl
keys_follow ps (Some ks) each =
    let none = ap have_begun (ap lines_of (sym (append-nil (plain_parts ps))) ∙ plain_lines ps []) ∙ begun_after ps [] in (
      or_true (is_some (part_in keys_line)) _ (λ i. keys_start i && not (none i)),
      subst (After _) (append-nil (plain_parts ks)) (parts_follow (plain_parts ps ++ (keys_line, refl) ∷ []) ks [] each refl),
    )

proof_follows : (p : ProofModel) → IsProof p → After [] (plains p)
proof_follows p is = parts_follow [] p.facts (plain_keys p.keys) is.parts.facts (keys_follow p.facts p.keys is.parts.keys)

-- ---- no line contains a line feed

part_unbroken : (p : Part) → is_unbroken (part_line p) ≡ true
part_unbroken Node = refl
part_unbroken (Hash h) = unbroken_digest_of h
part_unbroken (Leaf Both d) = unbroken_digest_of d
part_unbroken (Leaf Added d) = unbroken_digest_of d
part_unbroken (Leaf Gone d) = unbroken_digest_of d

parts_unbroken : (ps : List Part) (ls : List (List ℕ)) → are_unbroken ls ≡ true → are_unbroken (map part_line ps ++ ls) ≡ true
parts_unbroken [] ls h = h
parts_unbroken (p ∷ ps) ls h = and_true (is_unbroken (part_line p)) _ (part_unbroken p) (parts_unbroken ps ls h)

keys_unbroken : (ks : Option (List Part)) (ls : List (List ℕ)) → are_unbroken ls ≡ true → are_unbroken (keys_lines ks ++ ls) ≡ true
keys_unbroken None ls h = h
keys_unbroken (Some ks) ls h = parts_unbroken ks ls h

unbroken_proof : (p : ProofModel) → IsProof p → are_unbroken (with_digest_line (proof_body p)) ≡ true
unbroken_proof p is =
    let last = frame.digest_line (proof_body p) ∷ [] in
    let more = parts_unbroken p.facts (keys_lines p.keys ++ last) (keys_unbroken p.keys last (and_true _ true (unbroken_digest (proof_body p)) refl)) in
    let lines = subst (λ ls. are_unbroken ls ≡ true) (sym (append_assoc (map part_line p.facts) (keys_lines p.keys) last)) more in
    and_true (is_unbroken (log_line p.log)) _ (unbroken_quoted p.log) lines

-- ---- the lines determine the proof

module _ (z : List ℕ) (no_part : part_in z ≡ None) (no_key : starts_keys z ≡ false) where
  none_in : parts_in (z ∷ []) ≡ []
  none_in = rw no_part refl

  facts_end : (ks : Option (List Part)) → facts_in (keys_lines ks ++ z ∷ []) ≡ []
  facts_end None = rw no_key (rw no_part refl)
  facts_end (Some ks) = rw keys_start refl

  keys_end : (ks : Option (List Part)) → AreKeyParts ks → keys_in (keys_lines ks ++ z ∷ []) ≡ ks
  keys_end None each = rw no_key refl
  keys_end (Some ks) each = rw keys_start (ap Some (parts_again ks (z ∷ []) each none_in))

  facts_are : (fs : List Part) (ks : Option (List Part)) → AreParts fs → facts_in ((map part_line fs ++ keys_lines ks) ++ z ∷ []) ≡ fs
  facts_are fs ks each =
      ap facts_in (append_assoc (map part_line fs) (keys_lines ks) (z ∷ []))
      ∙ facts_again fs (keys_lines ks ++ z ∷ []) each
      ∙ ap (λ ps. fs ++ ps) (facts_end ks)
      ∙ append-nil fs

  keys_are : (fs : List Part) (ks : Option (List Part)) → AreKeyParts ks → keys_in ((map part_line fs ++ keys_lines ks) ++ z ∷ []) ≡ ks
  keys_are fs ks each =
      ap keys_in (append_assoc (map part_line fs) (keys_lines ks) (z ∷ []))
      ∙ keys_again fs (keys_lines ks ++ z ∷ [])
      ∙ keys_end ks each

proof_again : (p : ProofModel) → IsProof p → proof_model_in (with_digest_line (proof_body p)) ≡ p
proof_again p is =
    let z = frame.digest_line (proof_body p) in
    let facts = facts_are z (no_digest_part (proof_body p)) (no_digest_keys (proof_body p)) p.facts p.keys is.parts.facts in
    let keys = keys_are z (no_digest_part (proof_body p)) (no_digest_keys (proof_body p)) p.facts p.keys is.parts.keys in
    rw (good_log p.log is.log) (λ i. record { log = p.log; facts = facts i; keys = keys i })

proof_is_kind : IsModelKind proof_kind IsProof (λ p. p.log) plains
proof_is_kind = record {
  named = λ p is. is.log;
  lines = λ p. ap (λ ls. proof_header ∷ log_line p.log ∷ ls) (plain_lines p.facts (plain_keys p.keys) ∙ ap (λ ls. map part_line p.facts ++ ls) (key_lines p.keys));
  unbroken = unbroken_proof;
  follow = proof_follows;
  again = proof_again;
  found = proof_found;
}

pub accepts-proofs : AcceptsModels proof_kind IsProof
accepts-proofs = accepts-models proof_is_kind

pub proof-file-tells : ProofFileIsInjective
proof-file-tells = models-tell proof_is_kind

-- the invariants of a proof's log and parts
pub proof_is : (p : ProofModel) → IsNameText p.log → HasProofParts p → IsProof p
proof_is p name parts = record { log = name_is p.log name; parts = parts }

-- ---- one line more

abbrev of_parts : List Part → Option (List Part) → ProofModel
of_parts fs ks = record { log = []; facts = fs; keys = ks }

may_follow : (a b : Bool) → a ≡ true → shape_unless (a || b) ≡ None
may_follow a b e = grind (arith, common_steps)

pub fact_put : (fs qs : List Part) (l : List ℕ) → AreParts fs → IsPutInto fs l qs
    → (cause_after (proof_lines (of_parts fs None)) l ≡ None) × (proof_lines (of_parts qs None) ≡ proof_lines (of_parts fs None) ++ l ∷ [])
    × HasProofParts (of_parts qs None)
fact_put fs qs l each put =
    let o = part-only l put.0 put.1 in
    let more : map part_line qs ≡ map part_line fs ++ l ∷ [] = ap (map part_line) put.2 ∙ map_more part_line fs put.0 ∙ ap (λ x. map part_line fs ++ x ∷ []) (sym o.0) in (
      may_follow (is_some (part_in l)) _ (ap is_some put.1),
      append-nil (map part_line qs) ∙ more ∙ ap (λ ls. ls ++ l ∷ []) (sym (append-nil (map part_line fs))),
      record { facts = subst AreParts (sym put.2) (all_append IsPart fs (put.0 ∷ []) each (o.1, tt)); keys = tt },
    )

pub key_put : (fs ks qs : List Part) (l : List ℕ) → HasProofParts (of_parts fs (Some ks)) → IsPutInto ks l qs
    → (cause_after (proof_lines (of_parts fs (Some ks))) l ≡ None) × (proof_lines (of_parts fs (Some qs)) ≡ proof_lines (of_parts fs (Some ks)) ++ l ∷ [])
    × HasProofParts (of_parts fs (Some qs))
key_put fs ks qs l each put =
    let o = part-only l put.0 put.1 in
    let more : map part_line qs ≡ map part_line ks ++ l ∷ [] = ap (map part_line) put.2 ∙ map_more part_line ks put.0 ∙ ap (λ x. map part_line ks ++ x ∷ []) (sym o.0) in (
      may_follow (is_some (part_in l)) _ (ap is_some put.1),
      ap (λ ls. map part_line fs ++ keys_line ∷ ls) more ∙ sym (append_assoc (map part_line fs) (keys_line ∷ map part_line ks) (l ∷ [])),
      record { facts = each.facts; keys = subst AreParts (sym put.2) (all_append IsPart ks (put.0 ∷ []) each.keys (o.1, tt)) },
    )

pub keys_put : (fs ks : List Part) (l : List ℕ) → AreParts fs → l ≡ keys_line → ks ≡ []
    → (cause_after (proof_lines (of_parts fs None)) l ≡ None) × (proof_lines (of_parts fs (Some ks)) ≡ proof_lines (of_parts fs None) ++ l ∷ [])
    × HasProofParts (of_parts fs (Some ks))
keys_put fs ks l each is none = (
  or_true (is_some (part_in l)) _ (λ i. (ap starts_keys is ∙ keys_start) i && not (begun_is fs None i)),
  (λ i. map part_line fs ++ sym is i ∷ map part_line (none i)) ∙ ap (λ ls. ls ++ l ∷ []) (sym (append-nil (map part_line fs))),
  record { facts = each; keys = subst AreParts (sym none) tt },
)

-- ---- a line that is no part

or_false : (a b : Bool) → b ≡ false → (a || b) ≡ a
or_false a b e = grind (arith, common_steps)

pub fact_cause : (fs : List Part) (l : List ℕ) → starts_keys l ≡ false → cause_after (proof_lines (of_parts fs None)) l ≡ shape_unless (is_some (part_in l))
fact_cause fs l e = ap shape_unless (or_false (is_some (part_in l)) _ (ap (λ b. b && not (have_begun (proof_lines (of_parts fs None)))) e))

and_false : (a : Bool) → (a && false) ≡ false
and_false true = refl
and_false false = refl

pub key_cause : (fs ks : List Part) (l : List ℕ) → cause_after (proof_lines (of_parts fs (Some ks))) l ≡ shape_unless (is_some (part_in l))
key_cause fs ks l =
    ap shape_unless (or_false (is_some (part_in l)) _ (ap (λ b. starts_keys l && not b) (begun_is fs (Some ks)) ∙ and_false (starts_keys l)))

-- ---- the first line

pub fact_first : (fs qs : List Part) (l : List ℕ) → fs ≡ [] → IsPutInto fs l qs
    → (cause_after [] l ≡ None) × (proof_lines (of_parts qs None) ≡ l ∷ []) × HasProofParts (of_parts qs None)
fact_first fs qs l e put = fact_put [] qs l tt (subst (λ ps. IsPutInto ps l qs) e put)

pub keys_first : (fs ks : List Part) (l : List ℕ) → fs ≡ [] → ks ≡ [] → l ≡ keys_line
    → (cause_after [] l ≡ None) × (proof_lines (of_parts fs (Some ks)) ≡ l ∷ []) × HasProofParts (of_parts fs (Some ks))
keys_first fs ks l e f is =
    let p = keys_put [] ks l tt is f in
    (p.0, (λ i. map part_line (e i) ++ keys_line ∷ map part_line ks) ∙ p.1, record { facts = subst AreParts (sym e) tt; keys = p.2.keys })
