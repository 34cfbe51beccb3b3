-- Of facts and keys that are told, each is in the sealed set or not, as was asked.
use Rattle.cadf_evidence.proofs.Common.{◌≡◌, ◌∙◌, ℕ, ◌+◌, Bool, true, false, List, [], ◌∷◌, map, Option, Some, None, Ok, refl, sym, subst, inl, inr, true≢false, arith, not, common_steps, false_from_ne_true, bytes_eq-Decides, AllByRecursion, option_or, Text, Texts, Contents, Has, Listed, rising, text_same, text_total, texts_same, texts_total, listed-rising, rising-listed, digest_of_some, known_digest, atom_digest, Digests, digests_of, is_text, tree_fault, HaveHashes, AreKeyParts, Fact, is_some, nat_eq, length, verdict_on, ◌⊎◌, PresenceIsSound, member, state, Part, Node, Hash, Leaf, AreParts, FactsAreSo, fact_digests, alone_fault, state_fault, first_fault, refusal, tree_refusal, verdict_if, Asked, Key, KeysAreSo, IsKeyAsAsked, key_of, key_digest, keys_of, key_digests, given_parts, SealModel, Root, IsHashedFor, IsHashedBy, is_earlier, DoNotCollide, root, IsSet, text_unless, VerifyFault, TreeFault, ap, told}
use Rattle.cadf_join.specs.Sets as set
use Rattle.cadf_evidence.proofs.AskedDigests.{any_listed, listed_any}
use Rattle.cadf_evidence.proofs.SetsOfDigests.{facts_are_set, keys_are_set}

-- ---- parts that were read

pub have_hashes : (ps : List Part) → AreParts ps → HaveHashes ps
have_hashes [] each = tt
have_hashes (Node ∷ ps) each = (tt, have_hashes ps each.1)
have_hashes (Hash h ∷ ps) each = (each.0.size, have_hashes ps each.1)
have_hashes (Leaf k d ∷ ps) each = (tt, have_hashes ps each.1)

pub given_are : (o : Option (List Part)) → AreKeyParts o → AreParts (given_parts o)
given_are None each = tt
given_are (Some ks) each = each

-- ---- members

same_text : (x y : Text) → is_text x y ≡ true → x ≡ y
same_text x y e = (bytes_eq-Decides x y).0 e

pub member_listed : (f : Text) (ds : List Text) → member f ds ≡ true → Listed f ds
member_listed f ds e = let m = any_listed (λ d. is_text d f) ds e in subst (λ x. Listed x ds) (same_text m.0 f m.2) m.1

pub listed_member : (f : Text) (ds : List Text) → Listed f ds → member f ds ≡ true
listed_member f ds l = listed_any (λ d. is_text d f) ds f l ((bytes_eq-Decides f f).1 refl)

member_has : (s : Digests) (f : Text) (b : Bool) → member f (rising s) ≡ b → set.contains s f ≡ b
member_has s f true e = listed-rising text_total text_same s f (member_listed f (rising s) e)
member_has s f false e =
    false_from_ne_true (set.contains s f) (λ h. true≢false (sym (listed_member f (rising s) (rising-listed text_total text_same s f h)) ∙ e))

-- ---- what isn't refused

no_fault : (r : Option VerifyFault) (text t : List ℕ) → text_unless r text ≡ Ok t → r ≡ None
no_fault r text t e = grind (arith, common_steps)

pub both_none : {A : Type 0} (a b : Option A) → option_or a b ≡ None → (a ≡ None) × (b ≡ None)
both_none a b e = grind (arith, common_steps)

no_refusal : (o : Option TreeFault) → tree_refusal o ≡ None → o ≡ None
no_refusal o e = grind (arith, common_steps)

as_asked : (a : Asked) (absent : Bool) (k : ℕ) (o : Option Bool) → state_fault a absent k o ≡ None → o ≡ Some (not absent)
as_asked a absent k None e = absurd (cc)
as_asked a true k (Some true) e = absurd (cc)
as_asked a true k (Some false) e = refl
as_asked a false k (Some true) e = refl
as_asked a false k (Some false) e = absurd (cc)

each_as_asked : (a : Asked) (absent : Bool) (ps : List Part) (k : ℕ) (fs : List Text) → first_fault a absent ps k fs ≡ None
    → AllByRecursion (λ f. state ps f ≡ Some (not absent)) fs
each_as_asked a absent ps k [] e = tt
each_as_asked a absent ps k (f ∷ fs) e =
    let p = both_none (state_fault a absent k (state ps f)) _ e in
    (as_asked a absent k (state ps f) p.0, each_as_asked a absent ps (k + 1) fs p.1)

of_each : (P : Text → Type 0) (qs : List Texts) → AllByRecursion P (map atom_digest qs) → (q : Texts) → Listed q qs → P (atom_digest q)
of_each P [] h q l = absurd l
of_each P (x ∷ qs) h q (inl e) = subst (λ y. P (atom_digest y)) (sym e) h.0
of_each P (x ∷ qs) h q (inr l) = of_each P qs h.1 q l

in_set : (held : Contents) (q : Texts) (absent : Bool) → ((y : Texts) → Has held y → atom_digest q ≡ atom_digest y → q ≡ y)
    → set.contains (digests_of atom_digest held) (atom_digest q) ≡ not absent → set.contains held q ≡ not absent
in_set held q true apart is = false_from_ne_true (set.contains held q) (λ h. true≢false (sym (known_digest atom_digest held q h) ∙ is))
in_set held q false apart is = grind (arith, common_steps, digest_of_some)

-- ---- the verdict on some digests of a set

module _ (sound : PresenceIsSound) (a : Asked) (ds : List Text) (ps : List Part) (alone absent : Bool) (qs : List Texts) (text t : List ℕ) where
  shown_so : IsSet ds → HaveHashes ps → DoNotCollide (λ x. IsHashedFor ds x ⊎ IsHashedBy is_earlier (length ds) ps x)
      → text_unless (refusal a (root ds) ps alone (map atom_digest qs) (map atom_digest qs) absent) t ≡ Ok text
      → (q : Texts) → Listed q qs → member (atom_digest q) ds ≡ not absent
  shown_so is hashes apart told q l =
      let one = both_none _ _ (no_fault _ t text told) in
      let two = both_none _ _ one.1 in
      let three = both_none _ _ (no_refusal _ one.0) in
      let each = each_as_asked a absent ps 1 (map atom_digest qs) two.1 in
      sound ds ps is hashes apart three.0 (atom_digest q) (not absent) (of_each (λ f. state ps f ≡ Some (not absent)) qs each q l)

pub facts_are_so : PresenceIsSound → FactsAreSo
facts_are_so sound s p held facts absent text is of apart other given q asked =
    let accepted = subst (λ r. verdict_on Fact r p.facts (not (is_some p.keys)) (rising facts) absent ≡ Ok text) of given in
    let found = shown_so sound Fact (fact_digests held) p.facts (not (is_some p.keys)) absent (rising facts) text (told absent (rising facts))
    (facts_are_set held) (have_hashes p.facts is.parts.facts) apart accepted q (rising-listed texts_total texts_same facts q asked) in
    in_set held q absent (λ y h e. other q y asked h e) (member_has (digests_of atom_digest held) (atom_digest q) (not absent) found)

-- ---- keys

by_parts : (r : Root) (o : Option (List Part)) (alone : Bool) (qs : List Texts) (absent : Bool) (text : List ℕ) → verdict_if r o alone qs absent ≡ Ok text
    → verdict_on Key r (given_parts o) alone qs absent ≡ Ok text
by_parts r None alone qs absent text e = absurd (cc)
by_parts r (Some ps) alone qs absent text e = e

key_as_asked : (held : Contents) (q : Texts) (absent : Bool) → ((x : Texts) → Has held x → atom_digest q ≡ atom_digest (key_of x) → q ≡ key_of x)
    → set.contains (keys_of held) (atom_digest q) ≡ not absent → IsKeyAsAsked held q absent
key_as_asked held q true apart is = λ x h e.
    true≢false (sym (known_digest key_digest held x h) ∙ ap (λ k. set.contains (keys_of held) (atom_digest k)) e ∙ is)
key_as_asked held q false apart is = let t = digest_of_some key_digest held (atom_digest q) is in (t.0, t.1, sym (apart t.0 t.1 t.2))

pub keys_are_so : PresenceIsSound → KeysAreSo
keys_are_so sound s p held keys absent text is of apart other given q asked =
    let ps = given_parts p.keys in
    let alone = nat_eq (length p.facts) 0 in
    let accepted = subst (λ r. verdict_on Key r ps alone keys absent ≡ Ok text) of (by_parts s.keys p.keys alone keys absent text given) in
    let found = shown_so sound Key (key_digests held) ps alone absent keys text (told absent keys)
    (keys_are_set held) (have_hashes ps (given_are p.keys is.parts.keys)) apart accepted q asked in
    key_as_asked held q absent (λ x h e. other q x asked h e) (member_has (keys_of held) (atom_digest q) (not absent) found)
