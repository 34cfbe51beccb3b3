-- What is told of two seals is so.
use Rattle.cadf_evidence.proofs.Common.{◌≡◌, ◌∙◌, ℕ, List, [], ◌∷◌, length, true, false, Option, Some, None, Result, Ok, Err, refl, sym, ap, subst, arith, common_steps, AllByRecursion, Text, Contents, sha_digest, key_digest, keys_of, digest_of_some, IsDigest, all_needed, fault_unless, growth_unless, tree_fault, verdict, BothAreHonest, items, leaves_of, number, IsSet, Growth, TreeFault, NotNeeded, option_or, Kind, Both, Added, Went, Part, Node, Hash, Leaf, Root, all_gone_fault, error_of, first_unlisted, gone_fault, growth_of, growth_text, is_listed, keys_growth, later_fault, log_fault, placed, told_growth, unless_log, unlisted, AreKeyParts, AreParts, seal_of, GrowthIsSo, fact_digests, given_parts, key_digests, text_unless, GrowthFault, SealedSet, Facts, Keys, Bool, ◌||◌, ◌⊎◌, inl, inr, if◌then◌else◌, rising, listed-rising, rising-listed, text_same, text_total, Digests, digests_of, atom_digest, is_text, is_earlier, is_later, is_gone, those, Marked, member, AllByRecursion-listed, ListedModel, Differ, NothingGoesUnlisted, StayOrAreListed}
use Rattle.cadf_join.specs.Sets as set
use Rattle.cadf_evidence.proofs.SetsOfDigests.{facts_are_set, keys_are_set}
use Rattle.cadf_evidence.proofs.ToldFacts.{both_none, given_are, have_hashes, listed_member, member_listed}

-- ---- what isn't refused

past_log : (o : Option GrowthFault) (r : Result (List ℕ) GrowthFault) (text : List ℕ) → unless_log o r ≡ Ok text → r ≡ Ok text
past_log o r text e = grind (arith, common_steps)

record IsTold (later : Option GrowthFault) (list : Option ListedModel) (r : Result Growth GrowthFault) (text : List ℕ) : Type 0 where
  pub growth : Growth
  pub is : r ≡ Ok growth
  pub none : later ≡ None
  pub told : text ≡ growth_text list growth

no_later : (o : Option GrowthFault) (t text : List ℕ) → text_unless o t ≡ Ok text → (o ≡ None) × (text ≡ t)
no_later o t text e = grind (arith, common_steps)

is_told : (later : Option GrowthFault) (list : Option ListedModel) (r : Result Growth GrowthFault) (text : List ℕ) → told_growth later list r ≡ Ok text → IsTold later list r text
is_told later list (Err f) text e = absurd (cc)
is_told later list (Ok g) text e =
    let p = no_later later (growth_text list g) text e in
    record { growth = g; is = refl; none = p.0; told = p.1 }

accepted : (t : SealedSet) (r : Result Growth TreeFault) (g : Growth) → placed t r ≡ Ok g → r ≡ Ok g
accepted t r g e = grind (arith, common_steps)

keys_accepted : (a b : Root) (o : Option (List Part)) → error_of (keys_growth a b o) ≡ None → (g : Growth) × (verdict a b (given_parts o) ≡ Ok g)
keys_accepted a b None e = absurd (cc)
keys_accepted a b (Some ks) e = by (verdict a b ks) refl e
  where
    by : (r : Result Growth TreeFault) → verdict a b ks ≡ r → error_of (placed Keys r) ≡ None → (g : Growth) × (verdict a b ks ≡ Ok g)
    by (Ok g) is k = (g, is)
    by (Err f) is k = absurd (cc)

counts_are : (o : Option TreeFault) (ps : List Part) (g : Growth) → growth_unless o ps ≡ Ok g
    → g ≡ record { added = number (Some Added) ps; gone = number (Some Went) ps }
counts_are o ps g e = grind (arith, common_steps)

counted : (k : Kind) (ps : List Part) → number (Some k) ps ≡ length (leaves_of k ps)
counted k [] = refl
counted k (Node ∷ ps) = counted k ps
counted k (Hash h ∷ ps) = counted k ps
counted k (Leaf l d ∷ ps) = grind (arith, common_steps, (counted k ps))

-- ---- what went

not_gone : (t : SealedSet) (list : Option ListedModel) (ps : List Part) → gone_fault t list ps ≡ None → first_unlisted t list ps ≡ None
not_gone t list ps e = grind (arith, common_steps)

listed_leaf : (t : SealedSet) (list : Option ListedModel) (d : Text) → unlisted t list (Leaf Went d) ≡ None → is_listed t list d ≡ true
listed_leaf t list d e = by (is_listed t list d) e
  where
    by : (b : Bool) → (if b then None else Some d) ≡ None → b ≡ true
    by true k = refl
    by false k = absurd (cc)

all_listed : (t : SealedSet) (list : Option ListedModel) (ps : List Part) → first_unlisted t list ps ≡ None
    → AllByRecursion (λ d. is_listed t list d ≡ true) (leaves_of Went ps)
all_listed t list [] e = tt
all_listed t list (Node ∷ ps) e = all_listed t list ps e
all_listed t list (Hash h ∷ ps) e = all_listed t list ps e
all_listed t list (Leaf Both d ∷ ps) e = all_listed t list ps e
all_listed t list (Leaf Added d ∷ ps) e = all_listed t list ps e
all_listed t list (Leaf Went d ∷ ps) e =
    let p = both_none (unlisted t list (Leaf Went d)) (first_unlisted t list ps) e in
    (listed_leaf t list d p.0, all_listed t list ps p.1)

-- ---- both sets

pub growth_is_so : BothAreHonest → GrowthIsSo
growth_is_so honest a b p list text is facts_apart keys_apart e =
    let s = seal_of a in
    let n = seal_of b in
    let r = growth_of Facts s.facts n.facts p.facts in
    let t = is_told (later_fault s n p list) list r text (past_log (log_fault s.log n.log p.log list) (told_growth (later_fault s n p list) list r) text e) in
    let facts = accepted Facts (verdict s.facts n.facts p.facts) t.growth t.is in
    let later = both_none (error_of (keys_growth s.keys n.keys p.keys)) (all_gone_fault list p) t.none in
    let gone = both_none (gone_fault Facts list p.facts) (gone_fault Keys list (given_parts p.keys)) later.1 in
    let keys = keys_accepted s.keys n.keys p.keys later.0 in
    let counts = counts_are (option_or (tree_fault s.facts n.facts p.facts) (fault_unless (all_needed false (items p.facts)) NotNeeded)) p.facts t.growth facts in
    record {
      facts = record {
        added = leaves_of Added p.facts;
        gone = leaves_of Went p.facts;
        difference = honest (fact_digests a.atoms) (fact_digests b.atoms) p.facts t.growth (facts_are_set a.atoms) (facts_are_set b.atoms)
            (have_hashes p.facts is.parts.facts) facts_apart facts;
        listed = all_listed Facts list p.facts (not_gone Facts list p.facts gone.0);
      };
      keys = record {
        added = leaves_of Added (given_parts p.keys);
        gone = leaves_of Went (given_parts p.keys);
        difference = honest (key_digests a.atoms) (key_digests b.atoms) (given_parts p.keys) keys.0 (keys_are_set a.atoms) (keys_are_set b.atoms)
            (have_hashes (given_parts p.keys) (given_are p.keys is.parts.keys)) keys_apart keys.1;
        listed = all_listed Keys list (given_parts p.keys) (not_gone Keys list (given_parts p.keys) gone.1);
      };
      told = t.told ∙ ap (growth_text list) (counts ∙ (λ i. record { added = counted Added p.facts i; gone = counted Went p.facts i }));
    }

-- ---- what stayed, and what went

either : (a b : Bool) → (a ≡ true) ⊎ (b ≡ true) → (a || b) ≡ true
either a b (inl e) = ap (λ x. x || b) e
either true b (inr e) = refl
either false b (inr e) = e

-- what is in one of two lists with a further head
more_left : (b : Bool) {c d : Bool} → (c ≡ true) ⊎ (d ≡ true) → ((b || c) ≡ true) ⊎ (d ≡ true)
more_left b (inl e) = inl (either b _ (inr e))
more_left b (inr e) = inr e

stayed_or_went : (d : Text) (ms : List Marked) → member d (those is_earlier ms) ≡ true → (member d (those is_later ms) ≡ true) ⊎ (member d (those is_gone ms) ≡ true)
stayed_or_went d [] h = absurd (cc)
stayed_or_went d ((Added, c) ∷ ms) h = more_left (is_text c d) (stayed_or_went d ms h)
stayed_or_went d ((Both, c) ∷ ms) h = by (is_text c d) h (stayed_or_went d ms)
  where
    by : (z : Bool) → (z || member d (those is_earlier ms)) ≡ true
        → (member d (those is_earlier ms) ≡ true → (member d (those is_later ms) ≡ true) ⊎ (member d (those is_gone ms) ≡ true))
        → ((z || member d (those is_later ms)) ≡ true) ⊎ (member d (those is_gone ms) ≡ true)
    by true g f = inl refl
    by false g f = f g
stayed_or_went d ((Went, c) ∷ ms) h = by (is_text c d) h (stayed_or_went d ms)
  where
    by : (z : Bool) → (z || member d (those is_earlier ms)) ≡ true
        → (member d (those is_earlier ms) ≡ true → (member d (those is_later ms) ≡ true) ⊎ (member d (those is_gone ms) ≡ true))
        → (member d (those is_later ms) ≡ true) ⊎ ((z || member d (those is_gone ms)) ≡ true)
    by true g f = inr refl
    by false g f = f g

stay : (t : SealedSet) (list : Option ListedModel) (old new : Digests) → Differ t list (rising old) (rising new) → StayOrAreListed t list old new
stay t list old new x d h =
    let all = x.difference in
    let was = listed_member d (rising old) (rising-listed text_total text_same old d h) in
    either (set.contains new d) (is_listed t list d) (elim (stayed_or_went d all.all (ap (member d) all.old_is ∙ was)) [
      | inl m ↦ inl (listed-rising text_total text_same new d (member_listed d (rising new) (ap (member d) (sym all.new_is) ∙ m)))
      | inr m ↦ inr (AllByRecursion-listed (λ g. is_listed t list g ≡ true) x.gone x.listed d (member_listed d x.gone (ap (member d) (sym all.gone_is) ∙ m)))
    ])

pub nothing_unlisted : NothingGoesUnlisted
nothing_unlisted a b list text x =
    (stay Facts list (digests_of atom_digest a.atoms) (digests_of atom_digest b.atoms) x.facts, stay Keys list (keys_of a.atoms) (keys_of b.atoms) x.keys)
