-- If a proof of growth is accepted under two site seals, each part stays, or what went is listed.
use Rattle.cadf_siteseal.proofs.Common.{◌≡◌, ◌∙◌, ℕ, List, [], ◌∷◌, Bool, true, false, true≢false, cond, Option, Some, None, Result, Ok, Err, not, refl, sym, ap, subst, arith, ◌&&◌, ◌||◌, is_some, nat_eq, option_map, unwrap_or, AllByRecursion, option_or, eqb-true, common_steps, bytes_eq-Decides, Text, keys_of, is_text, atom_digest, Digests, digests_of, both, ListedModel, ReplicaModel, TimeUnit, Root, grown, is_listed, HasProofParts, IsProof, seal_of, EqualSealsAreOfOneSet, GrowthIsSo, NothingGoesUnlisted, StayOrAreListed, GrowthFault, SealedSet, Facts, SealedKeys, growth_items, next, IsGrowthItem, comes_before, IsSiteSeal, SiteSealModel, AllFollow, both_texts, earlier_name, first_fault, gone_fault, grown_text, head_fault, input_fault, is_allowed, is_unit, item_text, kept_fault, lacking_fault, lacking_name, least_of, name_if, named, needed_fault, shown_fault, unless_fault, went_name, AreApart, PartsStay, StayApart, own_of, gone_roots, has_proof, held_roots, is_root, is_unchanged, last_roots, own, part_proof, part_seal, GrowthItem, Window, Tree, Keys, GrowthState, SealItem, Floor, Gone, Held, SealedPart, SiteFault, other_lines, with_lines}
use Rattle.cadf_siteseal.specs.declared.site_fault.SiteFault.TheVariants as fault
use Rattle.cadf_siteseal.proofs.PartProofs.{before_keys}

-- ---- what isn't refused

not_refused : (o : Option SiteFault) (r : Result (List ℕ) SiteFault) (more text : List ℕ) → unless_fault o (with_lines r more) ≡ Ok text
    → (o ≡ None) × ((s : List ℕ) × (r ≡ Ok s))
not_refused None (Ok s) more text e = (refl, (s, refl))
not_refused None (Err f) more text e = absurd (cc)
not_refused (Some f) r more text e = absurd (cc)

neither_fault : (o q : Option SiteFault) → option_or o q ≡ None → (o ≡ None) × (q ≡ None)
neither_fault o q e = grind (arith, common_steps)

none_mapped : {A : Type 0} (f : A → SiteFault) (o : Option A) → option_map f o ≡ None → o ≡ None
none_mapped f None e = refl
none_mapped f (Some a) e = absurd (cc)

same_log : (n : ℕ) (log l : Text) (unit u : TimeUnit) → input_fault n log unit l u ≡ None → l ≡ log
same_log n log l unit u e = by (is_text l log) refl e
  where
    by : (b : Bool) → is_text l log ≡ b → cond b (cond (is_unit u unit) None (Some (fault.OtherUnit n))) (Some (fault.OtherLog n)) ≡ None → l ≡ log
    by true is k = (bytes_eq-Decides l log).0 is
    by false is k = absurd (cc)

-- ---- no name

no_name : (b : Bool) (n : Text) → name_if b n ≡ None → b ≡ false
no_name true n e = absurd (cc)
no_name false n e = refl

neither_name : (o q : Option Text) → earlier_name o q ≡ None → (o ≡ None) × (q ≡ None)
neither_name None q e = (refl, e)
neither_name (Some a) None e = absurd (cc)
neither_name (Some a) (Some b) e = by (comes_before b a) e
  where
    by : (z : Bool) → cond z (Some b) (Some a) ≡ None → (Some a ≡ None) × (Some b ≡ None)
    by true k = absurd (cc)
    by false k = absurd (cc)

none_least : {A : Type 0} (f : A → Option Text) (o : Option Text) (xs : List A) → least_of f o xs ≡ None → (o ≡ None) × AllByRecursion (λ x. f x ≡ None) xs
none_least f o [] e = (e, tt)
none_least f o (x ∷ xs) e =
    let r = none_least f (earlier_name o (f x)) xs e in
    let p = neither_name o (f x) r.0 in
    (p.0, (p.1, r.1))

none_shown : (b : List SealItem) (l s : Option Text) → shown_fault b l s ≡ None → l ≡ None
none_shown b None s e = refl
none_shown b (Some l) None e = absurd (cc)
none_shown b (Some l) (Some s) e = by (comes_before s l) e
  where
    by : (z : Bool) → cond z (Some (fault.NotNeeded s)) (Some (lacking_fault b l)) ≡ None → Some l ≡ None
    by true k = absurd (cc)
    by false k = absurd (cc)

-- ---- the item of a part

record IsHeld (P : SealItem → Type 0) (n : Text) (r : Root × Root) : Type 0 where
  pub part : SealedPart
  pub name : part.name ≡ n
  pub roots : (part.facts, part.keys) ≡ r
  pub is : P (Held part)

held_item : (P : SealItem → Type 0) (n : Text) (r : Root × Root) (is : List SealItem) → held_roots n is ≡ Some r → AllByRecursion P is → IsHeld P n r
held_item P n r [] e all = absurd (cc)
held_item P n r (Floor t ∷ is) e all = held_item P n r is e all.1
held_item P n r (Gone p ∷ is) e all = held_item P n r is e all.1
held_item P n r (Held p ∷ is) e all = by (is_text p.name n) refl e (λ k. held_item P n r is k all.1)
  where
    by : (b : Bool) → is_text p.name n ≡ b → option_or (cond b (Some (p.facts, p.keys)) None) (held_roots n is) ≡ Some r
        → (held_roots n is ≡ Some r → IsHeld P n r) → IsHeld P n r
    by true same k more = record { part = p; name = (bytes_eq-Decides p.name n).0 same; roots = ap (λ o. unwrap_or o r) k; is = all.0 }
    by false same k more = more k

-- ---- the proof of a part

record AreBoth (r q : Result (List ℕ) SiteFault) : Type 0 where
  pub one : List ℕ
  pub two : List ℕ
  pub is_one : r ≡ Ok one
  pub is_two : q ≡ Ok two

both_ok : (r q : Result (List ℕ) SiteFault) (text : List ℕ) → both_texts r q ≡ Ok text → AreBoth r q
both_ok (Ok s) (Ok t) text e = record { one = s; two = t; is_one = refl; is_two = refl }
both_ok (Ok s) (Err f) text e = absurd (cc)
both_ok (Err f) q text e = absurd (cc)

named_ok : (t : Text) (r : Result (List ℕ) GrowthFault) (text : List ℕ) → named t r ≡ Ok text → (s : List ℕ) × (r ≡ Ok s)
named_ok t (Ok s) text e = (s, refl)
named_ok t (Err f) text e = absurd (cc)

record IsProved (a b : SiteSealModel) (list : Option ListedModel) (n : Text) (xs : List GrowthItem) : Type 0 where
  pub text : List ℕ
  pub grown_is : grown (part_seal a.log (held_roots n a.items)) (part_seal a.log (last_roots n b.items)) (part_proof a.log xs) list ≡ Ok text
  pub form : HasProofParts (part_proof a.log xs)

module _ (a b : SiteSealModel) (list : Option ListedModel) (n : Text) (u : TimeUnit) where
  proved : (s : GrowthState) (is : List GrowthItem) (text : List ℕ) → AllFollow growth_items IsGrowthItem u s is → grown_text a b list is ≡ Ok text
      → has_proof n is ≡ true → IsProved a b list n (own_of n is)
  proved s [] text all e has = absurd (cc)
  proved s (Tree p ∷ is) text all e has =
      let both = both_ok (item_text a b list (Tree p) is) (grown_text a b list is) text e in
      proved (next s (Tree p)) is both.two all.1 both.is_two has
  proved s (Keys ∷ is) text all e has =
      let both = both_ok (item_text a b list Keys is) (grown_text a b list is) text e in
      proved (next s Keys) is both.two all.1 both.is_two has
  proved s (Window t ∷ is) text all e has =
      let both = both_ok (item_text a b list (Window t) is) (grown_text a b list is) text e in
      by (is_text t n) refl has (λ k. proved (next s (Window t)) is both.two all.1 both.is_two k)
    where
      said : (s : List ℕ) × (grown (part_seal a.log (held_roots t a.items)) (part_seal a.log (last_roots t b.items)) (part_proof a.log (own is)) list ≡ Ok s)
      said =
          let both = both_ok (item_text a b list (Window t) is) (grown_text a b list is) text e in
          named_ok t _ both.one both.is_one

      by : (z : Bool) → is_text t n ≡ z → (z || has_proof n is) ≡ true → (has_proof n is ≡ true → IsProved a b list n (own_of n is))
          → IsProved a b list n (cond z (own is) (own_of n is))
      by true same k more =
          let form = before_keys u (next s (Window t)) is all.1 in
          record {
            text = said.0;
            grown_is = subst (λ m. grown (part_seal a.log (held_roots m a.items)) (part_seal a.log (last_roots m b.items)) (part_proof a.log (own is)) list ≡ Ok said.0)
                ((bytes_eq-Decides t n).0 same) said.1;
            form = record { facts = form.1.facts; keys = form.1.keys };
          }
      by false same k more = more k

-- ---- what stays

root_same : (r q : Root) → is_root q r ≡ true → q ≡ r
root_same r q e =
    let p = both (nat_eq q.count r.count) _ e in
    λ i. record { count = eqb-true q.count r.count p.0 i; hash = (bytes_eq-Decides q.hash r.hash).0 p.1 i }

roots_same : (r : Root × Root) (o : Option (Root × Root)) → is_unchanged (Some r) o ≡ true → o ≡ Some r
roots_same r None e = absurd (cc)
roots_same r (Some q) e =
    let p = both (is_root q.0 r.0) _ e in
    λ i. Some (root_same r.0 q.0 p.0 i, root_same r.1 q.1 p.1 i)

needed : (x y : Bool) → (not x && not y) ≡ false → x ≡ false → y ≡ true
needed x true e f = refl
needed true false e f = absurd (true≢false f)
needed false false e f = absurd (true≢false e)

still_held : (h q : Option (Root × Root)) (z : Bool) → (not (is_some h) && (is_some q && not z)) ≡ false → z ≡ false → h ≡ option_or h q
still_held (Some r) q z e f = refl
still_held None None z e f = refl
still_held None (Some r) z e f = absurd (true≢false (sym (ap not f) ∙ e))

all_stay : (t : SealedSet) (list : Option ListedModel) (s : Digests) → StayOrAreListed t list s s
all_stay t list s d h = ap (λ x. x || is_listed t list d) h

abbrev TwoStay : Option ListedModel → ReplicaModel → ReplicaModel → Type 0
TwoStay list old new =
    StayOrAreListed Facts list (digests_of atom_digest old.atoms) (digests_of atom_digest new.atoms)
    × StayOrAreListed SealedKeys list (keys_of old.atoms) (keys_of new.atoms)

module _ (growth : GrowthIsSo) (stay : NothingGoesUnlisted) (equal : EqualSealsAreOfOneSet) where
  module _ (a b : SiteSealModel) (list : Option ListedModel) (n : Text) (r : Root × Root) (old new : ReplicaModel) (has : held_roots n a.items ≡ Some r)
      (was : part_seal a.log (Some r) ≡ seal_of old) (now : part_seal a.log (last_roots n b.items) ≡ seal_of new) where
    same_stay : StayApart old new → last_roots n b.items ≡ Some r → TwoStay list old new
    same_stay apart last =
        let same : old ≡ new = equal old new apart.0 apart.1 (sym was ∙ ap (part_seal a.log) (sym last) ∙ now) in
        subst (TwoStay list old) same (all_stay Facts list (digests_of atom_digest old.atoms), all_stay SealedKeys list (keys_of old.atoms))

    proved_stay : (is : List GrowthItem) → AreApart old new (part_proof a.log (own_of n is)) → IsSiteSeal a → IsProved a b list n (own_of n is) → TwoStay list old new
    proved_stay is apart is_a p =
        let proof : IsProof (part_proof a.log (own_of n is)) = record { log = is_a.log; parts = p.form } in
        let seal = ap (part_seal a.log) has ∙ was in
        let told = (λ i. grown (sym seal i) (sym now i) (part_proof a.log (own_of n is)) list) ∙ p.grown_is in
        stay old new list p.text (growth old new (part_proof a.log (own_of n is)) list p.text proof apart.0 apart.1 told)

  pub parts_stay : PartsStay
  parts_stay a b g k list text olds news is_a is_g old_roots new_roots e n r has apart stay_apart =
      record { facts = kept.0; keys = kept.1; held = here }
    where
      u : (first_fault a b g k ≡ None) × ((s : List ℕ) × (grown_text a b list g.items ≡ Ok s))
      u = not_refused (first_fault a b g k) (grown_text a b list g.items) (other_lines a b list) text e

      h : (head_fault a b g ≡ None) × (option_or (kept_fault a.unit k) (option_or (gone_fault a b k) (needed_fault a b g)) ≡ None)
      h = neither_fault (head_fault a b g) _ u.0

      w : (gone_fault a b k ≡ None) × (needed_fault a b g ≡ None)
      w = neither_fault (gone_fault a b k) _ (neither_fault (kept_fault a.unit k) _ h.1).1

      logs : b.log ≡ a.log
      logs = same_log 2 a.log b.log a.unit b.unit (neither_fault (input_fault 2 a.log a.unit b.log b.unit) _ h.0).0

      one : IsHeld (λ i. went_name k a.items b.items i ≡ None) n r
      one = held_item (λ i. went_name k a.items b.items i ≡ None) n r a.items has
          (none_least (went_name k a.items b.items) None a.items (none_mapped fault.Gone _ w.0)).1

      two : IsHeld (λ i. lacking_name b.items g.items i ≡ None) n r
      two = held_item (λ i. lacking_name b.items g.items i ≡ None) n r a.items has
          (none_least (lacking_name b.items g.items) None a.items (none_shown b.items _ _ w.1)).1

      was : part_seal a.log (Some r) ≡ seal_of (olds n)
      was = old_roots n r has

      now : part_seal a.log (last_roots n b.items) ≡ seal_of (news n)
      now = ap (λ l. part_seal l (last_roots n b.items)) (sym logs) ∙ new_roots n

      has_one : is_unchanged (Some r) (last_roots n b.items) ≡ false → has_proof n g.items ≡ true
      has_one is =
          let other = (λ i. is_unchanged (Some (two.roots i)) (last_roots (two.name i) b.items)) ∙ is in
          ap (λ m. has_proof m g.items) (sym two.name) ∙ needed _ (has_proof two.part.name g.items) (no_name _ two.part.name two.is) other

      by : (z : Bool) → is_unchanged (Some r) (last_roots n b.items) ≡ z → TwoStay list (olds n) (news n)
      by true is = same_stay a b list n r (olds n) (news n) has was now stay_apart (roots_same r (last_roots n b.items) is)
      by false is =
          proved_stay a b list n r (olds n) (news n) has was now g.items apart is_a
          (proved a b list n g.unit growth_items.start g.items u.1.0 is_g.items u.1.1 (has_one is))

      kept : TwoStay list (olds n) (news n)
      kept = by (is_unchanged (Some r) (last_roots n b.items)) refl

      here : is_allowed k n ≡ false → held_roots n b.items ≡ last_roots n b.items
      here f =
          still_held (held_roots n b.items) (gone_roots n b.items) (is_allowed k n)
          ((λ i. not (is_some (held_roots (sym one.name i) b.items)) && (is_some (gone_roots (sym one.name i) b.items) && not (is_allowed k (sym one.name i))))
          ∙ no_name _ one.part.name one.is) f
