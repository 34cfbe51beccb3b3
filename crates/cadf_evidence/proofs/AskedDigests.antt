-- Which digests are asked for doesn't depend on their order.
use Rattle.cadf_evidence.proofs.Common.{◌≡◌, ◌∙◌, ◌&&◌, ◌||◌, Bool, true, false, List, [], ◌∷◌, map, Option, Some, None, inl, inr, refl, ap, sym, subst, true≢false, list_any, option_or, false_from_ne_true, Text, Contents, rising, Listed, text_same, text_total, texts_same, texts_total, listed-rising, rising-listed, digest_of_some, known_digest, listed_map, map_listed, atom_digest, digests_of, fault_unless, is_hash, tree_fault, all_asked, first_part, needs, shown, items, NotNeeded, Part, Root, ℕ, Result, Ok, Err, fact_digests, told, VerifyFaultIs, alone_fault, first_fault, refusal, text_unless, tree_refusal, verdict_on, VerifyFault, Asked, text_cmp, Texts, from_list_has, has_from_list, Proof, NotShown, Absent, Present, Memory}
use Rattle.cadf_join.specs.Sets as set

-- ---- lists with the same members

abbrev pub AreWithin : List Text → List Text → Type 0
AreWithin fs gs = (x : Text) → Listed x fs → Listed x gs

or_right : (a b : Bool) → b ≡ true → (a || b) ≡ true
or_right true b e = refl
or_right false b e = e

pub any_listed : (p : Text → Bool) (fs : List Text) → list_any p fs ≡ true → (x : Text) × Listed x fs × (p x ≡ true)
any_listed p [] e = absurd (true≢false (sym e))
any_listed p (y ∷ fs) e = by (p y) refl e (λ k. any_listed p fs k)
  where
    by : (b : Bool) → p y ≡ b → (b || list_any p fs) ≡ true → (list_any p fs ≡ true → (x : Text) × Listed x fs × (p x ≡ true))
        → (x : Text) × Listed x (y ∷ fs) × (p x ≡ true)
    by true is k more = (y, inl refl, is)
    by false is k more = let m = more k in (m.0, inr m.1, m.2)

pub listed_any : (p : Text → Bool) (fs : List Text) (x : Text) → Listed x fs → p x ≡ true → list_any p fs ≡ true
listed_any p [] x l h = absurd l
listed_any p (y ∷ fs) x (inl e) h = ap (λ b. b || list_any p fs) (ap p (sym e) ∙ h)
listed_any p (y ∷ fs) x (inr l) h = or_right (p y) (list_any p fs) (listed_any p fs x l h)

any_within : (p : Text → Bool) (fs gs : List Text) → AreWithin fs gs → list_any p fs ≡ true → list_any p gs ≡ true
any_within p fs gs w e = let m = any_listed p fs e in listed_any p gs m.0 (w m.0 m.1) m.2

pub any_same : (p : Text → Bool) (fs gs : List Text) → AreWithin fs gs → AreWithin gs fs → list_any p fs ≡ list_any p gs
any_same p fs gs w v = by (list_any p fs) refl
  where
    by : (b : Bool) → list_any p fs ≡ b → list_any p fs ≡ list_any p gs
    by true is = is ∙ sym (any_within p fs gs w is)
    by false is = is ∙ sym (false_from_ne_true (list_any p gs) (λ h. true≢false (sym (any_within p gs fs v h) ∙ is)))

asked_same : (before : Option Part) (ps : List Part) (fs gs : List Text) → AreWithin fs gs → AreWithin gs fs → all_asked before ps fs ≡ all_asked before ps gs
asked_same before [] fs gs w v = refl
asked_same before (x ∷ ps) fs gs w v =
    λ i. (is_hash x || any_same (needs before x (first_part ps)) fs gs w v i) && asked_same (Some x) ps fs gs w v i

shown_same : (r : Root) (ps : List Part) (fs gs : List Text) → AreWithin fs gs → AreWithin gs fs → shown r ps fs ≡ shown r ps gs
shown_same r ps fs gs w v = ap (λ b. option_or (tree_fault r r ps) (fault_unless b NotNeeded)) (asked_same None (items ps) fs gs w v)

-- ---- digests of facts

pub digests_within : (s : Contents) → AreWithin (map atom_digest (rising s)) (fact_digests s)
digests_within s x l =
    let m = map_listed atom_digest (rising s) x l in
    let has = known_digest atom_digest s m.0 (listed-rising texts_total texts_same s m.0 m.1) in
    rising-listed text_total text_same (digests_of atom_digest s) x (subst (λ d. set.contains (digests_of atom_digest s) d ≡ true) (sym m.2) has)

pub digests_around : (s : Contents) → AreWithin (fact_digests s) (map atom_digest (rising s))
digests_around s x l =
    let t = digest_of_some atom_digest s x (listed-rising text_total text_same (digests_of atom_digest s) x l) in
    subst (λ d. Listed d (map atom_digest (rising s))) (sym t.2) (listed_map atom_digest (rising s) t.0 (rising-listed texts_total texts_same s t.0 t.1))

-- ---- digests of keys

pub keys_within : (ds : List Text) → AreWithin ds (rising {R = text_cmp} (set.from_list ds))
keys_within ds x l = rising-listed text_total text_same (set.from_list ds) x (has_from_list text_total text_same ds x l)

pub keys_around : (ds : List Text) → AreWithin (rising {R = text_cmp} (set.from_list ds)) ds
keys_around ds x l = from_list_has text_total text_same ds x (listed-rising text_total text_same (set.from_list ds) x l)

-- ---- the verdict, by what is asked for in another order

fault_is : (e : VerifyFault) (r : Result (List ℕ) VerifyFault) → r ≡ Err e → VerifyFaultIs e r
fault_is Memory r h = tt
fault_is (Proof f) r h = h
fault_is (NotShown a k) r h = h
fault_is (Absent a k) r h = h
fault_is (Present a k) r h = h

module _ (a : Asked) (r : Root) (ps : List Part) (alone : Bool) (ws : List Text) (qs : List Texts) (absent : Bool)
    (to : AreWithin ws (map atom_digest qs)) (from : AreWithin (map atom_digest qs) ws) where
  verdict_is : verdict_on a r ps alone qs absent ≡ text_unless (refusal a r ps alone ws (map atom_digest qs) absent) (told absent qs)
  verdict_is =
      ap (λ o. text_unless (option_or (tree_refusal o) (option_or (alone_fault alone) (first_fault a absent ps 1 (map atom_digest qs)))) (told absent qs))
      (shown_same r ps (map atom_digest qs) ws from to)

  pub refused : (e : VerifyFault) → refusal a r ps alone ws (map atom_digest qs) absent ≡ Some e → VerifyFaultIs e (verdict_on a r ps alone qs absent)
  refused e h = fault_is e _ (verdict_is ∙ ap (λ o. text_unless o (told absent qs)) h)

  pub all_told : refusal a r ps alone ws (map atom_digest qs) absent ≡ None → verdict_on a r ps alone qs absent ≡ Ok (told absent qs)
  all_told h = verdict_is ∙ ap (λ o. text_unless o (told absent qs)) h
