-- A schedule with deltas results in the same sets as one with whole copies.
use Rattle.cadf_rehearsal.proofs.Common.{common_steps, ◌≡◌, ℕ, suc, ◌<◌, ◌≤◌, ◌≢◌, Bool, true, false, cond, List, [], ◌∷◌, refl, sym, ap, ◌∙◌, subst, inl, inr, arith, eq-eqb, eqb-true, ltb-true, leb-true, eqb-false, Result, Ok, Err, nat_eq, nat_lt, Text, Texts, Contents, Has, IsWithin, texts_total, texts_same, IsGrounded, missing, missing_by, digests_of, unknown, NoCollision, document_atoms, DocumentParts, Turn, Learn, Ask, Answer, Send, Deliver, RehearseFault, WrongAddressee, Message, Inventory, PartFor, Whole, World, start, with_at, adds, makes, is_message, is_of_log, Means, delivered, answered, world_after_turn, next, after, made_by, plain, carried, learnt_atoms, missing_within, missing_by_is, part_suffices, missing_or_held, with_carriers_least, unknown_has, grounded_union, grounded_empty, document_grounded}
use Rattle.cadf_join.specs.Sets as set
use Rattle.cadf_join.proofs.Members as members
use Rattle.cadf_join.specs.laws.Sets as laws

cond_ok : {A C : Type 0} (b : Bool) (r : Result A C) (c : C) (x : A) → cond b r (Err c) ≡ Ok x → (b ≡ true) × (r ≡ Ok x)
cond_ok b r c x h = grind (arith, common_steps)

Ok-same : {A C : Type 0} (x y : A) → ◌≡◌ {A = Result A C} (Ok x) (Ok y) → x ≡ y
Ok-same x y h = cc

-- ---- a property of each plain set, if each document has it and unions preserve it

-- P is true of each document
abbrev AllLearnt : (DocumentParts → Type 0) → List Turn → Type 0
AllLearnt P [] = Unit {0}
AllLearnt P (Learn k d ∷ earlier) = P d × AllLearnt P earlier
AllLearnt P (Ask k ∷ earlier) = AllLearnt P earlier
AllLearnt P (Answer k m ∷ earlier) = AllLearnt P earlier
AllLearnt P (Send k ∷ earlier) = AllLearnt P earlier
AllLearnt P (Deliver m k ∷ earlier) = AllLearnt P earlier

module _ (P : Contents → Type 0) (none : P set.empty) (both : (s t : Contents) → P s → P t → P (set.union s t)) where
  pick : (b : Bool) (s t : Contents) → P s → P t → P (cond b s t)
  pick true s t h k = h
  pick false s t h k = k

  mutual
    pub plain_has : (turns : List Turn) → AllLearnt (λ d. P (document_atoms d)) turns → (j : ℕ) → P (plain turns j)
    plain_has [] h j = none
    plain_has (Learn k d ∷ e) h j = pick (nat_eq k j) _ _ (both _ _ (plain_has e h.1 j) h.0) (plain_has e h.1 j)
    plain_has (Ask k ∷ e) h j = plain_has e h j
    plain_has (Answer k m ∷ e) h j = plain_has e h j
    plain_has (Send k ∷ e) h j = plain_has e h j
    plain_has (Deliver m k ∷ e) h j = pick (nat_eq k j) _ _ (both _ _ (plain_has e h j) (carried_has e h m)) (plain_has e h j)

    pub carried_has : (turns : List Turn) → AllLearnt (λ d. P (document_atoms d)) turns → (m : ℕ) → P (carried turns m)
    carried_has [] h m = none
    carried_has (Learn k d ∷ e) h m = carried_has e h.1 m
    carried_has (Ask k ∷ e) h m = pick (nat_eq m (suc (made_by e))) _ _ none (carried_has e h m)
    carried_has (Answer k i ∷ e) h m = pick (nat_eq m (suc (made_by e))) _ _ (plain_has e h k) (carried_has e h m)
    carried_has (Send k ∷ e) h m = pick (nat_eq m (suc (made_by e))) _ _ (plain_has e h k) (carried_has e h m)
    carried_has (Deliver i k ∷ e) h m = carried_has e h m

each_learnt : (P : DocumentParts → Type 0) → ((d : DocumentParts) → P d) → (turns : List Turn) → AllLearnt P turns
each_learnt P h [] = tt
each_learnt P h (Learn k d ∷ e) = (h d, each_learnt P h e)
each_learnt P h (Ask k ∷ e) = each_learnt P h e
each_learnt P h (Answer k m ∷ e) = each_learnt P h e
each_learnt P h (Send k ∷ e) = each_learnt P h e
each_learnt P h (Deliver m k ∷ e) = each_learnt P h e

pub plain_grounded : (turns : List Turn) (j : ℕ) → IsGrounded (plain turns j)
plain_grounded turns =
    plain_has IsGrounded grounded_empty grounded_union turns (each_learnt (λ d. IsGrounded (document_atoms d)) document_grounded turns)

learnt_within : (turns : List Turn) (t : Contents) → IsWithin (learnt_atoms turns) t → AllLearnt (λ d. IsWithin (document_atoms d) t) turns
learnt_within [] t f = tt
learnt_within (Learn k d ∷ e) t f = (
  λ q h. f q (members.in_union_left texts_total texts_same _ _ q h),
  learnt_within e t
      (λ q h. f q (members.in_union_right texts_total texts_same (document_atoms d) _ q h)),
)
learnt_within (Ask k ∷ e) t f = learnt_within e t f
learnt_within (Answer k m ∷ e) t f = learnt_within e t f
learnt_within (Send k ∷ e) t f = learnt_within e t f
learnt_within (Deliver m k ∷ e) t f = learnt_within e t f

pub plain_learnt : (turns : List Turn) (j : ℕ) → IsWithin (plain turns j) (learnt_atoms turns)
plain_learnt turns =
    plain_has (λ s. IsWithin s (learnt_atoms turns)) (laws.IsWithin-empty (learnt_atoms turns)) (λ s t f g. laws.IsWithin-union texts_total s t _ f g) turns
    (learnt_within turns _ (laws.IsWithin-refl _))

pub learnt_grows : (t : Turn) (e : List Turn) → IsWithin (learnt_atoms e) (learnt_atoms (t ∷ e))
learnt_grows (Learn k d) e = laws.IsWithin-right texts_total (document_atoms d) _
learnt_grows (Ask k) e = laws.IsWithin-refl _
learnt_grows (Answer k m) e = laws.IsWithin-refl _
learnt_grows (Send k) e = laws.IsWithin-refl _
learnt_grows (Deliver m k) e = laws.IsWithin-refl _

either_within : (b : Bool) (s t : Contents) → IsWithin s (cond b (set.union s t) s)
either_within true s t = laws.IsWithin-left texts_total s t
either_within false s t = laws.IsWithin-refl s

pub plain_grows : (t : Turn) (e : List Turn) (j : ℕ) → IsWithin (plain e j) (plain (t ∷ e) j)
plain_grows t e j = grind (arith, common_steps, either_within)

other : (m n : ℕ) (s t : Contents) → m ≤ n → cond (nat_eq m (suc n)) s t ≡ t
other m n s t h = grind (arith, common_steps)

this : (n : ℕ) (s t : Contents) → cond (nat_eq (suc n) (suc n)) s t ≡ s
this n s t = ap (λ b. cond b s t) (eq-eqb (suc n) (suc n) refl)

pub carried_stays : (t : Turn) (e : List Turn) (m : ℕ) → m ≤ made_by e → carried (t ∷ e) m ≡ carried e m
carried_stays t e m h = grind (arith, common_steps)

is_message_at : (w : World) (m : ℕ) → is_message w m ≡ true → (0 < m) × (m ≤ w.made)
is_message_at w m h = (ltb-true 0 m (members.and_first _ _ h), leb-true m w.made (members.and_second (nat_lt 0 m) _ h))

module _ (digest : Texts → Text) where
  -- ---- the meaning of a message, if no two atoms share a digest
  pub record Kept (turns : List Turn) (w : World) : Type 0 where
    pub made_is : w.made ≡ made_by turns
    pub sites_are : (j : ℕ) → w.sites j ≡ plain turns j
    pub mean : (m : ℕ) → 0 < m → m ≤ w.made → Means digest turns m (w.messages m)

  means_later : (t : Turn) (e : List Turn) (m : ℕ) (x : Message) → m ≤ made_by e → Means digest e m x → Means digest (t ∷ e) m x
  means_later t e m (Inventory a d) le h = (carried_stays t e m le ∙ h.0, (h.1.0, h.1.1, λ q k. plain_grows t e a q (h.1.2 q k)))
  means_later t e m (PartFor a p) le h = (
    subst (λ c. IsWithin p c) (sym (carried_stays t e m le)) h.0,
    λ q k. elim (h.1 q (subst (λ c. Has c q) (carried_stays t e m le) k)) [ inl x ↦ inl (plain_grows t e a q x) | inr x ↦ inr x ],
  )
  means_later t e m (Whole s) le h = h ∙ sym (carried_stays t e m le)

  kept_start : Kept [] start
  kept_start = record { made_is = refl; sites_are = λ j. refl; mean = λ m pos le. refl }

  module _ (t : Turn) (e : List Turn) (w : World) (kept : Kept e w) where
    kept_same : made_by (t ∷ e) ≡ made_by e → ((j : ℕ) → plain e j ≡ plain (t ∷ e) j) → Kept (t ∷ e) w
    kept_same m p = record {
      made_is = kept.made_is ∙ sym m;
      sites_are = λ j. kept.sites_are j ∙ p j;
      mean = λ i pos le. means_later t e i (w.messages i) (subst (λ n. i ≤ n) kept.made_is le) (kept.mean i pos le);
    }

    kept_adds : (k : ℕ) (s : Contents) → made_by (t ∷ e) ≡ made_by e → ((j : ℕ) → with_at w.sites k (set.union (w.sites k) s) j ≡ plain (t ∷ e) j)
        → Kept (t ∷ e) (adds w k s)
    kept_adds k s m p = record {
      made_is = kept.made_is ∙ sym m;
      sites_are = p;
      mean = λ i pos le. means_later t e i (w.messages i) (subst (λ n. i ≤ n) kept.made_is le) (kept.mean i pos le);
    }

    message_at : (x : Message) (m : ℕ) (b : Bool) → nat_eq (suc w.made) m ≡ b → Means digest (t ∷ e) (suc (made_by e)) x → 0 < m → m ≤ suc w.made
        → Means digest (t ∷ e) m (cond b x (w.messages m))
    message_at x m true same new pos le = subst (λ n. Means digest (t ∷ e) n x) (ap suc (sym kept.made_is) ∙ eqb-true (suc w.made) m same) new
    message_at x m false differs new pos le =
        let ne : suc w.made ≢ m = eqb-false (suc w.made) m differs in
        let old : m ≤ w.made = omega arith in
        means_later t e m (w.messages m) (subst (λ n. m ≤ n) kept.made_is old) (kept.mean m pos old)

    kept_makes : (x : Message) → made_by (t ∷ e) ≡ suc (made_by e) → ((j : ℕ) → plain e j ≡ plain (t ∷ e) j) → Means digest (t ∷ e) (suc (made_by e)) x
        → Kept (t ∷ e) (makes w x)
    kept_makes x m p new = record {
      made_is = ap suc kept.made_is ∙ sym m;
      sites_are = λ j. kept.sites_are j ∙ p j;
      mean = λ i pos le. message_at x i (nat_eq (suc w.made) i) refl new pos le;
    }

  -- site k gets a set that equals s there, and the others keep theirs
  taken_at : (e : List Turn) (w : World) (kept : Kept e w) (k : ℕ) (p s : Contents) → set.union (plain e k) p ≡ set.union (plain e k) s → (j : ℕ)
      → with_at w.sites k (set.union (w.sites k) p) j ≡ cond (nat_eq k j) (set.union (plain e j) s) (plain e j)
  taken_at e w kept k p s is j = by (nat_eq k j) refl
    where
      by : (b : Bool) → nat_eq k j ≡ b → cond b (set.union (w.sites k) p) (w.sites j) ≡ cond b (set.union (plain e j) s) (plain e j)
      by true same = ap (λ x. set.union x p) (kept.sites_are k) ∙ is ∙ ap (λ i. set.union (plain e i) s) (eqb-true k j same)
      by false differs = kept.sites_are j

  module _ (log : Text) (sites : ℕ) where
    kept_delivered : (n : ℕ) (e : List Turn) (w v : World) (m k : ℕ) (x : Message) → Kept e w → Means digest e m x → delivered n w k x ≡ Ok v
        → Kept (Deliver m k ∷ e) v
    kept_delivered n e w v m k (Inventory a d) kept means is =
        subst (Kept (Deliver m k ∷ e)) (Ok-same _ _ is) (kept_same (Deliver m k) e w kept refl (λ j. sym (nothing (nat_eq k j) (plain e j))))
      where
        nothing : (b : Bool) (s : Contents) → cond b (set.union s (carried e m)) s ≡ s
        nothing true s = ap (set.union s) means.0 ∙ laws.union-within texts_total texts_same s _ (laws.IsWithin-empty s)
        nothing false s = refl
    kept_delivered n e w v m k (PartFor a p) kept means is =
        let h = cond_ok (nat_eq a k) (Ok (adds w k p)) (WrongAddressee n) v is in
        subst (Kept (Deliver m k ∷ e)) (Ok-same _ _ h.1) (kept_adds (Deliver m k) e w kept k p refl (taken_at e w kept k p (carried e m)
        (part_suffices (carried e m) (plain e k) p means.0
        (λ q c. elim (means.1 q c) [ inl x ↦ inl (subst (λ i. Has (plain e i) q) (eqb-true a k h.0) x) | inr x ↦ inr x ]))))
    kept_delivered n e w v m k (Whole s) kept means is =
        subst (Kept (Deliver m k ∷ e)) (Ok-same _ _ is)
        (kept_adds (Deliver m k) e w kept k s refl (taken_at e w kept k s (carried e m) (ap (set.union (plain e k)) means)))

    kept_answered : (n : ℕ) (e : List Turn) (w v : World) (j m : ℕ) (x : Message) → NoCollision digest (learnt_atoms e) → Kept e w
        → Means digest e m x → answered digest log sites n w j x ≡ Ok v → Kept (Answer j m ∷ e) v
    kept_answered n e w v j m (Inventory a d) apart kept means is =
        let b = means.1.0 in
        let own = plain e j in
        let near : NoCollision digest (set.union own b) = λ x y h k. apart x y (within_both x h) (within_both y k) in
        let part_is : missing_by digest (w.sites j) d ≡ missing own b =
        (λ i. missing_by digest (kept.sites_are j i) (means.1.1 i)) ∙ missing_by_is digest own b near in
        subst (Kept (Answer j m ∷ e)) (Ok-same _ _ is) (kept_makes (Answer j m) e w kept _ refl (λ i. refl) (
          subst (λ c. IsWithin (missing_by digest (w.sites j) d) c) (sym (this (made_by e) own _))
              (subst (λ p. IsWithin p own) (sym part_is) (missing_within own b (plain_grounded e j))),
          λ q h. elim (missing_or_held own b q (subst (λ c. Has c q) (this (made_by e) own _) h)) [
            | inl k ↦ inl (means.1.2 q k)
            | inr k ↦ inr (subst (λ p. Has p q) (sym part_is) k)
          ],
        ))
      where
        within_both : (x : Texts) → Has (set.union (plain e j) means.1.0) x → Has (learnt_atoms e) x
        within_both = laws.IsWithin-union texts_total (plain e j) means.1.0 _ (plain_learnt e j) (λ q h. plain_learnt e a q (means.1.2 q h))
    kept_answered n e w v j m (PartFor a p) apart kept means is = cc
    kept_answered n e w v j m (Whole s) apart kept means is = cc

    kept_turn : (n : ℕ) (t : Turn) (e : List Turn) (w v : World) → NoCollision digest (learnt_atoms e) → Kept e w
        → world_after_turn digest log sites n w t ≡ Ok v → Kept (t ∷ e) v
    kept_turn n (Learn j d) e w v apart kept is =
        let h = cond_ok (is_of_log log d.log) _ _ v (cond_ok (nat_lt j sites) _ _ v is).1 in
        subst (Kept (Learn j d ∷ e)) (Ok-same _ _ h.1)
        (kept_adds (Learn j d) e w kept j (document_atoms d) refl (taken_at e w kept j (document_atoms d) (document_atoms d) refl))
    kept_turn n (Ask j) e w v apart kept is =
        subst (Kept (Ask j ∷ e)) (Ok-same _ _ (cond_ok (nat_lt j sites) _ _ v is).1) (kept_makes (Ask j) e w kept _ refl (λ i. refl)
        (this (made_by e) _ _, (plain e j, ap (digests_of digest) (kept.sites_are j), laws.IsWithin-refl _)))
    kept_turn n (Answer j m) e w v apart kept is =
        let h = cond_ok (is_message w m) _ _ v (cond_ok (nat_lt j sites) _ _ v is).1 in
        let r = is_message_at w m h.0 in
        kept_answered n e w v j m (w.messages m) apart kept (kept.mean m r.0 r.1) h.1
    kept_turn n (Send j) e w v apart kept is =
        subst (Kept (Send j ∷ e)) (Ok-same _ _ (cond_ok (nat_lt j sites) _ _ v is).1)
        (kept_makes (Send j) e w kept _ refl (λ i. refl) (kept.sites_are j ∙ sym (this (made_by e) _ _)))
    kept_turn n (Deliver m j) e w v apart kept is =
        let h = cond_ok (is_message w m) _ _ v (cond_ok (nat_lt j sites) _ _ v is).1 in
        let r = is_message_at w m h.0 in
        kept_delivered n e w v m j (w.messages m) kept (kept.mean m r.0 r.1) h.1

    next_ok : (turn : ℕ) (t : Turn) (r : Result World RehearseFault) (v : World) → next digest log sites turn t r ≡ Ok v
        → (w : World) × (r ≡ Ok w) × (world_after_turn digest log sites turn w t ≡ Ok v)
    next_ok turn t (Ok w) v h = (w, refl, h)
    next_ok turn t (Err f) v h = cc

    pub kept_after : (turns : List Turn) (w : World) → NoCollision digest (learnt_atoms turns) → after digest log sites turns ≡ Ok w
        → Kept turns w
    kept_after [] w apart is = subst (Kept []) (Ok-same _ _ is) kept_start
    kept_after (t ∷ e) w apart is =
        let h = next_ok _ t (after digest log sites e) w is in
        let apart_before : NoCollision digest (learnt_atoms e) = λ x y a b. apart x y (learnt_grows t e x a) (learnt_grows t e y b) in
        kept_turn _ t e h.0 w apart_before (kept_after e h.0 apart_before h.1) h.2

    pub sites_are_plain : (turns : List Turn) (w : World) → NoCollision digest (learnt_atoms turns) → after digest log sites turns ≡ Ok w
        → (j : ℕ) → w.sites j ≡ plain turns j
    sites_are_plain turns w apart is = (kept_after turns w apart is).sites_are

    pub messages_mean : (turns : List Turn) (w : World) → NoCollision digest (learnt_atoms turns) → after digest log sites turns ≡ Ok w
        → (m : ℕ) → 0 < m → m ≤ w.made → Means digest turns m (w.messages m)
    messages_mean turns w apart is = (kept_after turns w apart is).mean

  -- ---- without that premise: each set is within its plain one
  abbrev pub MeansAtMost : List Turn → ℕ → Message → Type 0
  MeansAtMost turns m (Inventory a d) = Unit {0}
  MeansAtMost turns m (PartFor a p) = IsWithin p (carried turns m)
  MeansAtMost turns m (Whole s) = IsWithin s (carried turns m)

  pub record KeptWithin (turns : List Turn) (w : World) : Type 0 where
    pub made_is : w.made ≡ made_by turns
    pub sites_within : (j : ℕ) → IsWithin (w.sites j) (plain turns j)
    pub mean : (m : ℕ) → 0 < m → m ≤ w.made → MeansAtMost turns m (w.messages m)

  at_most_later : (t : Turn) (e : List Turn) (m : ℕ) (x : Message) → m ≤ made_by e → MeansAtMost e m x → MeansAtMost (t ∷ e) m x
  at_most_later t e m (Inventory a d) le h = tt
  at_most_later t e m (PartFor a p) le h = subst (λ c. IsWithin p c) (sym (carried_stays t e m le)) h
  at_most_later t e m (Whole s) le h = subst (λ c. IsWithin s c) (sym (carried_stays t e m le)) h

  within_start : KeptWithin [] start
  within_start = record { made_is = refl; sites_within = λ j. laws.IsWithin-refl _; mean = λ m pos le. laws.IsWithin-refl _ }

  module _ (t : Turn) (e : List Turn) (w : World) (kept : KeptWithin e w) where
    later : (i : ℕ) → 0 < i → i ≤ w.made → MeansAtMost (t ∷ e) i (w.messages i)
    later i pos le = at_most_later t e i (w.messages i) (subst (λ n. i ≤ n) kept.made_is le) (kept.mean i pos le)

    within_plain : (j : ℕ) → IsWithin (w.sites j) (plain (t ∷ e) j)
    within_plain j q h = plain_grows t e j q (kept.sites_within j q h)

    within_same : made_by (t ∷ e) ≡ made_by e → KeptWithin (t ∷ e) w
    within_same m = record { made_is = kept.made_is ∙ sym m; sites_within = within_plain; mean = later }

    within_adds : (k : ℕ) (s : Contents) → made_by (t ∷ e) ≡ made_by e → IsWithin s (plain (t ∷ e) k) → KeptWithin (t ∷ e) (adds w k s)
    within_adds k s m f = record { made_is = kept.made_is ∙ sym m; sites_within = λ j. by j (nat_eq k j) refl; mean = later }
      where
        by : (j : ℕ) (b : Bool) → nat_eq k j ≡ b → IsWithin (cond b (set.union (w.sites k) s) (w.sites j)) (plain (t ∷ e) j)
        by j true same =
            subst (λ i. IsWithin (set.union (w.sites k) s) (plain (t ∷ e) i)) (eqb-true k j same)
            (laws.IsWithin-union texts_total (w.sites k) s _ (within_plain k) f)
        by j false differs = within_plain j

    at_most_at : (x : Message) (m : ℕ) (b : Bool) → nat_eq (suc w.made) m ≡ b → MeansAtMost (t ∷ e) (suc (made_by e)) x → 0 < m → m ≤ suc w.made
        → MeansAtMost (t ∷ e) m (cond b x (w.messages m))
    at_most_at x m true same new pos le = subst (λ n. MeansAtMost (t ∷ e) n x) (ap suc (sym kept.made_is) ∙ eqb-true (suc w.made) m same) new
    at_most_at x m false differs new pos le =
        let ne : suc w.made ≢ m = eqb-false (suc w.made) m differs in
        let old : m ≤ w.made = omega arith in
        later m pos old

    within_makes : (x : Message) → made_by (t ∷ e) ≡ suc (made_by e) → MeansAtMost (t ∷ e) (suc (made_by e)) x → KeptWithin (t ∷ e) (makes w x)
    within_makes x m new =
        record { made_is = ap suc kept.made_is ∙ sym m; sites_within = within_plain; mean = λ i pos le. at_most_at x i (nat_eq (suc w.made) i) refl new pos le }

  module _ (log : Text) (sites : ℕ) where
    delivered_adds : (e : List Turn) (m k : ℕ) (s : Contents) → IsWithin s (carried e m) → IsWithin s (plain (Deliver m k ∷ e) k)
    delivered_adds e m k s f =
        subst (λ b. IsWithin s (cond b (set.union (plain e k) (carried e m)) (plain e k))) (sym (eq-eqb k k refl))
        (λ q h. members.in_union_right texts_total texts_same (plain e k) (carried e m) q (f q h))

    within_delivered : (n : ℕ) (e : List Turn) (w v : World) (m k : ℕ) (x : Message) → KeptWithin e w → MeansAtMost e m x → delivered n w k x ≡ Ok v
        → KeptWithin (Deliver m k ∷ e) v
    within_delivered n e w v m k (Inventory a d) kept means is = subst (KeptWithin (Deliver m k ∷ e)) (Ok-same _ _ is) (within_same (Deliver m k) e w kept refl)
    within_delivered n e w v m k (PartFor a p) kept means is =
        let h = cond_ok (nat_eq a k) (Ok (adds w k p)) (WrongAddressee n) v is in
        subst (KeptWithin (Deliver m k ∷ e)) (Ok-same _ _ h.1) (within_adds (Deliver m k) e w kept k p refl (delivered_adds e m k p means))
    within_delivered n e w v m k (Whole s) kept means is =
        subst (KeptWithin (Deliver m k ∷ e)) (Ok-same _ _ is) (within_adds (Deliver m k) e w kept k s refl (delivered_adds e m k s means))

    within_answered : (n : ℕ) (e : List Turn) (w v : World) (j m : ℕ) (x : Message) → KeptWithin e w
        → answered digest log sites n w j x ≡ Ok v → KeptWithin (Answer j m ∷ e) v
    within_answered n e w v j m (Inventory a d) kept is =
        subst (KeptWithin (Answer j m ∷ e)) (Ok-same _ _ is) (within_makes (Answer j m) e w kept _ refl (
        subst (λ c. IsWithin (missing_by digest (w.sites j) d) c) (sym (this (made_by e) (plain e j) _))
        (with_carriers_least (unknown digest (w.sites j) d) (plain e j)
        (plain_grounded e j, λ q h. kept.sites_within j q (unknown_has digest (w.sites j) d q h)))))
    within_answered n e w v j m (PartFor a p) kept is = cc
    within_answered n e w v j m (Whole s) kept is = cc

    within_turn : (n : ℕ) (t : Turn) (e : List Turn) (w v : World) → KeptWithin e w → world_after_turn digest log sites n w t ≡ Ok v
        → KeptWithin (t ∷ e) v
    within_turn n (Learn j d) e w v kept is =
        let h = cond_ok (is_of_log log d.log) _ _ v (cond_ok (nat_lt j sites) _ _ v is).1 in
        subst (KeptWithin (Learn j d ∷ e)) (Ok-same _ _ h.1) (within_adds (Learn j d) e w kept j (document_atoms d) refl
        (subst (λ b. IsWithin (document_atoms d) (cond b (set.union (plain e j) (document_atoms d)) (plain e j))) (sym (eq-eqb j j refl))
        (laws.IsWithin-right texts_total (plain e j) (document_atoms d))))
    within_turn n (Ask j) e w v kept is =
        subst (KeptWithin (Ask j ∷ e)) (Ok-same _ _ (cond_ok (nat_lt j sites) _ _ v is).1) (within_makes (Ask j) e w kept _ refl tt)
    within_turn n (Answer j m) e w v kept is =
        let h = cond_ok (is_message w m) _ _ v (cond_ok (nat_lt j sites) _ _ v is).1 in
        within_answered n e w v j m (w.messages m) kept h.1
    within_turn n (Send j) e w v kept is =
        subst (KeptWithin (Send j ∷ e)) (Ok-same _ _ (cond_ok (nat_lt j sites) _ _ v is).1) (within_makes (Send j) e w kept _ refl
        (subst (λ c. IsWithin (w.sites j) c) (sym (this (made_by e) (plain e j) _)) (kept.sites_within j)))
    within_turn n (Deliver m j) e w v kept is =
        let h = cond_ok (is_message w m) _ _ v (cond_ok (nat_lt j sites) _ _ v is).1 in
        let r = is_message_at w m h.0 in
        within_delivered n e w v m j (w.messages m) kept (kept.mean m r.0 r.1) h.1

    within_after : (turns : List Turn) (w : World) → after digest log sites turns ≡ Ok w → KeptWithin turns w
    within_after [] w is = subst (KeptWithin []) (Ok-same _ _ is) within_start
    within_after (t ∷ e) w is =
        let h = next_ok log sites _ t (after digest log sites e) w is in
        within_turn _ t e h.0 w (within_after e h.0 h.1) h.2

    pub sites_within_plain : (turns : List Turn) (w : World) → after digest log sites turns ≡ Ok w → (j : ℕ)
        → IsWithin (w.sites j) (plain turns j)
    sites_within_plain turns w is = (within_after turns w is).sites_within
