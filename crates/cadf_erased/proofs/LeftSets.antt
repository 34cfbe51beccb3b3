-- What of a set is left.
use Rattle.cadf_erased.proofs.Common.{◌≡◌, Bool, true, false, cond, [], ◌∷◌, refl, sym, ap, ◌∙◌, take, drop, arith, not, ◌&&◌, ◌||◌, ◌↔◌, common_steps, take-take, bytes_decides, Text, Texts, Contents, Has, IsWithin, text_total, texts_total, texts_same, IsGrounded, carrier, is_text, event_letter, ruling_letter, atom_digest, missing, missing_suffices, IsReplicaSet, is_ruling, key_digest, Names, fact_name, key_name, is_omitted, is_left, left, inl, inr, true≢false}
use Rattle.cadf_join.specs.Sets as set
use Rattle.cadf_join.proofs.Members as members
use Rattle.cadf_join.specs.laws.Sets as laws

-- ---- members

not_is : (b : Bool) → not b ≡ true → b ≡ false
not_is b h = grind (arith, common_steps)

pub in_left : (names : Names) (s : Contents) (q : Texts) → Has s q → is_omitted names q ≡ false → Has (left names s) q
in_left names s q h o = members.in_retain texts_total texts_same s (is_left names) q h (ap not o)

pub left_has : (names : Names) (s : Contents) (q : Texts) → Has (left names s) q → Has s q
left_has names s q h = members.retain_has texts_total texts_same s (is_left names) q h

pub left_passes : (names : Names) (s : Contents) (q : Texts) → Has (left names s) q → is_omitted names q ≡ false
left_passes names s q h = not_is (is_omitted names q) (members.retain_passes texts_total texts_same s (is_left names) q h)

pub left_exactly : (names : Names) (s : Contents) (q : Texts) → Has (left names s) q ↔ (Has s q × (is_omitted names q ≡ false))
left_exactly names s q = (λ h. (left_has names s q h, left_passes names s q h), λ h. in_left names s q h.0 h.1)

-- ---- carriers

-- a text isn't two letters
apart : (x : Text) → is_text x event_letter ≡ true → is_text x ruling_letter ≡ false
apart x h = ap (λ t. is_text t ruling_letter) ((bytes_decides x event_letter).0 h)

-- the carrier of an atom is omitted as the atom is
pub carrier_alike : (names : Names) (q : Texts) → is_omitted names (carrier q) ≡ is_omitted names q
carrier_alike names [] = refl
carrier_alike names (x ∷ xs) = by (is_text x event_letter) refl
  where
    q : Texts
    q = x ∷ xs

    omitted : Bool → Texts → Texts → Texts → Bool
    omitted ruling values first whole =
        set.contains names (key_name (atom_digest (cond ruling values first))) || (ruling && set.contains names (fact_name (atom_digest whole)))

    by : (b : Bool) → is_text x event_letter ≡ b → is_omitted names (cond b (take 3 q) q) ≡ is_omitted names q
    by false e = refl
    by true e =
        let r = apart x e in
        ap (λ b. omitted b (take 2 (drop 1 (take 3 q))) (take 2 (take 3 q)) (take 3 q)) r
        ∙ ap (λ k. set.contains names (key_name (atom_digest k)) || false) (take-take 2 3 q (omega arith))
        ∙ sym (ap (λ b. omitted b (take 2 (drop 1 q)) (take 2 q) q) r)

pub left_grounded : (names : Names) (s : Contents) → IsGrounded s → IsGrounded (left names s)
left_grounded names s g q h = in_left names s (carrier q) (g q (left_has names s q h)) (carrier_alike names q ∙ left_passes names s q h)

pub left_replica : (names : Names) (s : Contents) → IsReplicaSet s → IsReplicaSet (left names s)
left_replica names s h = record { grounded = left_grounded names s h.grounded; are_atoms = λ q g. h.are_atoms q (left_has names s q g) }

-- ---- sets made of others

same_sets : (s t : Contents) → IsWithin s t → IsWithin t s → s ≡ t
same_sets = laws.same_from_within texts_total texts_same

pub left-union : (names : Names) (s t : Contents) → left names (set.union s t) ≡ set.union (left names s) (left names t)
left-union names s t = same_sets _ _
    (λ q h.
    let o = left_passes names (set.union s t) q h in
    elim (members.of_union texts_total texts_same s t q (left_has names (set.union s t) q h)) [
      | inl g ↦ members.in_union_left texts_total texts_same _ _ q (in_left names s q g o)
      | inr g ↦ members.in_union_right texts_total texts_same _ _ q (in_left names t q g o)
    ])
    (λ q h. elim (members.of_union texts_total texts_same _ _ q h) [
      | inl g ↦ in_left names (set.union s t) q (members.in_union_left texts_total texts_same s t q (left_has names s q g)) (left_passes names s q g)
      | inr g ↦ in_left names (set.union s t) q (members.in_union_right texts_total texts_same s t q (left_has names t q g)) (left_passes names t q g)
    ])

pub left-again : (names : Names) (s : Contents) → left names (left names s) ≡ left names s
left-again names s = same_sets _ _
    (λ q h. left_has names (left names s) q h)
    (λ q h. in_left names (left names s) q h (left_passes names s q h))

-- what two lists omit is what their union omits
either : (a b r c d : Bool) → ((a || b) || (r && (c || d))) ≡ ((a || (r && c)) || (b || (r && d)))
either a b r c d = grind (arith, common_steps)

both_false : (a b : Bool) → (a || b) ≡ false → (a ≡ false) × (b ≡ false)
both_false a b h = grind (arith, common_steps)

omitted-union : (m n : Names) (q : Texts) → is_omitted (set.union m n) q ≡ (is_omitted m q || is_omitted n q)
omitted-union m n q =
    let k = key_name (key_digest q) in
    let f = fact_name (atom_digest q) in
    (λ i. set.contains-union text_total m n k i || (is_ruling q && set.contains-union text_total m n f i))
    ∙ either (set.contains m k) (set.contains n k) (is_ruling q) (set.contains m f) (set.contains n f)

pub left-lists : (m n : Names) (s : Contents) → left m (left n s) ≡ left (set.union m n) s
left-lists m n s = same_sets _ _
    (λ q h.
    let g = left_has m (left n s) q h in
    in_left (set.union m n) s q (left_has n s q g)
    (omitted-union m n q ∙ (λ i. left_passes m (left n s) q h i || left_passes n s q g i)))
    (λ q h.
    let o = both_false (is_omitted m q) (is_omitted n q) (sym (omitted-union m n q) ∙ left_passes (set.union m n) s q h) in
    in_left m (left n s) q (in_left n s q (left_has (set.union m n) s q h) o.1) o.0)

pub left-retain : (names : Names) (p : Texts → Bool) (s : Contents) → left names (set.retain s p) ≡ set.retain (left names s) p
left-retain names p s = same_sets _ _
    (λ q h.
    let g = left_has names (set.retain s p) q h in
    members.in_retain texts_total texts_same (left names s) p q
    (in_left names s q (members.retain_has texts_total texts_same s p q g) (left_passes names (set.retain s p) q h))
    (members.retain_passes texts_total texts_same s p q g))
    (λ q h.
    let g = members.retain_has texts_total texts_same (left names s) p q h in
    in_left names (set.retain s p) q
    (members.in_retain texts_total texts_same s p q (left_has names s q g) (members.retain_passes texts_total texts_same (left names s) p q h))
    (left_passes names s q g))

pub left_of_delta : (names : Names) (a b earlier : Contents) → IsGrounded a → IsWithin earlier b
    → left names (set.union b (missing a earlier)) ≡ set.union (left names b) (left names a)
left_of_delta names a b earlier g w = ap (left names) (missing_suffices a b earlier g w) ∙ left-union names b a

-- ---- what is named

pub no_key_left : (names : Names) (s : Contents) (q : Texts) → set.contains names (key_name (key_digest q)) ≡ true → Has (left names s) q → ⊥
no_key_left names s q h g =
    let o = both_false (set.contains names (key_name (key_digest q))) _ (left_passes names s q g) in
    true≢false (sym h ∙ o.0)

pub others_are_left : (names : Names) (s : Contents) (q : Texts) → set.contains names (key_name (key_digest q)) ≡ false → is_ruling q ≡ false → Has s q
    → Has (left names s) q
others_are_left names s q k r h =
    in_left names s q h (λ i. k i || (r i && set.contains names (fact_name (atom_digest q))))
