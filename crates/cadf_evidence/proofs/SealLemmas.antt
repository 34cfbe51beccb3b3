-- The lines of a seal's file: that they are a kind of file, and how they are read one by one.
use Rattle.cadf_evidence.proofs.Common.{◌≡◌, ℕ, ◌<◌, ◌^◌, List, [], ◌∷◌, true, true≢false, Some, None, refl, sym, ap, arith, common_steps, codes, is_some, unwrap_or, Text, is_name_text, IsNameText, unbroken_quoted, AreAfter, and_true, are_unbroken, shape_none, there, Ends, Follows, IsModelKind, Plain, accepts-models, lines_of, models-tell, name_is, decimal_unbroken, unbroken_digest, good_log, shape_unless, AcceptsModels, log_line, with_digest_line, Shape, unbroken_digest_of, IsDigest, Root, number_after, digest_after, SealModel, seal_header, seal_body, number_line, digest_line, IsRoot, IsSeal, SealFileIsInjective, seal_kind, seal_model_in, IsPut, Nothing, Count, KeyCount, Whole}
use Rattle.cadf_evidence.specs.declared.seal_lines.Told.TheVariants.{Facts}
use Rattle.cadf_evidence.proofs.MarkedLemmas.{number_after-again, number_after-only, digest_after-again, digest_after-only}

-- ---- lines that may follow each other are those of a seal

abbrev After : List Plain → List Plain → Type 0
After before xs = AreAfter (Follows seal_kind) (Ends seal_kind) before xs

-- a number, or a digest, that is there
found_number : (mark l : List ℕ) → shape_unless (is_some (number_after mark l)) ≡ None → (n : ℕ) × (l ≡ number_line mark n) × (n < 2 ^ 64)
found_number mark l e =
    let a = there (number_after mark l) (shape_none _ e) in
    let p = number_after-only mark l a.0 a.1 in
    (a.0, p.0, p.1)

found_digest : (mark l : List ℕ) → shape_unless (is_some (digest_after mark l)) ≡ None → (d : Text) × (l ≡ digest_line mark d) × IsDigest d
found_digest mark l e =
    let a = there (digest_after mark l) (shape_none _ e) in
    let p = digest_after-only mark l a.0 a.1 in
    (a.0, p.0, p.1)

seal_found : (name : Text) (xs : List Plain) → is_name_text name ≡ true → After [] xs
    → (s : SealModel) × (seal_header ∷ log_line name ∷ lines_of xs ≡ seal_body s) × IsSeal s
seal_found name [] named h = absurd (true≢false (sym h))
seal_found name (w ∷ []) named h = absurd (true≢false (sym h.1))
seal_found name (w ∷ x ∷ []) named h = absurd (true≢false (sym h.1.1))
seal_found name (w ∷ x ∷ y ∷ []) named h = absurd (true≢false (sym h.1.1.1))
seal_found name (w ∷ x ∷ y ∷ z ∷ []) named h =
    let n = found_number (codes "N ") w.0 h.0 in
    let r = found_digest (codes "R ") x.0 h.1.0 in
    let m = found_number (codes "M ") y.0 h.1.1.0 in
    let s = found_digest (codes "S ") z.0 h.1.1.1.0 in (
      record { log = name; facts = record { count = n.0; hash = r.0 }; keys = record { count = m.0; hash = s.0 } },
      (λ i. seal_header ∷ log_line name ∷ n.1 i ∷ r.1 i ∷ m.1 i ∷ s.1 i ∷ []),
      record { log = named; facts = record { count = n.2; hash = r.2 }; keys = record { count = m.2; hash = s.2 } },
    )
seal_found name (v ∷ w ∷ x ∷ y ∷ z ∷ zs) named h = absurd (none_after h.1.1.1.1.0)
  where
    none_after : Some Shape ≡ None → ⊥
    none_after e = cc

-- ---- and the lines of a seal may follow each other

abbrev pub plains : SealModel → List Plain
plains s =
    (number_line (codes "N ") s.facts.count, refl)
    ∷ (digest_line (codes "R ") s.facts.hash, refl)
    ∷ (number_line (codes "M ") s.keys.count, refl)
    ∷ (digest_line (codes "S ") s.keys.hash, refl)
    ∷ []

plains_follow : (s : SealModel) → IsSeal s → After [] (plains s)
plains_follow s is = (
  ap (λ o. shape_unless (is_some o)) (number_after-again (codes "N ") s.facts.count is.facts.count),
  (
    ap (λ o. shape_unless (is_some o)) (digest_after-again (codes "R ") s.facts.hash is.facts.hash),
    (
      ap (λ o. shape_unless (is_some o)) (number_after-again (codes "M ") s.keys.count is.keys.count),
      (ap (λ o. shape_unless (is_some o)) (digest_after-again (codes "S ") s.keys.hash is.keys.hash), refl),
    ),
  ),
)

-- ---- no line contains a line feed

unbroken_seal : (s : SealModel) → IsSeal s → are_unbroken (with_digest_line (seal_body s)) ≡ true
unbroken_seal s is = grind (arith, common_steps, and_true, unbroken_quoted, decimal_unbroken, unbroken_digest_of, unbroken_digest)

-- ---- the lines determine the seal

seal_again : (s : SealModel) → IsSeal s → seal_model_in (with_digest_line (seal_body s)) ≡ s
seal_again s is =
    let log = good_log s.log is.log in
    let n = number_after-again (codes "N ") s.facts.count is.facts.count in
    let r = digest_after-again (codes "R ") s.facts.hash is.facts.hash in
    let m = number_after-again (codes "M ") s.keys.count is.keys.count in
    let t = digest_after-again (codes "S ") s.keys.hash is.keys.hash in
    λ i. record {
      log = unwrap_or (log i) [];
      facts = record { count = unwrap_or (n i) 0; hash = unwrap_or (r i) [] };
      keys = record { count = unwrap_or (m i) 0; hash = unwrap_or (t i) [] };
    }

seal_is_kind : IsModelKind seal_kind IsSeal (λ s. s.log) plains
seal_is_kind = record {
  named = λ s is. is.log;
  lines = λ s. refl;
  unbroken = unbroken_seal;
  follow = plains_follow;
  again = seal_again;
  found = seal_found;
}

pub accepts-seals : AcceptsModels seal_kind IsSeal
accepts-seals = accepts-models seal_is_kind

pub seal-file-tells : SealFileIsInjective
seal-file-tells = models-tell seal_is_kind

-- the invariants of a seal's log and roots
pub seal_is : (s : SealModel) → IsNameText s.log → IsRoot s.facts × IsRoot s.keys → IsSeal s
seal_is s name roots = record { log = name_is s.log name; facts = roots.0; keys = roots.1 }

-- ---- one further line

put_number : (mark l : List ℕ) (n : ℕ) → Some n ≡ number_after mark l
    → (shape_unless (is_some (number_after mark l)) ≡ None) × (number_line mark n ≡ l) × (n < 2 ^ 64)
put_number mark l n e =
    let p = number_after-only mark l n (sym e) in
    (ap (λ o. shape_unless (is_some o)) (sym e), sym p.0, p.1)

put_digest : (mark l : List ℕ) (d : Text) → Some d ≡ digest_after mark l
    → (shape_unless (is_some (digest_after mark l)) ≡ None) × (digest_line mark d ≡ l) × IsDigest d
put_digest mark l d e =
    let p = digest_after-only mark l d (sym e) in
    (ap (λ o. shape_unless (is_some o)) (sym e), sym p.0, p.1)

pub count_put : (l : List ℕ) (n : ℕ) → Some n ≡ number_after (codes "N ") l → IsPut Nothing l (Some (Count n))
count_put l n e =
    let p = put_number (codes "N ") l n e in
    (p.0, ap (λ x. x ∷ []) p.1, p.2)

pub facts_put : (l : List ℕ) (n : ℕ) (d : Text) → n < 2 ^ 64 → Some d ≡ digest_after (codes "R ") l
    → IsPut (Count n) l (Some (Facts (record { count = n; hash = d })))
facts_put l n d small e =
    let p = put_digest (codes "R ") l d e in
    (p.0, ap (λ x. number_line (codes "N ") n ∷ x ∷ []) p.1, record { count = small; hash = p.2 })

pub key_count_put : (l : List ℕ) (r : Root) (n : ℕ) → IsRoot r → Some n ≡ number_after (codes "M ") l → IsPut (Facts r) l (Some (KeyCount r n))
key_count_put l r n is e =
    let p = put_number (codes "M ") l n e in
    (p.0, ap (λ x. number_line (codes "N ") r.count ∷ digest_line (codes "R ") r.hash ∷ x ∷ []) p.1, (is, p.2))

pub whole_put : (l : List ℕ) (r : Root) (n : ℕ) (d : Text) → IsRoot r × (n < 2 ^ 64) → Some d ≡ digest_after (codes "S ") l
    → IsPut (KeyCount r n) l (Some (Whole r (record { count = n; hash = d })))
whole_put l r n d is e =
    let p = put_digest (codes "S ") l d e in (
      p.0,
      ap (λ x. number_line (codes "N ") r.count ∷ digest_line (codes "R ") r.hash ∷ number_line (codes "M ") n ∷ x ∷ []) p.1,
      (is.0, record { count = is.1; hash = p.2 }),
    )
