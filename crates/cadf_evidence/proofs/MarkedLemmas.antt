-- A marked line decodes to what it encodes, and no other line does.
use Rattle.cadf_evidence.proofs.Common.{◌≡◌, ℕ, ◌<◌, ◌^◌, List, ◌++◌, length, take, drop, cond, Option, Some, None, refl, sym, ap, ◌∙◌, take-append-drop, take-append_seam, drop-append_seam, bytes_eq-Decides, option_and_then, decimal, bytes_eq, encode_lower, Text, IsDigest, number_in, chosen, number-again, number-only, digest_of, digest-again, digest-only, rest_after, number_after, digest_after, number_line, digest_line}

-- ---- what is after a mark

rest-again : (mark r : List ℕ) → rest_after mark (mark ++ r) ≡ Some r
unfolding rest_after
rest-again mark r =
    ap (λ b. cond b (Some (drop (length mark) (mark ++ r))) None)
    (ap (λ l. bytes_eq l mark) (take-append_seam mark r) ∙ (bytes_eq-Decides mark mark).1 refl)
    ∙ ap Some (drop-append_seam mark r)

rest-only : (mark l r : List ℕ) → rest_after mark l ≡ Some r → l ≡ mark ++ r
unfolding rest_after
rest-only mark l r e =
    let c = chosen (bytes_eq (take (length mark) l) mark) (Some (drop (length mark) l)) r e in
    let same : drop (length mark) l ≡ r = some_is _ r c.1 in
    sym (take-append-drop (length mark) l) ∙ (λ i. (bytes_eq-Decides (take (length mark) l) mark).0 c.0 i ++ same i)
  where
    some_is : (x y : List ℕ) → Some x ≡ Some y → x ≡ y
    some_is x y e = cc

-- what is decoded of the rest
record IsRead {A : Type 0} (f : List ℕ → Option A) (mark l : List ℕ) (a : A) : Type 0 where
  pub rest : List ℕ
  pub line : l ≡ mark ++ rest
  pub value : f rest ≡ Some a

read_after : {A : Type 0} (f : List ℕ → Option A) (mark l : List ℕ) (a : A) → option_and_then f (rest_after mark l) ≡ Some a → IsRead f mark l a
read_after {A = A} f mark l a e = by (rest_after mark l) refl e
  where
    by : (o : Option (List ℕ)) → rest_after mark l ≡ o → option_and_then f o ≡ Some a → IsRead f mark l a
    by None is k = absurd (cc)
    by (Some r) is k = record { rest = r; line = rest-only mark l r is; value = k }

-- ---- numbers and digests

pub number_after-again : (mark : List ℕ) (n : ℕ) → n < 2 ^ 64 → number_after mark (number_line mark n) ≡ Some n
unfolding number_after
number_after-again mark n small = ap (option_and_then number_in) (rest-again mark (decimal n)) ∙ number-again n small

pub number_after-only : (mark l : List ℕ) (n : ℕ) → number_after mark l ≡ Some n → (l ≡ number_line mark n) × (n < 2 ^ 64)
unfolding number_after
number_after-only mark l n e =
    let r = read_after number_in mark l n e in
    let p = number-only r.rest n r.value in
    (r.line ∙ ap (λ w. mark ++ w) p.0, p.1)

pub digest_after-again : (mark : List ℕ) (d : Text) → IsDigest d → digest_after mark (digest_line mark d) ≡ Some d
unfolding digest_after
digest_after-again mark d is = ap (option_and_then digest_of) (rest-again mark (encode_lower d)) ∙ digest-again d is

pub digest_after-only : (mark l : List ℕ) (d : Text) → digest_after mark l ≡ Some d → (l ≡ digest_line mark d) × IsDigest d
unfolding digest_after
digest_after-only mark l d e =
    let r = read_after digest_of mark l d e in
    let p = digest-only r.rest d r.value in
    (r.line ∙ ap (λ w. mark ++ w) p.0, p.1)
