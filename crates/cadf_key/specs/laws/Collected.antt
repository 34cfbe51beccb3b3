-- Collecting the digests of keys in two parts is the same as at once.
use Rattle.std.specs.Prelude.{◌≡◌, ◌≤◌, ◌||◌, ℕ, zero, suc, Bool, true, false, cond, List, [], ◌∷◌, ◌++◌, take, drop, map, length}
use Rattle.std.proofs.Common.{refl, sym, ap, subst, ◌∙◌, arith}
use Rattle.std.proofs.lemmas.List.{map-append, take-take}
use Rattle.std.proofs.lemmas.List.Folds.{list_any-append}
use Rattle.std.specs.Ordering.{eq_by_cmp}
use mathlib.Core.Bool.{true≢false}
use Rattle.cadf_join.specs.Sets as set
use Rattle.cadf_join.specs.Sets.{contains-from_list, contains-union}
use Rattle.cadf_join.specs.laws.Sets as sets
use Rattle.cadf_join.specs.laws.Contents.{text_total, text_same}
use Rattle.cadf_join.specs.Contents.{Text, Texts, text_cmp}
use Rattle.cadf_line.specs.Digest.{atom_digest}
use Rattle.cadf_key.specs.Keys.{is_ruling, key_of, key_length, key_digest, digests_in, Collects, IsCollected}

pub digests_append : (xs ys : List Text) → digests_in (xs ++ ys) ≡ set.union (digests_in xs) (digests_in ys)
digests_append xs ys = set.same_set text_total text_same _ _ (λ q.
    contains-from_list text_total (xs ++ ys) q ∙ list_any-append (eq_by_cmp text_cmp q) xs ys
    ∙ sym (contains-union text_total (digests_in xs) (digests_in ys) q
    ∙ (λ i. contains-from_list text_total xs q i || contains-from_list text_total ys q i)))

pub collects_none : (u : List Text) → Collects u [] u
collects_none u = record {
  digests = sym (sets.union-within text_total text_same (digests_in u) (digests_in [])
      (λ q h. absurd (true≢false (sym h ∙ contains-from_list text_total [] q))));
  each = λ h. h;
}

pub collects_more : (u v w : List Text) (ps qs : List Texts) → Collects u ps v → Collects v qs w → Collects u (ps ++ qs) w
collects_more u v w ps qs f g = record {
  digests = g.digests ∙ ap (λ s. set.union s (digests_in (map key_digest qs))) f.digests
      ∙ sets.union-assoc text_total text_same (digests_in u) (digests_in (map key_digest ps)) (digests_in (map key_digest qs))
      ∙ ap (set.union (digests_in u))
      (sym (ap digests_in (map-append key_digest ps qs) ∙ digests_append (map key_digest ps) (map key_digest qs)));
  each = λ h. g.each (f.each h);
}

-- ---- the texts that decide a key

key_is_long : (q : Texts) → 2 ≤ key_length q
key_is_long q = by (is_ruling q)
  where
    by : (b : Bool) → 2 ≤ cond b 3 2
    by true = omega arith
    by false = omega arith

ruling_front : (n : ℕ) (q : Texts) → 1 ≤ n → is_ruling (take n q) ≡ is_ruling q
ruling_front zero q low = absurd (omega (arith, low))
ruling_front (suc n) [] low = refl
ruling_front (suc n) (x ∷ xs) low = refl

name_front : (n : ℕ) (q : Texts) → 3 ≤ n → take 2 (drop 1 (take n q)) ≡ take 2 (drop 1 q)
name_front zero q low = absurd (omega (arith, low))
name_front (suc n) [] low = refl
name_front (suc n) (x ∷ xs) low = take-take 2 n xs (omega (arith, low))

key_front : (n : ℕ) (q : Texts) → key_length q ≤ n → key_of (take n q) ≡ key_of q
key_front n q low =
    let long = key_is_long q in
    ap (λ b. cond b (take 2 (drop 1 (take n q))) (take 2 (take n q))) (ruling_front n q (omega (arith, low, long)))
    ∙ by (is_ruling q) low
  where
    by : (b : Bool) → cond b 3 2 ≤ n → cond b (take 2 (drop 1 (take n q))) (take 2 (take n q)) ≡ cond b (take 2 (drop 1 q)) (take 2 q)
    by true low = name_front n q low
    by false low = take-take 2 n q low

-- of no texts a key is known
pub none_decide : (q : Texts) → key_length q ≤ 0 → ⊥
none_decide q low = let long = key_is_long q in omega (arith, low, long)

-- a list that begins with the texts that decide the key of another one has its key
pub same_key : (before list : Texts) (n : ℕ) → n ≤ length before → take n before ≡ take n list → key_length list ≤ n
    → (key_length before ≤ length before) × (key_of before ≡ key_of list)
same_key before list n fits same low =
    let long = key_is_long list in
    let one : 1 ≤ n = omega (arith, low, long) in
    let ruling : is_ruling before ≡ is_ruling list = sym (ruling_front n before one) ∙ ap is_ruling same ∙ ruling_front n list one in
    let short : key_length before ≤ n = subst (λ b. cond b 3 2 ≤ n) (sym ruling) low in
    (omega (arith, short, fits), sym (key_front n before short) ∙ ap key_of same ∙ key_front n list low)

pub none_collected : (u : List Text) (q : Texts) → IsCollected u 0 q
none_collected u q low = absurd (none_decide q low)

pub collected_shared : (u : List Text) (before list : Texts) (n : ℕ) → IsCollected u (length before) before → n ≤ length before → n ≤ length list
    → take n before ≡ take n list → IsCollected u n list
collected_shared u before list n kept fits fits_list same low =
    let key = same_key before list n fits same low in
    subst (λ k. set.contains (digests_in u) (atom_digest k) ≡ true) key.1 (kept key.0)
