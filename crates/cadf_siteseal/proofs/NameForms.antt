-- The name of a part has no space and no line feed.
use Rattle.cadf_siteseal.proofs.Common.{◌≡◌, ◌∙◌, ℕ, List, [], ◌∷◌, length, Bool, true, false, true≢false, refl, sym, ap, subst, arith, ◌==◌, ◌||◌, nat_eq, not, list_any, eqb-true, nat_tests, common_steps, bytes_eq-Decides, is_unbroken, Text, is_text, both, and_true, has_blank, TimeUnit, Month, Day, Hour, shared, pattern, fits, all_fit, is_window, is_part}
use Rattle.cadf_siteseal.proofs.Words.{neither_of}

neither : (a b : Bool) → (a || b) ≡ false → (a ≡ false) × (b ≡ false)
neither a b e = grind (arith, common_steps)

-- a byte that stands at no place of the pattern
form_never : (b : ℕ) (p : List ℕ) (t : Text) → list_any (λ q. fits q b) p ≡ false → length p ≡ length t → all_fit p t ≡ true → list_any (λ x. x == b) t ≡ false
form_never b [] [] n s f = refl
form_never b [] (x ∷ t) n s f = absurd (omega (arith, s))
form_never b (q ∷ p) [] n s f = absurd (omega (arith, s))
form_never b (q ∷ p) (x ∷ t) n s f =
    let m = neither (fits q b) _ n in
    let g = both (fits q x) _ f in
    neither_of (x == b) _ (by (x == b) refl m.0 g.0) (form_never b p t m.1 (omega (arith, s)) g.1)
  where
    is_b : (x == b) ≡ true → x ≡ b
    is_b e = grind (arith, nat_tests)

    by : (z : Bool) → (x == b) ≡ z → fits q b ≡ false → fits q x ≡ true → (x == b) ≡ false
    by false e other fit = e
    by true e other fit = absurd (true≢false (sym fit ∙ ap (fits q) (is_b e) ∙ other))

window_never : (b : ℕ) (u : TimeUnit) (t : Text) → list_any (λ q. fits q b) (pattern u) ≡ false → is_window u t ≡ true → list_any (λ x. x == b) t ≡ false
window_never b u t n is =
    let p = both (nat_eq (length (pattern u)) (length t)) _ is in
    form_never b (pattern u) t n (eqb-true _ _ p.0) p.1

-- of a text that has none of a byte
none_broken : (t : Text) → list_any (λ x. x == 10) t ≡ false → is_unbroken t ≡ true
none_broken [] h = refl
none_broken (x ∷ t) h =
    let p = neither (x == 10) _ h in
    and_true (not (x == 10)) _ (ap not p.0) (none_broken t p.1)

no_blank : (u : TimeUnit) → list_any (λ q. fits q 32) (pattern u) ≡ false
no_blank Month = refl
no_blank Day = refl
no_blank Hour = refl

no_feed : (u : TimeUnit) → list_any (λ q. fits q 10) (pattern u) ≡ false
no_feed Month = refl
no_feed Day = refl
no_feed Hour = refl

pub window_unblank : (u : TimeUnit) (t : Text) → is_window u t ≡ true → has_blank t ≡ false
window_unblank u t is = window_never 32 u t (no_blank u) is

pub window_unbroken : (u : TimeUnit) (t : Text) → is_window u t ≡ true → is_unbroken t ≡ true
window_unbroken u t is = none_broken t (window_never 10 u t (no_feed u) is)

-- `shared`, or a window
part_case : (P : Text → Type 0) (u : TimeUnit) (t : Text) → P shared → (is_window u t ≡ true → P t) → is_part u t ≡ true → P t
part_case P u t one more is = by (is_text t shared) refl is
  where
    by : (b : Bool) → is_text t shared ≡ b → (b || is_window u t) ≡ true → P t
    by true e k = subst P (sym ((bytes_eq-Decides t shared).0 e)) one
    by false e k = more k

pub part_unblank : (u : TimeUnit) (t : Text) → is_part u t ≡ true → has_blank t ≡ false
part_unblank u t is = part_case (λ x. has_blank x ≡ false) u t refl (window_unblank u t) is

pub part_unbroken : (u : TimeUnit) (t : Text) → is_part u t ≡ true → is_unbroken t ≡ true
part_unbroken u t is = part_case (λ x. is_unbroken x ≡ true) u t refl (window_unbroken u t) is
