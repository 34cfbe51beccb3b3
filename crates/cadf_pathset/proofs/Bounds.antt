-- The result of a binary search in a list.
use Rattle.cadf_pathset.proofs.Common.{common_steps, ◌≡◌, ℕ, true, ◌+◌, ◌-◌, ◌<◌, ◌≤◌, min, suc, zero, List, [], refl, sym, ap, ◌∙◌, length, take, drop, get_or, arith, Ordering, Less, is_lt, get_or-drop, length-drop, AllByRecursion, IsStrictlySortedBy, Texts, texts_cmp, Agree}
use Rattle.cadf_pathset.proofs.Halving.{all_taken, rising_at}
use Rattle.cadf_pathset.proofs.Agreement.{agree_less, between}

pub is_less : (r : Ordering) → is_lt r ≡ true → r ≡ Less
is_less r h = grind (arith, common_steps)

-- each list between two bounds shares with a list the texts that the lists at both bounds share with it
pub known_between : (q : Texts) (xs : List Texts) → IsStrictlySortedBy texts_cmp xs → (low high middle front back known : ℕ)
    → (0 < front → (0 < low) × Agree front (get_or xs (low - 1) []) q) → (0 < back → (high < length xs) × Agree back (get_or xs high []) q)
    → low ≤ middle → middle < high → known ≡ min front back → Agree known (get_or xs middle []) q
known_between q xs s low high middle front back zero f g l m e = record { ours = omega arith; theirs = omega arith; same = refl }
known_between q xs s low high middle front back (suc known) f g l m e =
    let ours = f (omega (arith, e)) in
    let theirs = g (omega (arith, e)) in
    let some = ours.0 in
    let fits = theirs.0 in
    let a = agree_less front (suc known) (get_or xs (low - 1) []) q (omega (arith, e)) ours.1 in
    let b = agree_less back (suc known) (get_or xs high []) q (omega (arith, e)) theirs.1 in
    let x = between (suc known) (get_or xs (low - 1) []) (get_or xs middle []) (get_or xs high [])
    (record { ours = a.ours; theirs = b.ours; same = a.same ∙ sym b.same })
    (rising_at xs (low - 1) middle s (omega (arith, some, l)) (omega (arith, m, fits)))
    (rising_at xs middle high s m fits) in
    record { ours = x.theirs; theirs = a.theirs; same = sym x.same ∙ a.same }

pub below_range : (q : Texts) (xs : List Texts) (at to : ℕ) → at ≤ to → to ≤ length xs
    → ((k : ℕ) → at ≤ k → k < to → texts_cmp (get_or xs k []) q ≡ Less) → AllByRecursion (λ l. texts_cmp l q ≡ Less) (take (to - at) (drop at xs))
below_range q xs at to l m h =
    let n = length-drop at xs in
    all_taken (λ l. texts_cmp l q ≡ Less) (drop at xs) (to - at) (omega (arith, n, l, m))
    (λ i b. ap (λ z. texts_cmp z q) (get_or-drop at xs i []) ∙ h (at + i) (omega arith) (omega (arith, b, l)))
