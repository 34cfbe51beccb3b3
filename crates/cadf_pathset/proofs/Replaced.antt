-- A path whose suffix is replaced by a list that shares first texts with it.
use Rattle.cadf_pathset.proofs.Common.{common_steps, ◌≡◌, ℕ, ◌+◌, ◌≤◌, List, [], ◌∷◌, ◌++◌, sym, ap, subst, Some, ◌∙◌, suc, zero, append_assoc, length, take, drop, arith, length-append, length-map, map-append, take-append-drop, take-map, drop-map, take_at, Bor, Texts, texts_at, Agree, Advances, Place}
use Rattle.cadf_pathset.proofs.Merging.{agree_shared}

front_both : (p c : Texts) (n k : ℕ) → n ≡ length p → take (n + k) (p ++ c) ≡ p ++ take k c
front_both [] c n k e = let same : n + k ≡ k = omega (arith, e) in ap (λ j. take j c) same
front_both (t ∷ p) c zero k e = absurd (omega (arith, e))
front_both (t ∷ p) c (suc n) k e =
    let one : suc n + k ≡ suc (n + k) = omega arith in
    ap (λ j. take j (t ∷ p ++ c)) one ∙ ap (λ z. t ∷ z) (front_both p c n k (omega (arith, e)))

-- the texts that the path shares with the next list
pub shares_front : (all p c l : Texts) (n k : ℕ) → n ≡ length p → all ≡ p ++ c → Agree k l c → take (n + k) all ≡ p ++ take k l
shares_front all p c l n k e is g = ap (take (n + k)) is ∙ front_both p c n k e ∙ ap (λ z. p ++ z) (sym g.same)

pub reaches : (all p c l : Texts) (n k : ℕ) → n ≡ length p → all ≡ p ++ c → Agree k l c → n + k ≤ length all
reaches all p c l n k e is g = grind (arith, common_steps, length-append)

pub path_replaced : (old new : List (Bor (List ℕ))) (list rest : List (Bor (List ℕ))) (n k : ℕ) (p : Texts) → new ≡ take (n + k) old ++ rest → rest ≡ drop k list
    → take (n + k) (texts_at old) ≡ p ++ take k (texts_at list) → texts_at new ≡ p ++ texts_at list
path_replaced old new list rest n k p e r h =
    ap texts_at (e ∙ ap (λ z. take (n + k) old ++ z) r) ∙ map-append (λ t. t.now) (take (n + k) old) (drop k list)
    ∙ (λ i. sym (take-map (λ t. t.now) (n + k) old) i ++ sym (drop-map (λ t. t.now) k list) i)
    ∙ ap (λ z. z ++ drop k (texts_at list)) h
    ∙ append_assoc p (take k (texts_at list)) (drop k (texts_at list))
    ∙ ap (λ z. p ++ z) (take-append-drop k (texts_at list))

-- the texts that a cursor's list shares with the next one
pub agrees_next : (n : ℕ) (a b : Place) → Advances (Some n) a b → Agree n b.0 a.0
agrees_next n a b m = subst (λ k. Agree k b.0 a.0) (sym m.1) (agree_shared b.0 a.0)

pub front_is : (all p c : Texts) (n : ℕ) → n ≡ length p → all ≡ p ++ c → take n all ≡ p
front_is all p c n e is = ap (take n) is ∙ take_at p c n (sym e)

-- what is valid for the path is valid for the texts that it shares with the path to the next list
pub keeps_behind : (K : ℕ → Texts → Type 0) (p c : Texts) (b : ℕ) → b ≡ length p
    → ((list : Texts) (n : ℕ) → K (length (p ++ c)) (p ++ c) → n ≤ length (p ++ c) → n ≤ length list → take n (p ++ c) ≡ take n list → K n list)
    → K (length (p ++ c)) (p ++ c) → (list : Texts) (n : ℕ) → Agree n list c → K (b + n) (p ++ list)
keeps_behind K p c b e shared whole list n g = grind (arith, common_steps, length-append, front_both)

-- nothing is shared with a list before the first
pub keeps_first : (K : ℕ → Texts → Type 0) → ((list : Texts) → K 0 list) → (p c list : Texts) (b n : ℕ) → b ≡ 0 → c ≡ [] → Agree n list c → K (b + n) (p ++ list)
keeps_first K none p c list b n zero_b empty g = grind (arith, common_steps)

-- a property of the texts of a list, stated for each index
pub keeps_whole : (K : ℕ → Texts → Type 0) (list : List (Bor (List ℕ))) (path : Texts) → texts_at list ≡ path → K (length list) (texts_at list) → K (length path) path
keeps_whole K list path is whole = grind (arith, common_steps, length-map)

-- a list shares no more texts with the one before than it has
pub fits_path : (list : List (Bor (List ℕ))) (p l c : Texts) (b common n : ℕ) → b ≡ length p → common ≤ b → texts_at list ≡ p ++ l → Agree n l c
    → common + n ≤ length list
fits_path list p l c b common n e low is g = grind (arith, common_steps, length-map, length-append)
