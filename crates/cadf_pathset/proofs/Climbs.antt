-- A climb from a node, beside a list.
use Rattle.cadf_pathset.proofs.Common.{common_steps, ◌≡◌, ℕ, ◌-◌, ◌<◌, ◌≤◌, min, [], ◌∷◌, ◌++◌, sym, ap, ◌∙◌, length, take, get_or, arith, length-take, take-take, take_at, take_min, Ordering, Less, Equal, Greater, Text, Texts, text_cmp, texts_cmp, ordering_then, Agree, last_text, shared}
use Rattle.cadf_pathset.proofs.Agreement.{agree_less, agree_more, parted}
use Rattle.cadf_pathset.proofs.Arena.{last_of_push}
use Rattle.cadf_pathset.proofs.Compared.{less_is_not, greater_is_not}
use Rattle.cadf_pathset.proofs.Orders.{cmp_same, front_more}

pub front_least : (a : Texts) (len has depth : ℕ) → has ≡ length a → depth ≡ min has len → take len a ≡ take depth a
front_least a len has depth h d = grind (arith, common_steps, take_min)

pub front_up : (a l p : Texts) (t : Text) (d : ℕ) → l ≡ take d a → d - 1 ≡ length p → l ≡ p ++ t ∷ [] → p ≡ take (d - 1) a
front_up a l p t d front long e =
    sym (take_at p (t ∷ []) (d - 1) (sym long)) ∙ ap (take (d - 1)) (sym e ∙ front) ∙ take-take (d - 1) d a (omega arith)

pub front_fits : (a l : Texts) (d : ℕ) → l ≡ take d a → d ≡ length l → d ≤ length a
front_fits a l d front long = let x = ap length front in let y = length-take d a in omega (arith, x, y, long)

pub last_front : (a l : Texts) (d : ℕ) → 0 < d → d ≤ length a → l ≡ take d a → last_text l ≡ get_or a (d - 1) []
last_front a l d some fits front = grind (arith, common_steps, front_more, last_of_push)

pub shares_step : (a b : Texts) (d agreed next : ℕ) (r : Ordering) → (Agree d a b → agreed ≡ shared a b) → 0 < d → d ≤ length a → d ≤ length b
    → text_cmp (get_or a (d - 1) []) (get_or b (d - 1) []) ≡ r → (r ≡ Equal → next ≡ agreed) → ((r ≡ Equal → ⊥) → next ≡ d - 1) → Agree (d - 1) a b
    → next ≡ shared a b
shares_step a b d agreed next Less h some x y e same here g =
    here less_is_not ∙ sym (parted (d - 1) a b Less g (omega (arith, some, x)) (omega (arith, some, y)) e less_is_not).1
shares_step a b d agreed next Greater h some x y e same here g =
    here greater_is_not ∙ sym (parted (d - 1) a b Greater g (omega (arith, some, x)) (omega (arith, some, y)) e greater_is_not).1
shares_step a b d agreed next Equal h some x y e same here g = grind (arith, common_steps, agree_more)

-- the order, once both are known to share the texts that were not compared
pub cmp_known : (a b l : Texts) (d known : ℕ) (found r : Ordering) → l ≡ take d a → Agree known a b → d ≤ known
    → r ≡ ordering_then (texts_cmp l (take d b)) found → found ≡ r
cmp_known a b l d known found r front g less h = sym (cmp_same r found l (take d b) (front ∙ (agree_less known d a b less g).same) h)
