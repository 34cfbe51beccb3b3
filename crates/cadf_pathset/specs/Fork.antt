-- The order of the lists of two nodes, decided at the nodes at which they diverge.
--     IsForkAt ls f p q    if f has an order, lists with the fork's nodes as prefixes compare as the lists of p and q, ties as f's order
--     IsFork ls f          if f has an order, lists with the lists of the fork's nodes as prefixes compare in that order
use Rattle.std.specs.Prelude.{◌≡◌, ℕ, List, ◌++◌}
use Rattle.std.specs.declared.cmp.Ordering.TheVariants.{Equal}
use Rattle.std.specs.Ordering.{ordering_then}
use Rattle.cadf_join.specs.Contents.{Texts, texts_cmp}
use Rattle.cadf_pathset.specs.Nodes.{list_at}
use Rattle.cadf_pathset.specs.declared.sort.Fork.{Fork}

abbrev pub IsForkAt : List Texts → Fork → ℕ → ℕ → Type 0
IsForkAt ls f p q = (f.order ≡ Equal → ⊥) → (x y : Texts)
    → texts_cmp (list_at ls f.a ++ x) (list_at ls f.b ++ y) ≡ ordering_then (texts_cmp (list_at ls p) (list_at ls q)) f.order

abbrev pub IsFork : List Texts → Fork → Type 0
IsFork ls f = (f.order ≡ Equal → ⊥) → (x y : Texts) → texts_cmp (list_at ls f.a ++ x) (list_at ls f.b ++ y) ≡ f.order
