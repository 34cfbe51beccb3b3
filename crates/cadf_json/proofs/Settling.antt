-- Values whose members are put in order, at every depth.
use Rattle.cadf_json.proofs.Common.{common_steps, ◌≡◌, ℕ, List, [], ◌++◌, Bool, true, refl, sym, ap, ◌∙◌, subst, arith, Ordering, nat_cmp, slice_cmp, Data, Items, no_items, item, Members, no_members, member, put, Stands, put_all, items_count, settled, settled_items, settled_members, Grown, StandsAsRead, Node, joined}
use Rattle.cadf_json.proofs.Passing.{with_last}

-- a value without members was read as it is
pub scalar : {old new : List Node} {t u : List ℕ} (d : Data) → settled d ≡ d → Grown (λ u xs. Stands u d xs) old new t u
    → Grown (λ u xs. StandsAsRead true u d xs) old new t u
scalar d is g = record { xs = g.xs; more = g.more; nodes = g.nodes; texts = g.texts; stands = record { raw = d; settles = is; same = λ r. refl; stands = g.stands } }

-- nodes that were appended to none
pub from_none : {old new : List Node} {t u : List ℕ} (rising : Bool) (d : Data) → old ≡ [] → Grown (λ u xs. StandsAsRead rising u d xs) old new t u
    → StandsAsRead rising u d new
from_none {old} {new} {t} {u} rising d none g = subst (StandsAsRead rising u d) (sym (g.nodes ∙ ap (λ xs. xs ++ g.xs) none)) g.stands

pub settled_last : (ds : Items) (d : Data) → settled_items (with_last d ds) ≡ with_last (settled d) (settled_items ds)
settled_last no_items d = refl
settled_last (item e ds) d = ap (item (settled e)) (settled_last ds d)

pub settled_joined : (ms : Members) (k : List ℕ) (d : Data)
    → settled_members (joined ms (member k d no_members)) ≡ joined (settled_members ms) (member k (settled d) no_members)
settled_joined no_members k d = refl
settled_joined (member l e ms) k d = ap (member l (settled e)) (settled_joined ms k d)

pub settled_count : (ds : Items) → items_count (settled_items ds) ≡ items_count ds
settled_count no_items = refl
settled_count (item d ds) = let more = settled_count ds in omega (arith, more)

settled_put_at : (o : Ordering) (k l : List ℕ) (d e : Data) (ms : Members) → slice_cmp nat_cmp k l ≡ o
    → settled_members (put k d ms) ≡ put k (settled d) (settled_members ms)
    → settled_members (put k d (member l e ms)) ≡ put k (settled d) (settled_members (member l e ms))
settled_put_at o k l d e ms is rest = grind (arith, common_steps)

settled_put : (k : List ℕ) (d : Data) (ms : Members) → settled_members (put k d ms) ≡ put k (settled d) (settled_members ms)
settled_put k d no_members = refl
settled_put k d (member l e ms) = settled_put_at (slice_cmp nat_cmp k l) k l d e ms refl (settled_put k d ms)

pub settled_all : (ms found : Members) → settled_members (put_all ms found) ≡ put_all (settled_members ms) (settled_members found)
settled_all no_members found = refl
settled_all (member k d ms) found = settled_all ms (put k d found) ∙ ap (put_all (settled_members ms)) (settled_put k d found)
