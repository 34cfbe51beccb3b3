use Rattle.cadf_pathset.proofs.Common.{◌≡◌, [], Ok, Err, OnOk, IfOk, Result, true, ap, sym, subst, ◌∙◌, IsStrictlySortedBy, result_and, texts_cmp, texts_total, texts_same, carriers_in, with_carriers_by, sorted_merge}
use Rattle.cadf_join.specs.Sets as set
use Rattle.cadf_pathset.proofs.CarrierLists.{rises, with_theirs}
use Rattle.cadf_pathset.proofs.Merges.{merged_rises, nil_rises}
use Rattle.cadf_pathset.proofs.copier.with_carriers.Goals as goal

and_ok : {T U E A : Type 0} (r : Result T E) (x : U) (P : U → Type 0) → (A → P x) → OnOk r A → IfOk (result_and r (Ok x)) P
and_ok (Ok _) x P f a = f a
and_ok (Err _) x P f a = tt

pub join-requires-clause-theirs : goal.join-requires-clause-theirs
join-requires-clause-theirs g c =
    subst (IsStrictlySortedBy texts_cmp) (sym c.in_ok-carriers.ensures) (rises g.C.Carrier.carrier c.args.lists [] (nil_rises texts_total texts_same))

pub returns-clause-rising : goal.returns-clause-rising
returns-clause-rising g c =
    rw c.and.ensures (and_ok c.join.result _ (IsStrictlySortedBy texts_cmp)
    (λ (e : c.join.new.self ≡ sorted_merge texts_cmp true c.args.lists c.in_ok-carriers.carriers). subst (IsStrictlySortedBy texts_cmp)
    (sym (e ∙ ap (sorted_merge texts_cmp true c.args.lists) c.in_ok-carriers.ensures))
    (merged_rises texts_total texts_same c.args.lists (carriers_in g.C.Carrier.carrier [] c.args.lists) c.requires
    (rises g.C.Carrier.carrier c.args.lists [] (nil_rises texts_total texts_same)))) c.join.ensures.ok)

pub returns-clause-set : goal.returns-clause-set
returns-clause-set g c =
    rw c.and.ensures (and_ok c.join.result _ (λ all. set.from_list {R = texts_cmp} all ≡ with_carriers_by g.C.Carrier.carrier (set.from_list c.args.lists))
    (λ (e : c.join.new.self ≡ sorted_merge texts_cmp true c.args.lists c.in_ok-carriers.carriers).
    ap set.from_list (e ∙ ap (sorted_merge texts_cmp true c.args.lists) c.in_ok-carriers.ensures)
    ∙ with_theirs g.C.Carrier.carrier g.met.C.Carrier.in_order c.args.lists c.requires) c.join.ensures.ok)
