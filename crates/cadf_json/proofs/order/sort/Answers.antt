use Rattle.cadf_json.proofs.Common.{rules, nat_list_cmp_total, ranks_by, answers_always, on_ok_weaker, Named}
use Rattle.cadf_json.proofs.Sorted.{below, lasts_are}
use Rattle.cadf_json.proofs.order.sort.Goals as goal

pub returns : goal.returns
returns c =
    let ranks = ranks_by nat_list_cmp_total (λ (p : Named). p.name) in
    let answers = answers_always _ _ _ (λ f a r g k. search rules) in
    on_ok_weaker c.sort_by.result (λ sorted. lasts_are c.args.named.now.items c.sort_by.new.self.items (sorted below ranks answers)
    (c.sort_by.ensures.stable below ranks answers)) c.sort_by.ensures.sorted
