use Rattle.cadf_key.proofs.Common.{◌≤◌, ◌≡◌, true, [], ◌∷◌, sym, subst, arith, common_steps, texts_at, Collects, digests_in, key_length}
use Rattle.cadf_join.specs.Sets as set
use Rattle.cadf_key.proofs.CollectedKeys.{new_is_in, collected_new, collected_again}
use Rattle.cadf_key.proofs.collector.KeyCollectorVisitor.visit.Goals as goal

pub returns-in_ok-push-clause-ok : goal.returns-in_ok-push-clause-ok
returns-in_ok-push-clause-ok c =
    let q = texts_at c.args.list.now in
    subst (λ v. Collects c.args.self.now.digests.items (q ∷ []) v) (sym c.in_ok-push.ensures.0)
    (collected_new c.args.self.now.digests.items c.in_ok-digest.digest q c.in_ok-digest.ensures c.in_ok-push.ensures.1)

pub returns-in_ok-push-clause-keeps : goal.returns-in_ok-push-clause-keeps
returns-in_ok-push-clause-keeps c long =
    let d = c.in_ok-digest.digest in
    subst (λ k. set.contains (digests_in c.push.new.digests.items) k ≡ true) c.in_ok-digest.ensures
    (subst (λ v. set.contains (digests_in v) d ≡ true) (sym c.in_ok-push.ensures.0) (new_is_in c.args.self.now.digests.items d))

pub returns-else-shared-key_length-clause-ok : goal.returns-else-shared-key_length-clause-ok
returns-else-shared-key_length-clause-ok c =
    let low : key_length (texts_at c.args.list.now) ≤ c.args.shared = grind (arith, common_steps) in
    collected_again c.args.self.now.digests.items (texts_at c.args.list.now) (c.requires.keeps low)
