use Rattle.cadf_rehearsal.proofs.Common.{inl, inr, sym, subst, Has, texts_total, texts_same, missing_or_held, missing_by_is}
use Rattle.cadf_join.proofs.Members as members
use Rattle.cadf_rehearsal.proofs.Schedule.{messages_mean}
use Rattle.cadf_rehearsal.proofs.laws.answer_with_inventory_covers_sender.Goals as goal

pub returns : goal.returns
returns c = record {
  part = λ digest sender noted apart q h. elim (missing_or_held sender noted q h) [
    | inl k ↦ members.in_union_left texts_total texts_same noted _ q k
    | inr k ↦ members.in_union_right texts_total texts_same noted _ q (subst (λ s. Has s q) (sym (missing_by_is digest sender noted apart)) k)
  ];
  messages = messages_mean;
}
