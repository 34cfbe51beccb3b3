-- What the proofs of some parts say, one after another.
use Rattle.cadf_siteseal.proofs.Common.{◌≡◌, ◌∙◌, ◌+◌, ◌<◌, ℕ, List, ◌++◌, length, drop, get_or, Option, Result, Ok, Err, refl, sym, ap, append_assoc, drop_more, Text, ListedModel, grown, ProofModel, SealModel, SiteSealModel, both_texts, grown_text, item_text, named, window_text, held_roots, last_roots, own, part_proof, part_seal, GrowthItem, SiteFault}

pub said : (a b : SiteSealModel) (list : Option ListedModel) (t : Text) (is : List GrowthItem) (log : Text) (old new : SealModel) (p : ProofModel) → log ≡ a.log
    → old ≡ part_seal log (held_roots t a.items) → new ≡ part_seal log (last_roots t b.items) → p ≡ part_proof log (own is)
    → window_text a b list t is ≡ named t (grown old new p list)
said a b list t is log old new p e o n q =
    let older : part_seal a.log (held_roots t a.items) ≡ old = ap (λ l. part_seal l (held_roots t a.items)) (sym e) ∙ sym o in
    let newer : part_seal a.log (last_roots t b.items) ≡ new = ap (λ l. part_seal l (last_roots t b.items)) (sym e) ∙ sym n in
    let proof : part_proof a.log (own is) ≡ p = ap (λ l. part_proof l (own is)) (sym e) ∙ sym q in
    λ i. named t (grown (older i) (newer i) (proof i) list)

joined : (s t : List ℕ) (r : Result (List ℕ) SiteFault) → both_texts (Ok (s ++ t)) r ≡ both_texts (Ok s) (both_texts (Ok t) r)
joined s t (Ok u) = ap Ok (append_assoc s t u)
joined s t (Err e) = refl

pub next_said : (a b : SiteSealModel) (list : Option ListedModel) (is : List GrowthItem) (k : ℕ) (d : GrowthItem) (s t : List ℕ) → k < length is
    → item_text a b list (get_or is k d) (drop (k + 1) is) ≡ Ok t
    → both_texts (Ok (s ++ t)) (grown_text a b list (drop (k + 1) is)) ≡ both_texts (Ok s) (grown_text a b list (drop k is))
next_said a b list is k d s t low e =
    joined s t (grown_text a b list (drop (k + 1) is))
    ∙ ap (λ r. both_texts (Ok s) (both_texts r (grown_text a b list (drop (k + 1) is)))) (sym e)
    ∙ ap (λ xs. both_texts (Ok s) (grown_text a b list xs)) (sym (drop_more is k d low))
