-- What a proof says of facts, or of keys, to a reader with a seal.
--     state_fault a b k o      why the k-th isn't as asked, if it isn't, by what the proof shows of it; b: they are asked to be absent
--     first_fault a b ps k fs  the fault of the first of these digests that isn't as asked, if the first has number k
--     alone_fault z            the other tree's parts are of no use, unless the proof has none
--     refusal a r ps z ws fs b the fault for which a reader with the root r refuses the parts ps for the digests fs. ws: the same digests,
--                              in any order; z: the proof has no parts of the other tree
--     verdict_on a r ps z qs b that fault, or the text that says of each fact or key of qs that it is as asked
--     verified s p facts b     the verdict on facts, by the seal's root of facts
--     verified_keys s p qs b   the verdict on keys, by the seal's root of keys. Without the keys' parts there is no tree
--     VerifyFaultIs e found    the fault is the one found, or is `Memory`
use Rattle.std.specs.Prelude.{◌≡◌, ◌+◌, ℕ, nat_eq, length, List, [], ◌∷◌, map, Bool, true, false, not, is_some, if◌then◌else◌, Option, None, Some, option_map, Result, Ok, Err}
use Rattle.std.specs.Option.{option_or}
use Rattle.cadf_join.specs.Contents.{Text, Texts, Contents}
use Rattle.cadf_join.specs.Sets.{rising}
use Rattle.cadf_line.specs.Digest.{atom_digest}
use Rattle.cadf_tree.specs.Presence.{shown, state}
use Rattle.cadf_tree.specs.declared.growth.TreeFault.{TreeFault}
use Rattle.cadf_tree.specs.declared.parts.Part.{Part}
use Rattle.cadf_tree.specs.declared.tree.Root.{Root}
use Rattle.cadf_evidence.specs.Fault.{proof_fault}
use Rattle.cadf_evidence.specs.ProofFile.{ProofModel}
use Rattle.cadf_evidence.specs.SealFile.{SealModel}
use Rattle.cadf_evidence.specs.Told.{told}
use Rattle.cadf_evidence.specs.declared.fault.ProofFault.TheVariants.{NoTree, NotNeeded}
use Rattle.cadf_evidence.specs.declared.verify.Asked.{Asked}
use Rattle.cadf_evidence.specs.declared.verify.Asked.TheVariants.{Fact, Key}
use Rattle.cadf_evidence.specs.declared.verify.VerifyFault.{VerifyFault}
use Rattle.cadf_evidence.specs.declared.verify.VerifyFault.TheVariants.{Proof, NotShown, Absent, Present, Memory}

abbrev pub state_fault : Asked → Bool → ℕ → Option Bool → Option VerifyFault
state_fault a absent k None = Some (NotShown a k)
state_fault a true k (Some true) = Some (Present a k)
state_fault a true k (Some false) = None
state_fault a false k (Some true) = None
state_fault a false k (Some false) = Some (Absent a k)

abbrev pub first_fault : Asked → Bool → List Part → ℕ → List Text → Option VerifyFault
first_fault a absent ps k [] = None
first_fault a absent ps k (f ∷ fs) = option_or (state_fault a absent k (state ps f)) (first_fault a absent ps (k + 1) fs)

abbrev pub alone_fault : Bool → Option VerifyFault
alone_fault alone = if alone then None else Some (Proof NotNeeded)

abbrev pub tree_refusal : Option TreeFault → Option VerifyFault
tree_refusal o = option_map (λ e. Proof (proof_fault e)) o

abbrev pub refusal : Asked → Root → List Part → Bool → (ws fs : List Text) → Bool → Option VerifyFault
refusal a r ps alone ws fs absent = option_or (tree_refusal (shown r ps ws)) (option_or (alone_fault alone) (first_fault a absent ps 1 fs))

abbrev pub text_unless : {E : Type 0} → Option E → List ℕ → Result (List ℕ) E
text_unless None text = Ok text
text_unless (Some fault) text = Err fault

abbrev pub verdict_on : Asked → Root → List Part → Bool → List Texts → Bool → Result (List ℕ) VerifyFault
verdict_on a r ps alone qs absent = text_unless (refusal a r ps alone (map atom_digest qs) (map atom_digest qs) absent) (told absent qs)

abbrev pub verified : SealModel → ProofModel → Contents → Bool → Result (List ℕ) VerifyFault
verified s p facts absent = verdict_on Fact s.facts p.facts (not (is_some p.keys)) (rising facts) absent

-- ---- keys

abbrev pub verdict_if : Root → Option (List Part) → Bool → List Texts → Bool → Result (List ℕ) VerifyFault
verdict_if r None alone qs absent = Err (Proof NoTree)
verdict_if r (Some ps) alone qs absent = verdict_on Key r ps alone qs absent

abbrev pub verified_keys : SealModel → ProofModel → List Texts → Bool → Result (List ℕ) VerifyFault
verified_keys s p qs absent = verdict_if s.keys p.keys (nat_eq (length p.facts) 0) qs absent

-- ---- what is answered

abbrev pub VerifyFaultIs : VerifyFault → Result (List ℕ) VerifyFault → Type 0
VerifyFaultIs Memory found = Unit {0}
VerifyFaultIs (Proof e) found = found ≡ Err (Proof e)
VerifyFaultIs (NotShown a k) found = found ≡ Err (NotShown a k)
VerifyFaultIs (Absent a k) found = found ≡ Err (Absent a k)
VerifyFaultIs (Present a k) found = found ≡ Err (Present a k)
