-- What is made of sets, and that the proofs are accepted.
--     sealed_of held           the list of a replica's facts and of their keys
--     proof_of f n             the proof, under the log of the inventory n, of which of the digests of f it has
--     key_list_inventory l     the inventory of the digests of a list of keys
--     keys_proof_of l h        the proof, under the log of a replica, of which of the keys of a list its facts have
--     growth_proof old new     the proof of how the set new came of the set old
--     growth_from l new        the proof of how the set new came of the listed one
--     IsOfLog log l            the list is one of this log
--     AllGoneAreListed t l ps  the list has each digest that is gone by the parts
--     FactsProofIsTold         if all facts are in the set, or none is, then the proof that is made says so
--     KeysProofIsTold          if all keys are those of facts of the set, or none is, then the proof that is made says so
--     GrowthProofIsTold        if what went is listed, then the proof that is made says how many facts were added
--     ListedGrowthIsGrowth     of the sealed list of a replica the proof is that of both replicas
use Rattle.std.specs.Prelude.{◌≡◌, List, [], length, map, Bool, true, not, Option, None, Some, Ok}
use Rattle.std.specs.List.{AllByRecursion}
use Rattle.cadf_join.specs.Contents.{Text, Texts, Has}
use Rattle.cadf_join.specs.Sets as set
use Rattle.cadf_join.specs.Sets.{rising, Listed}
use Rattle.cadf_line.specs.Digest.{atom_digest}
use Rattle.cadf_key.specs.Keys.{keys_of}
use Rattle.cadf_listed.specs.ListFile.{ListedModel, facts_of, keys_of as listed_keys, list_over}
use Rattle.cadf_set.specs.Inventory.{InventoryModel, inventory_of}
use Rattle.cadf_set.specs.Replica.{ReplicaModel}
use Rattle.cadf_tree.specs.GrowthMade.{growth_parts}
use Rattle.cadf_tree.specs.PresenceMade.{presence_parts}
use Rattle.cadf_tree.specs.Pruned.{leaves_of}
use Rattle.cadf_tree.specs.declared.parts.Kind.TheVariants.{Added, Gone}
use Rattle.cadf_tree.specs.declared.parts.Part.{Part}
use Rattle.cadf_evidence.specs.Growth.{grown, growth_text, is_listed}
use Rattle.cadf_evidence.specs.KeyList.{KeyListModel}
use Rattle.cadf_evidence.specs.ProofFile.{ProofModel}
use Rattle.cadf_evidence.specs.SealFile.{seal_of}
use Rattle.cadf_evidence.specs.Soundness.{fact_digests, key_digests}
use Rattle.cadf_evidence.specs.Told.{told}
use Rattle.cadf_evidence.specs.Verified.{verified, verified_keys}
use Rattle.cadf_evidence.specs.declared.growth.SealedSet.{SealedSet}
use Rattle.cadf_evidence.specs.declared.growth.SealedSet.TheVariants.{Facts, Keys}

abbrev pub proof_of : InventoryModel → InventoryModel → ProofModel
proof_of f n = record { log = n.log; facts = presence_parts (rising n.digests) (rising f.digests); keys = None }

abbrev pub key_list_inventory : KeyListModel → InventoryModel
key_list_inventory l = record { log = l.log; digests = set.from_list (map atom_digest l.keys) }

abbrev pub keys_proof_of : KeyListModel → ReplicaModel → ProofModel
keys_proof_of l h = record { log = h.log; facts = []; keys = Some (presence_parts (key_digests h.atoms) (rising (key_list_inventory l).digests)) }

-- the inventory of a replica's keys
abbrev pub keys_inventory : ReplicaModel → InventoryModel
keys_inventory held = record { log = held.log; digests = keys_of held.atoms }

abbrev pub sealed_of : ReplicaModel → ListedModel
sealed_of held = list_over (inventory_of held) (keys_inventory held)

-- ---- growth

abbrev pub facts_growth : ReplicaModel → ReplicaModel → List Part
facts_growth old new = growth_parts (fact_digests old.atoms) (fact_digests new.atoms)

abbrev pub keys_growth_parts : ReplicaModel → ReplicaModel → List Part
keys_growth_parts old new = growth_parts (key_digests old.atoms) (key_digests new.atoms)

abbrev pub growth_proof : ReplicaModel → ReplicaModel → ProofModel
growth_proof old new = record { log = new.log; facts = facts_growth old new; keys = Some (keys_growth_parts old new) }

abbrev pub growth_from : ListedModel → ReplicaModel → ProofModel
growth_from l new = record {
  log = new.log;
  facts = growth_parts (facts_of l) (fact_digests new.atoms);
  keys = Some (growth_parts (listed_keys l) (key_digests new.atoms));
}

-- ---- laws

abbrev pub FactsProofIsTold : Type 0
FactsProofIsTold = (held facts : ReplicaModel) (absent : Bool)
    → ((q : Texts) → Has facts.atoms q → set.contains (inventory_of held).digests (atom_digest q) ≡ not absent)
    → verified (seal_of held) (proof_of (inventory_of facts) (inventory_of held)) facts.atoms absent ≡ Ok (told absent (rising facts.atoms))

abbrev pub KeysProofIsTold : Type 0
KeysProofIsTold = (held : ReplicaModel) (list : KeyListModel) (absent : Bool)
    → ((q : Texts) → Listed q list.keys → set.contains (keys_of held.atoms) (atom_digest q) ≡ not absent)
    → verified_keys (seal_of held) (keys_proof_of list held) list.keys absent ≡ Ok (told absent list.keys)

abbrev pub IsOfLog : Text → Option ListedModel → Type 0
IsOfLog log None = Unit {0}
IsOfLog log (Some l) = l.log ≡ log

abbrev pub AllGoneAreListed : SealedSet → Option ListedModel → List Part → Type 0
AllGoneAreListed t list ps = AllByRecursion (λ d. is_listed t list d ≡ true) (leaves_of Gone ps)

abbrev pub GrowthProofIsTold : Type 0
GrowthProofIsTold = (old new : ReplicaModel) (list : Option ListedModel) → old.log ≡ new.log → IsOfLog new.log list
    → AllGoneAreListed Facts list (facts_growth old new) → AllGoneAreListed Keys list (keys_growth_parts old new)
    → grown (seal_of old) (seal_of new) (growth_proof old new) list
    ≡ Ok (growth_text list (record { added = length (leaves_of Added (facts_growth old new)); gone = length (leaves_of Gone (facts_growth old new)) }))

abbrev pub ListedGrowthIsGrowth : Type 0
ListedGrowthIsGrowth = (old new : ReplicaModel) → growth_from (sealed_of old) new ≡ growth_proof old new
