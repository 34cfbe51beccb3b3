-- The seal of a replica, and its file.
--     seal_over facts keys  the seal of an inventory of facts and one of their keys
--     seal_of held          that of a replica: its log, the root over the digests of its atoms, and the root over those of their keys
--     seal_lines s          the lines between the log line and the digest line: the count and the root of the facts, and of the keys
--     seal_body s           the lines before the digest line
--     seal_file s           the file
--     IsRoot r              the invariant of a root
--     IsSeal s              the invariant of a seal
use Rattle.std.specs.Prelude.{◌≡◌, ◌<◌, ◌^◌, ℕ, List, [], ◌∷◌, ◌++◌, codes, decimal, true, refl}
use Rattle.std.specs.Coded.{Coded, coded_ℕ, coded_list, coded×, code_by}
use Rattle.hex.specs.Hex.{encode_lower}
use Rattle.cadf_join.specs.Contents.{Text}
use Rattle.cadf_join.specs.Sets.{rising}
use Rattle.cadf_event.specs.LogName.{is_name_text}
use Rattle.cadf_key.specs.Keys.{keys_of}
use Rattle.cadf_line.specs.Digest.{IsDigest}
use Rattle.cadf_linefile.specs.Lines.{text_of_lines}
use Rattle.cadf_linefile.specs.Verdict.{log_line, with_digest_line}
use Rattle.cadf_set.specs.Inventory.{InventoryModel, inventory_of}
use Rattle.cadf_set.specs.Replica.{ReplicaModel}
use Rattle.cadf_tree.specs.Tree.{root}
use Rattle.cadf_tree.specs.declared.tree.Root.{Root}

pub record SealModel : Type 0 where
  pub log : Text
  pub facts : Root
  pub keys : Root

abbrev pub coded_root : Coded Root
coded_root = code_by (ℕ × Text) (coded× coded_ℕ (coded_list coded_ℕ)) (λ r. (r.count, r.hash)) (λ p. record { count = p.0; hash = p.1 }) (λ _. refl)

abbrev pub coded_seal : Coded SealModel
coded_seal =
    code_by (Text × (Root × Root)) (coded× (coded_list coded_ℕ) (coded× coded_root coded_root)) (λ s. (s.log, (s.facts, s.keys)))
    (λ p. record { log = p.0; facts = p.1.0; keys = p.1.1 }) (λ _. refl)

abbrev pub seal_over : InventoryModel → InventoryModel → SealModel
seal_over facts keys = record { log = facts.log; facts = root (rising facts.digests); keys = root (rising keys.digests) }

abbrev pub seal_of : ReplicaModel → SealModel
seal_of held = seal_over (inventory_of held) (record { log = held.log; digests = keys_of held.atoms })

-- ---- the file

abbrev pub seal_header : List ℕ
seal_header = codes "CADF-SEAL 1"

abbrev pub number_line : List ℕ → ℕ → List ℕ
number_line mark n = mark ++ decimal n

abbrev pub digest_line : List ℕ → Text → List ℕ
digest_line mark d = mark ++ encode_lower d

abbrev pub seal_lines : SealModel → List (List ℕ)
seal_lines s =
    number_line (codes "N ") s.facts.count ∷ digest_line (codes "R ") s.facts.hash ∷ number_line (codes "M ") s.keys.count ∷ digest_line (codes "S ") s.keys.hash ∷ []

abbrev pub seal_body : SealModel → List (List ℕ)
seal_body s = seal_header ∷ log_line s.log ∷ seal_lines s

abbrev pub seal_file : SealModel → List ℕ
seal_file s = text_of_lines (with_digest_line (seal_body s))

-- ---- the invariant

-- the count has 64 bits, and the hash has the form of a digest
pub record IsRoot (r : Root) : Type 0 where
  pub count : r.count < 2 ^ 64
  pub hash : IsDigest r.hash

pub record IsSeal (s : SealModel) : Type 0 where
  pub log : is_name_text s.log ≡ true
  pub facts : IsRoot s.facts
  pub keys : IsRoot s.keys

-- seals with equal files are equal
abbrev pub SealFileIsInjective : Type 0
SealFileIsInjective = (s t : SealModel) → IsSeal s → IsSeal t → seal_file s ≡ seal_file t → s ≡ t
