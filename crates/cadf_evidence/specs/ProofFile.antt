-- A proof of what is in a sealed set, or of how one sealed set came of another, and its file.
--     part_line x      the line of a part of a pruned tree
--     keys_lines o     the lines of the keys' parts, if there are any: a line K, and theirs
--     proof_lines p    the lines between the log line and the digest line: the facts' parts, and the keys'
--     proof_body p     the lines before the digest line
--     proof_file p     the file
--     AreParts ps      the invariant of parts: each hash and each leaf has the form of a digest
--     HasProofParts p  the invariant of all but the log
--     IsProof p        the invariant of a proof
use Rattle.std.specs.Prelude.{◌≡◌, ℕ, zero, suc, List, [], ◌∷◌, ◌++◌, map, codes, true, Option, Some, None, refl}
use Rattle.std.specs.Coded.{Coded, coded_ℕ, coded_list, coded_option, coded×, code_by}
use Rattle.std.specs.List.{AllByRecursion}
use Rattle.cadf_join.specs.Contents.{Text}
use Rattle.cadf_event.specs.LogName.{is_name_text}
use Rattle.cadf_line.specs.Digest.{IsDigest}
use Rattle.cadf_linefile.specs.Lines.{text_of_lines}
use Rattle.cadf_linefile.specs.Verdict.{log_line, with_digest_line}
use Rattle.cadf_tree.specs.declared.parts.Kind.{Kind}
use Rattle.cadf_tree.specs.declared.parts.Kind.TheVariants.{Both, Added, Gone}
use Rattle.cadf_tree.specs.declared.parts.Part.{Part}
use Rattle.cadf_tree.specs.declared.parts.Part.TheVariants.{Node, Hash, Leaf}
use Rattle.cadf_evidence.specs.SealFile.{digest_line}

-- The facts' parts, and the keys' if the proof speaks of keys. One that speaks of keys alone has no facts' parts.
pub record ProofModel : Type 0 where
  pub log : Text
  pub facts : List Part
  pub keys : Option (List Part)

-- ---- codes

abbrev to_pair : Part → ℕ × Text
to_pair Node = (0, [])
to_pair (Hash h) = (1, h)
to_pair (Leaf Both d) = (2, d)
to_pair (Leaf Added d) = (3, d)
to_pair (Leaf Gone d) = (4, d)

abbrev from_pair : ℕ → Text → Part
from_pair zero d = Node
from_pair (suc zero) d = Hash d
from_pair (suc (suc zero)) d = Leaf Both d
from_pair (suc (suc (suc zero))) d = Leaf Added d
from_pair (suc (suc (suc (suc n)))) d = Leaf Gone d

pub from_pair-to_pair : (x : Part) → from_pair (to_pair x).0 (to_pair x).1 ≡ x
from_pair-to_pair Node = refl
from_pair-to_pair (Hash h) = refl
from_pair-to_pair (Leaf Both d) = refl
from_pair-to_pair (Leaf Added d) = refl
from_pair-to_pair (Leaf Gone d) = refl

abbrev pub coded_part : Coded Part
coded_part = code_by (ℕ × Text) (coded× coded_ℕ (coded_list coded_ℕ)) to_pair (λ p. from_pair p.0 p.1) from_pair-to_pair

abbrev pub coded_proof : Coded ProofModel
coded_proof =
    code_by (Text × (List Part × Option (List Part)))
    (coded× (coded_list coded_ℕ) (coded× (coded_list coded_part) (coded_option (coded_list coded_part))))
    (λ p. (p.log, (p.facts, p.keys))) (λ q. record { log = q.0; facts = q.1.0; keys = q.1.1 }) (λ _. refl)

-- ---- the file

abbrev pub proof_header : List ℕ
proof_header = codes "CADF-PROOF 1"

abbrev pub leaf_mark : Kind → List ℕ
leaf_mark Both = codes "P "
leaf_mark Added = codes "A "
leaf_mark Gone = codes "G "

abbrev pub node_line : List ℕ
node_line = codes "N"

-- what begins the keys' parts
abbrev pub keys_line : List ℕ
keys_line = codes "K"

abbrev pub part_line : Part → List ℕ
part_line Node = node_line
part_line (Hash h) = digest_line (codes "H ") h
part_line (Leaf k d) = digest_line (leaf_mark k) d

abbrev pub keys_lines : Option (List Part) → List (List ℕ)
keys_lines None = []
keys_lines (Some ps) = keys_line ∷ map part_line ps

abbrev pub proof_lines : ProofModel → List (List ℕ)
proof_lines p = map part_line p.facts ++ keys_lines p.keys

abbrev pub proof_body : ProofModel → List (List ℕ)
proof_body p = proof_header ∷ log_line p.log ∷ proof_lines p

abbrev pub proof_file : ProofModel → List ℕ
proof_file p = text_of_lines (with_digest_line (proof_body p))

-- ---- the invariant

abbrev pub IsPart : Part → Type 0
IsPart Node = Unit {0}
IsPart (Hash h) = IsDigest h
IsPart (Leaf k d) = IsDigest d

abbrev pub AreParts : List Part → Type 0
AreParts ps = AllByRecursion IsPart ps

abbrev pub AreKeyParts : Option (List Part) → Type 0
AreKeyParts None = Unit {0}
AreKeyParts (Some ps) = AreParts ps

pub record HasProofParts (p : ProofModel) : Type 0 where
  pub facts : AreParts p.facts
  pub keys : AreKeyParts p.keys

pub record IsProof (p : ProofModel) : Type 0 where
  pub log : is_name_text p.log ≡ true
  pub parts : HasProofParts p

-- proofs with equal files are equal
abbrev pub ProofFileIsInjective : Type 0
ProofFileIsInjective = (p q : ProofModel) → IsProof p → IsProof q → proof_file p ≡ proof_file q → p ≡ q
