-- The result of reading a proof file, as a function of its bytes, of the limit and of whether a read failed.
--     leaf_in, part_in          the leaf, or the part, that the line encodes, if it is such a line
--     starts_keys line          the line begins the keys' parts
--     cause_after before line   what is wrong with the line, if `before` are the lines between it and the log line
--     parts_in ls               the parts that these lines encode
--     facts_in ls, keys_in ls   those of the facts, and those of the keys, if these have begun
--     proof_verdict             the proof whose file the bytes are, or the first fault
use Rattle.std.specs.Prelude.{ℕ, List, [], ◌∷◌, ◌++◌, codes, Bool, true, not, ◌&&◌, ◌||◌, is_some, if◌then◌else◌, Option, Some, None, option_map, unwrap_or, Result}
use Rattle.std.specs.List.{filter_map, list_any}
use Rattle.std.specs.Option.{option_or}
use Rattle.std.specs.Str.{bytes_eq}
use Rattle.cadf_linefile.specs.declared.fault.Cause.{Cause}
use Rattle.cadf_linefile.specs.declared.fault.FileFault.{FileFault}
use Rattle.cadf_linefile.specs.LineGrammar.{shape_unless}
use Rattle.cadf_linefile.specs.Verdict.{log_in_line}
use Rattle.cadf_linefile.specs.ModelKind.{ModelKind, verdict_of}
use Rattle.cadf_tree.specs.declared.parts.Kind.TheVariants.{Both, Added, Gone}
use Rattle.cadf_tree.specs.declared.parts.Part.{Part}
use Rattle.cadf_tree.specs.declared.parts.Part.TheVariants.{Node, Hash, Leaf}
use Rattle.cadf_evidence.specs.Marked.{digest_after}
use Rattle.cadf_evidence.specs.ProofFile.{ProofModel, node_line, keys_line, proof_header, proof_body}

-- ---- lines

unfoldable pub leaf_in : List ℕ → Option Part
leaf_in line =
    option_or (option_map (Leaf Both) (digest_after (codes "P ") line))
    (option_or (option_map (Leaf Added) (digest_after (codes "A ") line)) (option_map (Leaf Gone) (digest_after (codes "G ") line)))

unfoldable pub part_in : List ℕ → Option Part
part_in line = if bytes_eq line node_line then Some Node else option_or (option_map Hash (digest_after (codes "H ") line)) (leaf_in line)

unfoldable pub starts_keys : List ℕ → Bool
starts_keys line = bytes_eq line keys_line

-- ---- the grammar

abbrev pub have_begun : List (List ℕ) → Bool
have_begun lines = list_any starts_keys lines

-- the keys' parts begin once
abbrev pub cause_after : List (List ℕ) → List ℕ → Option Cause
cause_after before line = shape_unless (is_some (part_in line) || (starts_keys line && not (have_begun before)))

-- ---- the proof of a file's lines

abbrev pub parts_in : List (List ℕ) → List Part
parts_in lines = filter_map part_in lines

abbrev pub facts_in : List (List ℕ) → List Part
facts_in [] = []
facts_in (l ∷ ls) = if starts_keys l then [] else parts_in (l ∷ []) ++ facts_in ls

abbrev pub keys_in : List (List ℕ) → Option (List Part)
keys_in [] = None
keys_in (l ∷ ls) = if starts_keys l then Some (parts_in ls) else keys_in ls

abbrev pub proof_model_in : List (List ℕ) → ProofModel
proof_model_in (first ∷ log ∷ more) = record { log = unwrap_or (log_in_line log) []; facts = facts_in more; keys = keys_in more }
proof_model_in lines = record { log = []; facts = []; keys = None }

-- ---- the verdict

-- the digest line may follow any of these lines
abbrev pub proof_kind : ModelKind ProofModel
proof_kind = record { header = proof_header; cause_after = cause_after; is_whole = λ _. true; body = proof_body; model_in = proof_model_in }

abbrev pub proof_verdict : ℕ → Bool → List ℕ → Result ProofModel FileFault
proof_verdict = verdict_of proof_kind
