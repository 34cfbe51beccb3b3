-- The split file of a log and its set of atoms, by a unit of time.
--     split_head unit log    the three lines before the first part
--     part_lines unit h k    the lines of a part: its name, and its replica file
--     noted_lines unit h k   those of them that the last line is a digest of
--     split_lines unit h     the lines of the file
--     split_text unit h      the file
use Rattle.std.specs.Prelude.{ℕ, List, [], ◌∷◌, ◌++◌, codes}
use Rattle.std.specs.List.{flat_map}
use Rattle.cadf_join.specs.Contents.{Text}
use Rattle.cadf_set.specs.Replica.{ReplicaModel}
use Rattle.cadf_linefile.specs.Lines.{text_of_lines}
use Rattle.cadf_linefile.specs.Verdict.{log_line, digest_line, with_digest_line}
use Rattle.cadf_file.specs.FileTwo.{body_two}
use Rattle.cadf_split.specs.declared.unit.Unit.{Unit}
use Rattle.cadf_split.specs.Windows.{part, part_keys, name, unit_word}

abbrev pub split_header : List ℕ
split_header = codes "CADF-SPLIT 1"

abbrev pub split_head : Unit → Text → List (List ℕ)
split_head unit log = split_header ∷ log_line log ∷ (codes "B " ++ unit_word unit) ∷ []

abbrev pub part_line : Unit → Text → List ℕ
part_line unit k = codes "P " ++ name unit k

-- the replica of a part
abbrev pub replica_of_part : Unit → ReplicaModel → Text → ReplicaModel
replica_of_part unit h k = record { log = h.log; atoms = part unit k h.atoms }

abbrev pub part_lines : Unit → ReplicaModel → Text → List (List ℕ)
part_lines unit h k = part_line unit k ∷ with_digest_line (body_two (replica_of_part unit h k))

abbrev pub noted_lines : Unit → ReplicaModel → Text → List (List ℕ)
noted_lines unit h k = part_line unit k ∷ digest_line (body_two (replica_of_part unit h k)) ∷ []

abbrev pub split_lines : Unit → ReplicaModel → List (List ℕ)
split_lines unit h =
    split_head unit h.log ++ (flat_map (part_lines unit h) (part_keys unit h.atoms)
    ++ digest_line (split_head unit h.log ++ flat_map (noted_lines unit h) (part_keys unit h.atoms)) ∷ [])

abbrev pub split_text : Unit → ReplicaModel → List ℕ
split_text unit h = text_of_lines (split_lines unit h)
