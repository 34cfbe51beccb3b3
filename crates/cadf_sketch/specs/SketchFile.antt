-- The file of a sketch.
--     spelled n ns         numbers in decimal, separated by one space
--     head_line h          the line with the number of cells, the salt and the digest of the inventory's file
--     counts_line t        the line with the number of digests and, for each of the first 64 bits, how many digests have it set
--     cell_line c          the line of a cell: the hexadecimal digits of its digest and of its check, both big-endian
--     sketch_body s        the lines before the digest line
--     sketch_file s        the file
--     IsSketch s           the invariant of a sketch
use Rattle.std.specs.Prelude.{◌≡◌, ◌<◌, ◌*◌, ◌^◌, ℕ, List, ◌∷◌, ◌++◌, length, map, flat_map, codes, decimal, true}
use Rattle.std.specs.Int.{w64, to_be_bytes}
use Rattle.std.specs.List.{AllByRecursion}
use Rattle.hex.specs.Hex.{encode_lower}
use Rattle.cadf_event.specs.LogName.{is_name_text}
use Rattle.cadf_line.specs.Digest.{IsDigest}
use Rattle.cadf_linefile.specs.Lines.{text_of_lines}
use Rattle.cadf_linefile.specs.Verdict.{log_line, with_digest_line}
use Rattle.cadf_sketch.specs.Layouts.{IsLayout}
use Rattle.cadf_sketch.specs.Sketches.{SketchModel}
use Rattle.cadf_sketch.specs.declared.cell.Cell.{Cell}
use Rattle.cadf_sketch.specs.declared.layout.Head.{Head}
use Rattle.cadf_sketch.specs.declared.tally.Tally.{Tally}

abbrev pub sketch_header : List ℕ
sketch_header = codes "CADF-SKETCH 1"

abbrev pub spelled : ℕ → List ℕ → List ℕ
spelled n ms = decimal n ++ flat_map (λ m. 32 ∷ decimal m) ms

abbrev pub head_of : SketchModel → Head
head_of s = record { layout = s.layout; digest = s.digest }

abbrev pub head_line : Head → List ℕ
head_line h = codes "S " ++ (decimal (3 * h.layout.size) ++ 32 ∷ (decimal h.layout.salt ++ 32 ∷ encode_lower h.digest))

abbrev pub counts_line : Tally → List ℕ
counts_line t = codes "C " ++ spelled t.digests t.ones

abbrev pub cell_line : Cell → List ℕ
cell_line c = encode_lower (c.digest ++ to_be_bytes w64 c.check)

abbrev pub cell_lines : SketchModel → List (List ℕ)
cell_lines s = head_line (head_of s) ∷ counts_line s.tally ∷ map cell_line s.cells

abbrev pub sketch_body : SketchModel → List (List ℕ)
sketch_body s = sketch_header ∷ log_line s.log ∷ cell_lines s

abbrev pub sketch_file : SketchModel → List ℕ
sketch_file s = text_of_lines (with_digest_line (sketch_body s))

-- ---- the invariant of a sketch

-- the layout is one, its salt has 64 bits, and the digest has the form of one
pub record IsHead (h : Head) : Type 0 where
  pub layout : IsLayout h.layout
  pub salt : h.layout.salt < 2 ^ 64
  pub digest : IsDigest h.digest

abbrev pub AreWords64 : List ℕ → Type 0
AreWords64 ns = AllByRecursion (λ n. n < 2 ^ 64) ns

-- the number of digests and 64 counts, each of 64 bits
pub record IsTally (t : Tally) : Type 0 where
  pub digests : t.digests < 2 ^ 64
  pub size : length t.ones ≡ 64
  pub ones : AreWords64 t.ones

pub record IsCell (c : Cell) : Type 0 where
  pub digest : IsDigest c.digest
  pub check : c.check < 2 ^ 64

-- the invariant of all but the log
pub record HasParts (s : SketchModel) : Type 0 where
  pub head : IsHead (head_of s)
  pub tally : IsTally s.tally
  pub cells : AllByRecursion IsCell s.cells
  pub count : length s.cells ≡ 3 * s.layout.size

pub record IsSketch (s : SketchModel) : Type 0 where
  pub log : is_name_text s.log ≡ true
  pub parts : HasParts s

-- sketches with equal files are equal
abbrev pub SketchFileIsInjective : Type 0
SketchFileIsInjective = (s t : SketchModel) → IsSketch s → IsSketch t → sketch_file s ≡ sketch_file t → s ≡ t
