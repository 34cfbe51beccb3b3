-- The sketch of an input's inventory, and the delta of a union against a sketch.
--     AreAsked cells salt                 a sketch can have this number of cells and this salt, as far as they are given
--     sketch_model_of cells salt loaded   the sketch of an input's inventory, or why there is none
--     IsPartOfUnionBySketch both answer   a result for a list of inputs and a sketch; a relation, since it leaves open which digests peeling finds
use Rattle.std.specs.Prelude.{◌≡◌, ◌<◌, ◌^◌, ℕ, true, List, Option, IfSome, unwrap_or, Result, Ok, Err}
use Rattle.cadf_set.specs.Inventory.{InventoryModel, inventory_of}
use Rattle.cadf_set.specs.Replica.{ReplicaModel}
use Rattle.cadf_sketch.specs.Answers.{IsAnswer}
use Rattle.cadf_sketch.specs.Layouts.{are_cells, default_cells, is_salt}
use Rattle.cadf_sketch.specs.Refusals.{IsReadFault}
use Rattle.cadf_sketch.specs.Sketches.{SketchModel, asked}
use Rattle.cadf_sketch.specs.declared.reading.ReadFault.{ReadFault}
use Rattle.cadf_sketch.specs.declared.reading.ReadFault.TheVariants as read
use Rattle.cadf_tool.specs.declared.input.Loaded.{Loaded}
use Rattle.cadf_tool.specs.declared.fault.ToolFault.{ToolFault}
use Rattle.cadf_tool.specs.declared.fault.ToolFault.TheVariants.{OtherLog, TooFewCells, Memory}
use Rattle.cadf_tool.specs.MissingBy.{inventory_model_of, IsPartAgainst}

pub record AreAsked (cells salt : Option ℕ) : Type 0 where
  pub number : IfSome cells (λ n. are_cells n ≡ true)
  pub odd : IfSome salt (λ a. (is_salt a ≡ true) × (a < 2 ^ 64))

-- with the default number of cells, if none is given, and with the inventory's own salt, if none is given
abbrev pub sketch_of_result : Option ℕ → Option ℕ → Result InventoryModel ToolFault → Result SketchModel ToolFault
sketch_of_result cells salt (Ok noted) = Ok (asked noted (unwrap_or cells default_cells) salt)
sketch_of_result cells salt (Err fault) = Err fault

-- THE SKETCH of an input
abbrev pub sketch_model_of : Option ℕ → Option ℕ → Loaded → Result SketchModel ToolFault
sketch_model_of cells salt loaded = sketch_of_result cells salt (inventory_model_of loaded)

-- the sketch is the input of that number
abbrev pub of_read : ℕ → ReadFault → ToolFault
of_read number read.OtherLog = OtherLog number
of_read number (read.TooFewCells cells) = TooFewCells number cells
of_read number read.Memory = Memory

abbrev pub IsAnswerTo : ℕ → SketchModel → ReplicaModel → Result ReplicaModel ToolFault → Type 0
IsAnswerTo number sketch held (Ok part) = IsAnswer held sketch part
IsAnswerTo number sketch held (Err fault) = (f : ReadFault) × (fault ≡ of_read number f) × IsReadFault (inventory_of held) sketch f

-- THE DELTA AGAINST A SKETCH: the one against an inventory that has the sketch's digest
abbrev pub IsPartOfUnionBySketch : List Loaded × SketchModel → Result ReplicaModel ToolFault → Type 0
IsPartOfUnionBySketch both answer = IsPartAgainst IsAnswerTo both answer
