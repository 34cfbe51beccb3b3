-- Sources that are read as the file of a model, whatever bytes they begin with.
--     RefusesModel k old new f     the source is refused for the fault of its bytes as a file of the kind
--     model_spec k Is              how the source is read
--     inventory_spec, sketch_spec, seal_spec, proof_spec, sealed_spec, erased_spec, keys_spec    how it is read as a file of each of these kinds
use Rattle.std.specs.Prelude.{◌≡◌, ◌≢◌, ◌⊎◌, ℕ, List, Bool, true, false, None, Err}
use Rattle.std.specs.Io.KnownBytes.{Consumes, IsAtEnd}
use Rattle.cadf_json.specs.Streams.{counted}
use Rattle.cadf_inventory.specs.InventoryFile.{IsInventory}
use Rattle.cadf_inventory.specs.InventoryVerdict.{inventory_kind}
use Rattle.cadf_linefile.specs.declared.fault.FileFault.{FileFault}
use Rattle.cadf_linefile.specs.declared.fault.FileFault.TheVariants.{Trailing, ReadFault, Memory}
use Rattle.cadf_linefile.specs.declared.file_feed.TheConstants.{FILE_LIMIT}
use Rattle.cadf_linefile.specs.ModelKind.{ModelKind, file_of, decided_of, verdict_of}
use Rattle.cadf_listed.specs.ListFile.{ListedModel, IsListed, sealed_header, erased_header}
use Rattle.cadf_listed.specs.ListVerdict.{list_kind}
use Rattle.cadf_evidence.specs.KeyList.{KeyListModel, IsKeyList}
use Rattle.cadf_evidence.specs.KeyVerdict.{keys_kind}
use Rattle.cadf_evidence.specs.ProofFile.{ProofModel, IsProof}
use Rattle.cadf_evidence.specs.ProofVerdict.{proof_kind}
use Rattle.cadf_evidence.specs.SealFile.{SealModel, IsSeal}
use Rattle.cadf_evidence.specs.SealVerdict.{seal_kind}
use Rattle.cadf_set.specs.Inventory.{InventoryModel}
use Rattle.cadf_sketch.specs.Sketches.{SketchModel}
use Rattle.cadf_sketch.specs.SketchFile.{IsSketch}
use Rattle.cadf_sketch.specs.SketchVerdict.{sketch_kind}
use Rattle.cadf_tool.specs.declared.input.LoadFault.{LoadFault}
use Rattle.cadf_tool.specs.InputFault.{of_file}
use Rattle.cadf_tool.specs.Inputs.{SourceState}
use Rattle.cadf_tool.specs.MissingBy.{IsFileInput}
use Rattle.cadf_tool.specs.Run.{InputSpec}

-- the verdict on the bytes read, which are all bytes unless they decide a fault or a read failed
pub record RefusesModel {M : Type 0} (k : ModelKind M) (old new : SourceState) (fault : FileFault) : Type 0 where
  pub failed : Bool
  pub bytes : List ℕ
  pub failures : new.failures ≡ counted failed old.failures
  pub consumed : Consumes old.left new.left bytes
  pub verdict : verdict_of k FILE_LIMIT failed bytes ≡ Err fault
  pub failure : failed ≡ true → (fault ≡ ReadFault) ⊎ (fault ≡ Trailing)
  pub end : failed ≡ false → decided_of k FILE_LIMIT bytes ≡ None → IsAtEnd new.left

-- a fault of the file is a fault of the input; `Memory` says nothing about the bytes
abbrev pub IsModelRefusal : {M : Type 0} → ModelKind M → SourceState → SourceState → LoadFault → Type 0
IsModelRefusal k old new f = (fault : FileFault) × (fault ≢ Memory) × (f ≡ of_file fault) × RefusesModel k old new fault

abbrev pub model_spec : {M : Type 0} → ModelKind M → (M → Type 0) → InputSpec M
model_spec k Is = record { limit = FILE_LIMIT; is = IsFileInput (file_of k) Is FILE_LIMIT; refuses = IsModelRefusal k }

abbrev pub inventory_spec : InputSpec InventoryModel
inventory_spec = model_spec inventory_kind IsInventory

abbrev pub sketch_spec : InputSpec SketchModel
sketch_spec = model_spec sketch_kind IsSketch

abbrev pub seal_spec : InputSpec SealModel
seal_spec = model_spec seal_kind IsSeal

abbrev pub proof_spec : InputSpec ProofModel
proof_spec = model_spec proof_kind IsProof

abbrev pub sealed_spec : InputSpec ListedModel
sealed_spec = model_spec (list_kind sealed_header) IsListed

abbrev pub erased_spec : InputSpec ListedModel
erased_spec = model_spec (list_kind erased_header) IsListed

abbrev pub keys_spec : InputSpec KeyListModel
keys_spec = model_spec keys_kind IsKeyList
