-- The results of `sketch` and `missing-by-sketch` for inputs.
use Rattle.cadf_tool.proofs.Common.{common_steps, arith, ◌≡◌, ℕ, List, Option, None, Some, IfSome, unwrap_or, Result, Ok, Err, true, refl, sym, ap, ◌∙◌, subst, Text, Contents, InventoryModel, ReplicaModel, IsInventory, inventory_digest, DoNotCollide, LayoutModel, are_cells, default_cells, layout_with, SketchModel, sketch_of, own_salt, asked, asked_is, same_inventory, sketch-file-tells, IsAnswer, IsReplica, Some-same, Loaded, Replica, ToolFault, IsSketchReadOf, inventory_model_of, join_of, under_log, sketch_of_result, sketch_model_of, IsAnswerTo, IsOnOk}
use Rattle.cadf_tool.proofs.InventoryParts.{Notes, notes, notes_inventory, IsPartBy}
use Rattle.cadf_tool.proofs.Unions.{ok_of}

-- ---- the inventory that was sketched

pub sketched_digest : (n : InventoryModel) (layout : LayoutModel) → (sketch_of n layout).digest ≡ inventory_digest n
unfolding sketch_of
sketched_digest n layout = refl

-- the sketch of an input is that of its inventory
pub sketched_is : (cells salt : Option ℕ) (loaded : Loaded) (sketch : SketchModel) → sketch_model_of cells salt loaded ≡ Ok sketch
    → (noted : InventoryModel) × (inventory_model_of loaded ≡ Ok noted) × (sketch ≡ asked noted (unwrap_or cells default_cells) salt)
sketched_is cells salt loaded sketch e = by (inventory_model_of loaded) refl e
  where
    by : (r : Result InventoryModel ToolFault) → inventory_model_of loaded ≡ r → sketch_of_result cells salt r ≡ Ok sketch
        → (noted : InventoryModel) × (inventory_model_of loaded ≡ Ok noted) × (sketch ≡ asked noted (unwrap_or cells default_cells) salt)
    by (Ok noted) is k = let same : sketch ≡ asked noted (unwrap_or cells default_cells) salt = cc in (noted, is, same)
    by (Err fault) is k = absurd (cc)

cells_asked : (cells : Option ℕ) → IfSome cells (λ n. are_cells n ≡ true) → are_cells (unwrap_or cells default_cells) ≡ true
cells_asked cells h = grind (arith, common_steps)

-- what was read of a sketch's file has the digest of the inventory that was sketched
pub sketched_by : (of : List Loaded → Type 0) (noted : InventoryModel) (sketch : SketchModel)
    → ((ls : List Loaded) (k : ReplicaModel) → of ls → join_of None ls ≡ Ok k → IsReplica k) → IsSketchReadOf of noted sketch
    → (ls : List Loaded) × (k : ReplicaModel) × of ls × (join_of None ls ≡ Ok k) × Notes (Replica k) noted × IsInventory noted
    × (sketch.digest ≡ inventory_digest noted)
sketched_by of noted sketch known (bytes, (ls, cells, salt, given, read, made, is), input) =
    let u = ok_of (join_of None ls) (λ k. inventory_model_of (Replica k)) noted made in
    let n : Notes (Replica u.0) noted = notes (Replica u.0) noted u.2 in
    let inventory = notes_inventory (Replica u.0) noted u.0 (known ls u.0 read u.1) (Some-same u.0.log noted.log n.log) n in
    let many = unwrap_or cells default_cells in
    let same : asked noted many salt ≡ sketch =
    sketch-file-tells (asked noted many salt) sketch (asked_is noted many salt inventory (cells_asked cells given.number) given.odd) input.holds
    (sym is ∙ input.is) in
    let layout = layout_with many (unwrap_or salt (own_salt noted)) in
    (ls, u.0, read, u.1, n, inventory, ap (λ (s : SketchModel). s.digest) (sym same) ∙ sketched_digest noted layout)

-- ---- the delta against a sketch

pub held_named : (o : Option Text) (atoms : Contents) (h : ReplicaModel) → under_log o atoms ≡ Ok h → (o ≡ Some h.log) × (h.atoms ≡ atoms)
held_named o atoms h e = grind (arith, common_steps)

-- a result is the delta of the replica against the inventory that was decoded
module _ (held : ReplicaModel) (sketch : SketchModel) (part : ReplicaModel) (answer : IsAnswer held sketch part) where
  pub part_by_answer : IsPartBy (Replica held) answer.theirs part
  part_by_answer = record {
    log = ap (λ (k : ReplicaModel). Some k.log) (sym answer.missing);
    atoms = ap (λ (k : ReplicaModel). k.atoms) answer.missing;
  }

  -- if the files of both don't collide, the inventory decoded is the one sketched
  pub part_by_sketched : (sketched : InventoryModel) → IsInventory sketched → sketch.digest ≡ inventory_digest sketched
      → DoNotCollide answer.theirs sketched → IsPartBy (Replica held) sketched part
  unfolding inventory_digest
  part_by_sketched sketched inventory is share =
      subst (λ m. IsPartBy (Replica held) m part)
      (same_inventory answer.theirs sketched answer.inventory inventory share (answer.digest ∙ is)) part_by_answer

-- the result of an engine, with the replica that was read
pub answer_of : (number : ℕ) (sketch : SketchModel) (read : Result ReplicaModel ToolFault) (part : ReplicaModel) → IsOnOk read (IsAnswerTo number sketch) (Ok part)
    → (held : ReplicaModel) × (read ≡ Ok held) × IsAnswer held sketch part
answer_of number sketch (Ok held) part k = (held, refl, k)
answer_of number sketch (Err fault) part k = absurd (cc)
