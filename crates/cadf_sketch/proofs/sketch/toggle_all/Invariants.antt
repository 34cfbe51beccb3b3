use Rattle.cadf_sketch.proofs.Common.{◌≡◌, length, rising, toggled_all}
use Rattle.cadf_sketch.proofs.sketch.toggle_all.Given as goal

abbrev pub invariant-loop-digest : goal.invariant-loop-digest
invariant-loop-digest l =
    (length l.cells ≡ length l.fn.cells) × (toggled_all l.cells l.digest-iterator l.layout ≡ toggled_all l.fn.cells (rising l.inventory.digests) l.layout)
