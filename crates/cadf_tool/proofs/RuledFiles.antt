-- The contents of a file that `rule` wrote.
use Rattle.cadf_tool.proofs.Common.{◌≡◌, ℕ, Some, Result, Ok, sym, ap, ◌∙◌, IsReplicaSet, ARuling, taken, ReplicaModel, RulingParts, Loaded, ToolFault, log_named, atoms_loaded, ruling_on, ruling_for, ruling_at, ruled_of}
use Rattle.cadf_tool.proofs.RulingAdded.{IsRuled, ruled_is, ruled_kept}

one_ruling : (x y : RulingParts) → ◌≡◌ {A = Result RulingParts ToolFault} (Ok x) (Ok y) → x ≡ y
one_ruling x y e = cc

module _ (place : ℕ) (ruling : RulingParts) (loaded : Loaded) (h : ReplicaModel) (made : ruled_of ruling.letter ruling.key place loaded ≡ Ok h) where
  is_ruled : IsRuled ruling.letter ruling.key place (log_named loaded) (atoms_loaded loaded) h
  is_ruled = ruled_is ruling.letter ruling.key place (log_named loaded) (atoms_loaded loaded) h made

  pub rule_kept : IsReplicaSet (atoms_loaded loaded) → IsReplicaSet h.atoms
  rule_kept kept = ruled_kept ruling.letter ruling.key place (log_named loaded) (atoms_loaded loaded) h kept is_ruled

  pub rule_log : log_named loaded ≡ Some h.log
  rule_log = is_ruled.log

  -- the ruling is that of the value that was ruled
  ruling_stands : ruling_at (atoms_loaded loaded) ruling.letter ruling.key place ≡ Ok ruling → ruling_on ruling.letter ruling.key is_ruled.value ≡ ruling
  ruling_stands at =
      one_ruling (ruling_on ruling.letter ruling.key is_ruled.value) ruling
      (sym (ap (ruling_for ruling.letter ruling.key) is_ruled.at_place) ∙ at)

  pub rule_atoms : ruling_at (atoms_loaded loaded) ruling.letter ruling.key place ≡ Ok ruling → h.atoms ≡ taken (atoms_loaded loaded) (ARuling ruling)
  rule_atoms at = is_ruled.atoms ∙ ap (λ r. taken (atoms_loaded loaded) (ARuling r)) (ruling_stands at)
