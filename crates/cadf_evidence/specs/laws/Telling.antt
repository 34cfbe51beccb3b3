-- Telling of the facts of two lists one after the other is telling of those of both.
use Rattle.std.specs.Prelude.{ℕ, Bool, List, [], ◌++◌}
use Rattle.std.proofs.Common.{refl, sym, ap, ◌∙◌, append_assoc, append-nil}
use Rattle.std.proofs.lemmas.Grind.{flat_map-append}
use Rattle.cadf_join.specs.Contents.{Texts}
use Rattle.cadf_evidence.specs.Told.{Tells, told, told_line, word_for}

pub tells_none : (absent : Bool) (text : List ℕ) → Tells absent text [] absent text
tells_none absent text = (refl, sym (append-nil text))

pub tells_more : (a b c : Bool) (u v w : List ℕ) (ps qs : List Texts) → Tells a u ps b v → Tells b v qs c w → Tells a u (ps ++ qs) c w
tells_more a b c u v w ps qs f g = (
  g.0 ∙ f.0,
  g.1 ∙ (λ i. f.1 i ++ told (f.0 i) qs) ∙ append_assoc u (told a ps) (told a qs)
      ∙ ap (λ z. u ++ z) (sym (flat_map-append (told_line (word_for a)) ps qs)),
)
