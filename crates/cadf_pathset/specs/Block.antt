-- Texts in one block of bytes, one after another.
--     texts_from s ends bs   the texts in the bytes bs: the first begins at offset s, and each ends at its offset in `ends`
--     AreEnds s ends bs      the offsets are ascending, lie on character boundaries, and bs ends at the last of them
use Rattle.std.specs.Prelude.{◌≡◌, ◌≤◌, ◌-◌, ℕ, List, [], ◌∷◌, take, drop}
use Rattle.std.specs.Str.{IsCharBoundary}
use Rattle.cadf_join.specs.Contents.{Texts}

abbrev pub texts_from : ℕ → List ℕ → List ℕ → Texts
texts_from s [] bs = []
texts_from s (e ∷ es) bs = take (e - s) bs ∷ texts_from e es (drop (e - s) bs)

abbrev pub AreEnds : ℕ → List ℕ → List ℕ → Type 0
AreEnds s [] bs = bs ≡ []
AreEnds s (e ∷ es) bs = (s ≤ e) × IsCharBoundary bs (e - s) × AreEnds e es (drop (e - s) bs)
