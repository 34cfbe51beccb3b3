-- The suffixes that follow a list of texts in a set.
--     suffixes_after s p  the suffixes, after p, of the lists of s that begin with p
--     sections_of s         the first texts of the lists of s, ascending, each with the suffixes that follow it
--     sections_from f       the same: that of the least first text, and those above it
use Rattle.std.specs.Prelude.{List, [], ◌∷◌, map, Option, Some, None}
use Rattle.cadf_join.specs.Contents.{Text, Texts, Contents, suffixes_of}
use Rattle.cadf_join.specs.Maps.{heads}
use Rattle.cadf_join.specs.Sets as set
use Rattle.cadf_pathset.specs.declared.suffix_set.Section as held

abbrev pub suffixes_after : Contents → Texts → Contents
suffixes_after s [] = s
suffixes_after s (t ∷ p) = suffixes_after (suffixes_of s t) p

abbrev pub sections_of : Contents → List (Text × Contents)
sections_of s = map (λ t. (t, suffixes_of s t)) (set.rising (heads s))

abbrev pub sections_from : Option held.Section → List (Text × Contents)
sections_from None = []
sections_from (Some f) = (f.text.now, f.behind) ∷ sections_of f.above
