-- The first texts that two or more different texts follow.
--     multi_valued_keys s       these texts, ascending
use Rattle.std.specs.Prelude.{List, length, nat_le}
use Rattle.std.specs.List.{filter}
use Rattle.cadf_join.specs.Sets as set
use Rattle.cadf_join.specs.Contents.{Text, Contents, suffixes_of}
use Rattle.cadf_join.specs.Maps.{heads}

abbrev pub multi_valued_keys : Contents → List Text
multi_valued_keys s = filter (λ k. nat_le 2 (length (set.rising (heads (suffixes_of s k))))) (set.rising (heads s))
