-- The carriers of lists.
--     with_carriers_by carrier s      the set, and the carriers of its members
--     carriers_in carrier found ls    the carriers found so far, then for each list its carrier if that is above the last one found
use Rattle.std.specs.Prelude.{List, [], ◌∷◌, ◌++◌, cond, map}
use Rattle.cadf_join.specs.Sets as set
use Rattle.cadf_join.specs.Contents.{Texts, Contents}
use Rattle.cadf_pathset.specs.Lists.{is_above_last}

abbrev pub with_carriers_by : (Texts → Texts) → Contents → Contents
with_carriers_by carrier s = set.union s (set.from_list (map carrier (set.items s)))

abbrev pub carriers_in : (Texts → Texts) → List Texts → List Texts → List Texts
carriers_in carrier found [] = found
carriers_in carrier found (l ∷ ls) = carriers_in carrier (cond (is_above_last found (carrier l)) (found ++ carrier l ∷ []) found) ls
