-- The text that `rehearse` writes for the replicas of all sites.
--     is_same h k        both have the same log and the same atoms
--     place_of h sites   the index of the first site that is the same as h
--     sites_text sites   a line for each site: its number, the number of its atoms, and the least site that is the same
use Rattle.std.specs.Prelude.{ℕ, ◌+◌, Bool, ◌&&◌, List, [], ◌∷◌, ◌++◌, length, codes, decimal}
use Rattle.std.specs.List.{position_or_len}
use Rattle.cadf_join.specs.Contents.{Text}
use Rattle.cadf_join.specs.Sets as set
use Rattle.cadf_join.specs.Prefixes.{saturated}
use Rattle.cadf_line.specs.Atoms.{is_text}
use Rattle.cadf_set.specs.Replica.{ReplicaModel}

abbrev pub is_same : ReplicaModel → ReplicaModel → Bool
is_same h k = is_text h.log k.log && (set.is_subset h.atoms k.atoms && set.is_subset k.atoms h.atoms)

abbrev pub place_of : ReplicaModel → List ReplicaModel → ℕ
place_of h sites = position_or_len (is_same h) sites

abbrev pub site_line : ℕ → ℕ → ℕ → Text
site_line site atoms same =
    codes "site " ++ (decimal site ++ (codes " atoms " ++ (decimal atoms ++ (codes " as " ++ (decimal same ++ 10 ∷ [])))))

-- the line of the site of that number; the count is at most the greatest `u64`
abbrev pub line_at : List ReplicaModel → ℕ → ReplicaModel → Text
line_at sites i h = site_line i (saturated (length (set.rising h.atoms))) (place_of h sites)

-- the lines of these sites, of which the first has that number
abbrev pub lines_from : List ReplicaModel → ℕ → List ReplicaModel → Text
lines_from sites i [] = []
lines_from sites i (h ∷ hs) = line_at sites i h ++ lines_from sites (i + 1) hs

unfoldable pub sites_text : List ReplicaModel → Text
sites_text sites = lines_from sites 0 sites
