-- What of a set is left by a list of facts and keys.
--     is_omitted names q     the list has the key of the atom; or the atom is a ruling, and the list has its digest
--     left names s           the atoms of the set that the list doesn't omit
--     left_of e h            the replica of these
--     places_left n names qs the indices of those of the lists that are left, counted from n
--     Collects               a walk has appended the places of the lists that are left
--     IsKnown                if so many of the first texts of a list decide its key, it is known whether that was erased
use Rattle.std.specs.Prelude.{◌≡◌, ◌≤◌, ◌+◌, ℕ, Bool, cond, not, ◌&&◌, ◌||◌, List, [], ◌∷◌, ◌++◌, length}
use Rattle.cadf_join.specs.Sets as set
use Rattle.cadf_join.specs.Contents.{Texts, Contents}
use Rattle.cadf_line.specs.Digest.{atom_digest}
use Rattle.cadf_set.specs.Replica.{ReplicaModel}
use Rattle.cadf_key.specs.Keys.{is_ruling, key_length, key_digest}
use Rattle.cadf_listed.specs.ListFile.{ListedModel, Names, fact_name, key_name}

abbrev pub is_omitted : Names → Texts → Bool
is_omitted names q = set.contains names (key_name (key_digest q)) || (is_ruling q && set.contains names (fact_name (atom_digest q)))

abbrev pub is_left : Names → Texts → Bool
is_left names q = not (is_omitted names q)

abbrev pub left : Names → Contents → Contents
left names s = set.retain s (is_left names)

abbrev pub left_of : ListedModel → ReplicaModel → ReplicaModel
left_of e h = record { log = h.log; atoms = left e.names h.atoms }

-- ---- the places of what is left

abbrev pub places_left : ℕ → Names → List Texts → List ℕ
places_left n names [] = []
places_left n names (q ∷ qs) = cond (is_omitted names q) [] (n ∷ []) ++ places_left (n + 1) names qs

-- the list is the same, and the places of the lists, the first of which is n, were appended
abbrev pub Collects : Names → ℕ → List ℕ → List Texts → Names → ℕ → List ℕ → Type 0
Collects names n is qs later m js = (later ≡ names) × (m ≡ n + length qs) × (js ≡ is ++ places_left n names qs)

abbrev pub IsKnown : Names → Bool → ℕ → Texts → Type 0
IsKnown names has n q = key_length q ≤ n → has ≡ set.contains names (key_name (key_digest q))
