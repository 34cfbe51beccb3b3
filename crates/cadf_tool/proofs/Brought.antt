-- The atoms of contributions in a list.
use Rattle.cadf_tool.proofs.Common.{common_steps, arith, ◌≡◌, ◌↔◌, List, [], ◌∷◌, ◌++◌, map, sym, ◌∙◌, Contains, Contents, IsWithin, texts_total, texts_same, Contribution, ARuling, atoms, union_all, contains_listed, listed_contains, listed_within, Loaded, atoms_loaded, Derivation, External, Empty, Joined, Kept, Ruled, Delta, Files, End, File, contribution_of, external_inputs, external_inputs_of, all_inputs, brought, brought_by}
use Rattle.cadf_join.specs.laws.Sets as laws
use Rattle.cadf_join.proofs.Members as members

abbrev pub inputs_by : List Contribution → Contents
inputs_by cs = union_all (map atoms cs)

pub left_brought : (cs ds : List Contribution) → IsWithin (inputs_by cs) (inputs_by (cs ++ ds))
left_brought cs ds = listed_within cs (cs ++ ds) (λ c l. members.listed_left c cs ds l)

pub right_brought : (cs ds : List Contribution) → IsWithin (inputs_by ds) (inputs_by (cs ++ ds))
right_brought cs ds = listed_within ds (cs ++ ds) (λ c l. members.listed_right c cs ds l)

pub same_brought : (cs ds : List Contribution) → ((c : Contribution) → Contains cs c ↔ Contains ds c) → inputs_by cs ≡ inputs_by ds
same_brought cs ds same = laws.same_from_within texts_total texts_same _ _ (within cs ds (λ c. (same c).0)) (within ds cs (λ c. (same c).1))
  where
    within : (ks ns : List Contribution) → ((c : Contribution) → Contains ks c → Contains ns c) → IsWithin (inputs_by ks) (inputs_by ns)
    within ks ns f = listed_within ks ns (λ c k. contains_listed ns c (f c (listed_contains ks c k)))

-- ---- what a file brought is of its external inputs

contributed : (l : Loaded) → atoms (contribution_of l) ≡ atoms_loaded l
contributed l = grind (arith, common_steps)

pub brought_alone : (l : Loaded) → inputs_by (contribution_of l ∷ []) ≡ atoms_loaded l
brought_alone l = laws.union-empty texts_total texts_same (atoms (contribution_of l)) ∙ contributed l

mutual
  pub brought_of_inputs : (m : Derivation) → IsWithin (brought m) (all_inputs m)
  brought_of_inputs (External given loaded) = laws.IsWithin-same (sym (brought_alone loaded))
  brought_of_inputs (Empty log) = laws.IsWithin-refl _
  brought_of_inputs (Joined log files) = files_of_inputs files
  brought_of_inputs (Kept cut log files) = λ q h. files_of_inputs files q (members.retain_has texts_total texts_same (brought_by files) cut q h)
  brought_of_inputs (Ruled place ruling files) = laws.IsWithin-union texts_total (brought_by files) (atoms (ARuling ruling)) _
      (λ q h. right_brought (ARuling ruling ∷ []) (external_inputs_of files) q (files_of_inputs files q h))
      (laws.IsWithin-left texts_total (atoms (ARuling ruling)) _)
  brought_of_inputs (Delta means from to) = files_of_inputs from

  pub files_of_inputs : (files : Files) → IsWithin (brought_by files) (inputs_by (external_inputs_of files))
  files_of_inputs End = laws.IsWithin-refl _
  files_of_inputs (File m files) = laws.IsWithin-union texts_total (brought m) (brought_by files) _
      (λ q h. left_brought (external_inputs m) (external_inputs_of files) q (brought_of_inputs m q h))
      (λ q h. right_brought (external_inputs m) (external_inputs_of files) q (files_of_inputs files q h))
