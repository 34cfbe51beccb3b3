-- Trees of runs of which nothing is left out.
use Rattle.cadf_tool.proofs.Common.{◌≡◌, List, [], ◌∷◌, Option, sym, ap, ◌∙◌, subst, inl, inr, Listed, Text, Texts, Has, IsWithin, texts_total, texts_same, ARuling, atoms, RulingParts, union_all_append, Unit, key, part_keys, in_part, key_listed, Derivation, Files, File, kept, is_in_part, parts, external_inputs, external_inputs_of, brought_by, IsUnforgotten, AreUnforgotten}
use Rattle.cadf_join.specs.Sets as set
use Rattle.cadf_join.specs.laws.Sets as laws
use Rattle.cadf_join.proofs.Members as members
use Rattle.cadf_tool.proofs.Brought.{inputs_by, files_of_inputs}

pub ruled_whole : (ruling : RulingParts) (files : Files) → AreUnforgotten files → set.union (brought_by files) (atoms (ARuling ruling))
    ≡ inputs_by (ARuling ruling ∷ external_inputs_of files)
ruled_whole ruling files whole =
    ap (λ s. set.union s (atoms (ARuling ruling))) whole ∙ laws.union-comm texts_total texts_same (inputs_by (external_inputs_of files)) (atoms (ARuling ruling))

pub file_whole : (m : Derivation) (files : Files) → IsUnforgotten m → AreUnforgotten files → AreUnforgotten (File m files)
file_whole m files a b = (λ i. set.union (a i) (b i)) ∙ sym (union_all_append (external_inputs m) (external_inputs_of files))

-- ---- the parts of a split

module _ (unit : Unit) (log : Option Text) (files : Files) where
  -- an atom is in the part with its key
  pub of_part : (ks : List Text) (q : Texts) → Listed (key unit q) ks → Has (brought_by files) q → Has (brought_by (parts unit log files ks)) q
  of_part (k ∷ ks) q (inl e) h =
      members.in_union_left texts_total texts_same (kept (is_in_part unit k) (brought_by files)) _ q (in_part (key unit) k (brought_by files) q h e)
  of_part (k ∷ ks) q (inr l) h = members.in_union_right texts_total texts_same _ _ q (of_part ks q l h)
  of_part [] q l h = absurd l

  pub parts_within : (ks : List Text) → IsWithin (brought_by (parts unit log files ks)) (brought_by files)
  parts_within [] q h = absurd (members.not_in_empty texts_total texts_same q h)
  parts_within (k ∷ ks) q h = elim (members.of_union texts_total texts_same (kept (is_in_part unit k) (brought_by files)) _ q h) [
    | inl g ↦ members.retain_has texts_total texts_same (brought_by files) (is_in_part unit k) q g
    | inr g ↦ parts_within ks q g
  ]

  abbrev pub AreAll : List Text → Type 0
  AreAll ks = (k : Text) → Listed k (part_keys unit (brought_by files)) → Listed k ks

  pub parts_together : (ks : List Text) → AreAll ks → brought_by (parts unit log files ks) ≡ brought_by files
  parts_together ks all = laws.same_from_within texts_total texts_same _ _ (parts_within ks)
      (λ q h. of_part ks q (all (key unit q) (key_listed (key unit) (brought_by files) q h)) h)

  -- they have the external inputs of the files, if there is a part
  same_inputs : (ks : List Text) → IsWithin (inputs_by (external_inputs_of (parts unit log files ks))) (inputs_by (external_inputs_of files))
  same_inputs [] q h = absurd (members.not_in_empty texts_total texts_same q h)
  same_inputs (k ∷ ks) q h =
      let both = union_all_append (external_inputs_of files) (external_inputs_of (parts unit log files ks)) in
      elim (members.of_union texts_total texts_same (inputs_by (external_inputs_of files)) _ q (subst (λ s. Has s q) both h)) [
        | inl g ↦ g
        | inr g ↦ same_inputs ks q g
      ]

  pub parts_whole : (ks : List Text) → AreUnforgotten files → AreAll ks → AreUnforgotten (parts unit log files ks)
  parts_whole ks whole all = laws.same_from_within texts_total texts_same _ _ (files_of_inputs (parts unit log files ks))
      (λ q h. subst (λ s. Has s q) (sym (parts_together ks all)) (subst (λ s. Has s q) (sym whole) (same_inputs ks q h)))
