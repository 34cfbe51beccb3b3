-- What the proofs of this crate take from outside. Written by tests/proofs/imports.py.
pub use Rattle.cadf_atom.specs.AtomSets.{IsReplicaSet}
pub use Rattle.cadf_erased.specs.Left.{is_left, is_omitted, left, left_of, places_left}
pub use Rattle.cadf_file.proofs.FileTwoLemmas.{no_empty}
pub use Rattle.cadf_file.proofs.WalkLemmas.{nodes_are_walked}
pub use Rattle.cadf_file.specs.BodyAt.{body_at}
pub use Rattle.cadf_file.specs.FileTwo.{body_two, header_two}
pub use Rattle.cadf_file.specs.NodeLines.{node_line}
pub use Rattle.cadf_file.specs.Walked.{nodes_of_walk}
pub use Rattle.cadf_join.specs.Contents.{Contents, Has, IsWithin, Text, Texts}
pub use Rattle.cadf_join.specs.Sets.{rising}
pub use Rattle.cadf_join.specs.laws.Contents.{text_total, texts_same, texts_total}
pub use Rattle.cadf_json.specs.Streams.{AppendsPrefix}
pub use Rattle.cadf_key.specs.Keys.{is_ruling, key_digest}
pub use Rattle.cadf_line.proofs.Missing.{missing_suffices}
pub use Rattle.cadf_line.specs.Atoms.{IsGrounded, carrier, event_letter, is_text, ruling_letter}
pub use Rattle.cadf_line.specs.Digest.{atom_digest}
pub use Rattle.cadf_line.specs.Missing.{missing}
pub use Rattle.cadf_linefile.specs.Lines.{text_of_lines, with_line_feed}
pub use Rattle.cadf_linefile.specs.Verdict.{digest_line, log_line, with_digest_line}
pub use Rattle.cadf_linefile.specs.laws.Prefixes.{front_after, front_more, none_written}
pub use Rattle.cadf_listed.specs.ListFile.{ListedModel, Names, fact_name, key_name}
pub use Rattle.cadf_pathset.specs.Lists.{at_places}
pub use Rattle.cadf_set.proofs.ShownAgain.{in_order_retain}
pub use Rattle.cadf_set.specs.Replica.{ReplicaModel}
pub use Rattle.hex.specs.Hex.{encode_lower}
pub use Rattle.sha2.specs.Sha256.{sha256}
pub use Rattle.std.proofs.Common.{Bool, List, Some, [], ap, append-nil, arith, cond, drop, false, inl, inr, map, refl, subst, suc, sym, take, true, zero, ℕ, ◌++◌, ◌+◌, ◌∙◌, ◌∷◌, ◌≡◌}
pub use Rattle.std.proofs.KnownBytes.{Appends-trans}
pub use Rattle.std.proofs.lemmas.Grind.{common_steps}
pub use Rattle.std.proofs.lemmas.List.{take-take}
pub use Rattle.std.proofs.lemmas.List.Concat.{flat_map-append}
pub use Rattle.std.specs.Cmp.Lexicographic.{bytes_decides}
pub use Rattle.std.specs.Io.KnownBytes.{Appends}
pub use Rattle.std.specs.List.{filter, filter_map, slice_get}
pub use Rattle.std.specs.Prelude.{codes, not, ◌&&◌, ◌||◌, ◌↔◌}
pub use mathlib.Core.Bool.{true≢false}
