-- What the proofs of this crate take from outside. Written by tests/proofs/imports.py.
pub use Rattle.cadf_event.proofs.KnownParts.{all_append}
pub use Rattle.cadf_join.proofs.Members.{from_list_has, has_from_list}
pub use Rattle.cadf_join.specs.Contents.{Contents, Has, Text, Texts, text_cmp}
pub use Rattle.cadf_join.specs.Prefixes.{texts_at}
pub use Rattle.cadf_join.specs.Sets.{Listed, contains-from_list, from_list_push}
pub use Rattle.cadf_join.specs.laws.Contents.{text_same, text_total, texts_same, texts_total}
pub use Rattle.cadf_join.specs.laws.Rising.{listed-rising, rising-listed}
pub use Rattle.cadf_key.specs.Keys.{Collects, digests_in, key_digest, key_length, keys_of}
pub use Rattle.cadf_key.specs.laws.Collected.{digests_append}
pub use Rattle.cadf_line.proofs.Missing.{digest_of_some, known_digest, listed_map, map_listed}
pub use Rattle.cadf_line.specs.Digest.{IsDigest}
pub use Rattle.cadf_line.specs.Missing.{digests_of}
pub use Rattle.std.proofs.Common.{ap, arith, inl, inr, subst, sym, ◌∙◌}
pub use Rattle.std.proofs.lemmas.Grind.{common_steps}
pub use Rattle.std.specs.Prelude.{List, [], map, true, ◌++◌, ◌∷◌, ◌≡◌, ◌≤◌}
pub use mathlib.Core.Bool.{true≢false}
