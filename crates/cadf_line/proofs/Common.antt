-- What the proofs of this crate take from outside. Written by tests/proofs/imports.py.
pub use Rattle.cadf_join.proofs.Members.{listed_either, listed_left, listed_right}
pub use Rattle.cadf_join.specs.Contents.{Contents, Has, IsLeastWith, IsWithin, Text, Texts}
pub use Rattle.cadf_join.specs.Prefixes.{texts_at}
pub use Rattle.cadf_join.specs.Sets.{Listed}
pub use Rattle.cadf_join.specs.laws.Contents.{text_same, text_total, texts_same, texts_total}
pub use Rattle.cadf_join.specs.laws.Rising.{listed-rising, rising-listed}
pub use Rattle.cadf_line.specs.AtomLine.{strings}
unfoldable pub use Rattle.cadf_line.specs.AtomLine.{line}
pub use Rattle.cadf_line.specs.Atoms.{IsGrounded, begins_with, carrier, event_letter, is_text}
pub use Rattle.cadf_line.specs.Digest.{HashesPrefix, atom_digest, line_before, open_line, spelled_items}
pub use Rattle.cadf_line.specs.LinePieces.{are_some, ending, mark, piece, pieces}
pub use Rattle.cadf_line.specs.Missing.{Digests, IsGroundedOver, NoCollision, digests_of, missing, missing_by, missing_by_filter, unknown, with_carriers}
pub use Rattle.cadf_line.specs.States.{AreStates, Keeps, StateAt}
pub use Rattle.cadf_line.specs.declared.line_digest.LineDigests.{LineDigests}
pub use Rattle.json.specs.Print.{print, quoted}
unfoldable pub use Rattle.json.specs.Print.{print_from}
pub use Rattle.json.specs.Token.{string}
pub use Rattle.serde_json.specs.Written.{items_text}
pub use Rattle.sha2.specs.Hashers.{Holds256}
pub use Rattle.sha2.specs.Sha256.{sha256}
pub use Rattle.sha2.specs.declared.Sha256.{Sha256}
pub use Rattle.std.proofs.Common.{Bool, List, [], add-one, ap, append_assoc, arith, below_more, cond, drop, drop-cons, drop_of_length-le, false, get_or, inl, inr, length, map, min, refl, subst, sym, take, true, ℕ, ◌++◌, ◌+◌, ◌-◌, ◌<◌, ◌∙◌, ◌∷◌, ◌≡◌, ◌≤◌, ◌⊎◌}
pub use Rattle.std.proofs.lemmas.Bool.Decides.{nat_tests}
pub use Rattle.std.proofs.lemmas.List.{append-nil, get_or-map, get_or-take, get_or_append_left, get_or_push, length-map, length-take, length-take-le, length_push, nil_from_length, take-append-le, take-take, take_all, take_more}
pub use Rattle.std.proofs.lemmas.Str.{IsUtf8-append, IsUtf8-nil}
pub use Rattle.std.specs.Borrow.{Bor}
pub use Rattle.std.specs.List.{cons_option, filter, filter_map, find, flat_map}
pub use Rattle.std.specs.Prelude.{None, Option, Some, not, ◌==◌}
pub use Rattle.std.specs.Str.{IsUtf8}
