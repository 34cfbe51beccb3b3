-- What the proofs of this crate take from outside. Written by tests/proofs/imports.py.
pub use Rattle.cadf_atom.specs.Contributions.{document_atoms}
pub use Rattle.cadf_event.specs.Document.{DocumentParts}
pub use Rattle.cadf_join.specs.Contents.{Contents, Has, IsWithin, Text, Texts}
pub use Rattle.cadf_join.specs.laws.Contents.{texts_same, texts_total}
pub use Rattle.cadf_line.proofs.Missing.{missing_by_is, missing_or_held, missing_within, part_suffices, unknown_has, with_carriers_least}
pub use Rattle.cadf_line.specs.Atoms.{IsGrounded}
pub use Rattle.cadf_line.specs.Digest.{atom_digest}
pub use Rattle.cadf_line.specs.Missing.{NoCollision, digests_of, missing, missing_by, unknown}
pub use Rattle.cadf_rehearsal.specs.Federation.{IsLater, IsOneLog, TurnsTo, at_number, at_or, held_at, left_by, log_at, log_of_message, message_of, world_of}
pub use Rattle.cadf_rehearsal.specs.Schedule.{Inventory, Means, Message, PartFor, Whole, World, adds, after, answered, carried, delivered, is_message, is_of_log, learnt_atoms, made_by, makes, next, plain, start, with_at, world_after_turn}
pub use Rattle.cadf_rehearsal.specs.declared.fault.RehearseFault.{RehearseFault}
pub use Rattle.cadf_rehearsal.specs.declared.fault.RehearseFault.TheVariants.{NoMessage, NoSite, NotInventory, WrongAddressee}
pub use Rattle.cadf_rehearsal.specs.declared.federation.Federation.{Federation}
pub use Rattle.cadf_rehearsal.specs.declared.federation.Message.TheVariants.{Asked}
pub use Rattle.cadf_rehearsal.specs.declared.turn.Turn.{Turn}
pub use Rattle.cadf_rehearsal.specs.declared.turn.Turn.TheVariants.{Answer, Ask, Deliver, Learn, Send}
pub use Rattle.cadf_set.proofs.ContributionLaws.{document_grounded, grounded_empty, grounded_union}
pub use Rattle.cadf_set.specs.Inventory.{InventoryModel}
pub use Rattle.cadf_set.specs.Refusals.{IsLogFault, IsOfLog}
pub use Rattle.cadf_set.specs.Replica.{ReplicaModel}
pub use Rattle.std.proofs.Common.{Bool, List, Ok, [], ap, arith, cond, drop, eq-eqb, eqb-true, false, get_or, inl, inr, le-leb, leb-true, length, lt-ltb, ltb-true, map, ne_eqb, refl, replicate, reverse, rules, set, sub-one, subst, suc, sym, take, true, zero, ℕ, ◌++◌, ◌+◌, ◌-◌, ◌<◌, ◌∙◌, ◌∷◌, ◌≡◌, ◌≢◌, ◌≤◌}
pub use Rattle.std.proofs.lemmas.Bool.{eqb-false}
pub use Rattle.std.proofs.lemmas.Grind.{common_steps}
pub use Rattle.std.proofs.lemmas.List.{length-reverse, length-set, length-take-le, reverse-append, same_lists, take-append-drop, take_all}
pub use Rattle.std.proofs.lemmas.List.FromFn.{get_or-map-range_with_len, length-map-range_with_len}
pub use Rattle.std.proofs.lemmas.Result.{err_from_is_err_and}
pub use Rattle.std.specs.Cmp.Lexicographic.{bytes_decides}
pub use Rattle.std.specs.Prelude.{Err, None, Option, Result, Some, nat_eq, nat_lt}
pub use Rattle.std.specs.Result.{OnOk}
pub use Rattle.std.specs.Vec.{with_item}
