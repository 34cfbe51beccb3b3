-- What the proofs of this crate take from outside. Written by tests/proofs/imports.py.
pub use Rattle.cadf_arguments.specs.Arguments.{argument_status_of, argument_text_of}
pub use Rattle.cadf_arguments.specs.declared.fault.ArgumentFault.{ArgumentFault}
pub use Rattle.cadf_arguments.specs.declared.fault.ArgumentFault.TheVariants.{Cells, Key, Letter, LogName, Memory, Memory as NoMemory, Place, Salt, Sites, Unit as NoUnit}
pub use Rattle.cadf_c.specs.Arguments.{IsAsked, if_given, is_given, proof_asked, spells_name, unless}
pub use Rattle.cadf_c.specs.Statuses.{IsCall, IsRefused}
pub use Rattle.cadf_event.specs.Names.{is_name}
pub use Rattle.cadf_memory.specs.Handed.{IsHandedOut}
pub use Rattle.cadf_memory.specs.Made.{IsFirstFor, IsMadeFor, is_of_memory}
pub use Rattle.cadf_memory.specs.Memory.{bytes_in}
pub use Rattle.cadf_tool.specs.Faults.{status_of}
pub use Rattle.cadf_tool.specs.declared.fault.ToolFault.{ToolFault}
pub use Rattle.cadf_tool.specs.declared.fault.ToolFault.TheVariants.{Input, NoFacts, NoKeys, NoLog, NoValue, OtherLog, ReadFault, Rehearse, Script, TooFewCells, Ungrown, Unverified, WriteFault}
pub use Rattle.cadf_tool.specs.declared.request.Request.{Request}
pub use Rattle.std.proofs.Common.{Bool, Err, IfErr, IfOk, IsErrAnd, List, Ok, Result, [], ap, arith, false, if◌then◌else◌, inl, inr, length, nat_eq, pos, refl, rules, subst, sym, true, true≢false, w32, ℕ, ℤ, ◌&&◌, ◌∙◌, ◌∷◌, ◌≡◌, ◌≤◌, ◌⊎◌}
pub use Rattle.std.proofs.lemmas.Bool.{eqb-true}
pub use Rattle.std.proofs.lemmas.Int.{to_z-of_z}
pub use Rattle.std.proofs.lemmas.Str.{IsUtf8-from_is_utf8, is_utf8-from_IsUtf8}
pub use Rattle.std.specs.Prelude.{IsUtf8}
pub use Rattle.std.specs.Str.{is_utf8}
