-- What the proofs of this crate take from outside. Written by tests/proofs/imports.py.
pub use Rattle.cadf_join.specs.Contents.{Text}
pub use Rattle.cadf_json.specs.declared.stream.Sink.{Ghosts as Sink}
pub use Rattle.cadf_memory.specs.Buffers.{buffer_before, buffer_name, buffer_text}
pub use Rattle.cadf_memory.specs.Handed.{IsHandedOut, handed}
pub use Rattle.cadf_memory.specs.Made.{IsFirstFor, IsMadeFor, fault_in_memory_of}
pub use Rattle.cadf_memory.specs.Memory.{bytes_in, slice_state, unread}
pub use Rattle.cadf_memory.specs.contracts.ghost_bytes.GhostBytes.new.Key.{name as #self}
pub use Rattle.cadf_memory.specs.declared.buffer.Buffer.{Buffer}
pub use Rattle.cadf_memory.specs.declared.slice_source.CadfBytes.{CadfBytes}
pub use Rattle.cadf_memory.specs.declared.slice_source.SliceSource.{SliceSource}
pub use Rattle.cadf_tool.proofs.Accepted.{accepted}
pub use Rattle.cadf_tool.proofs.MadeByRuns.{answered}
pub use Rattle.cadf_tool.specs.Faults.{fault_stage}
pub use Rattle.cadf_tool.specs.Inputs.{NoneFailed, SourceState}
pub use Rattle.cadf_tool.specs.Request.{accepts, task}
pub use Rattle.cadf_tool.specs.Requested.{IsAnswered}
pub use Rattle.cadf_tool.specs.Run.{IsAnswer, IsExpectedOfBy, IsFirstFaultBy, IsRunBy, IsWritten}
pub use Rattle.cadf_tool.specs.declared.fault.ToolFault.{ToolFault}
pub use Rattle.cadf_tool.specs.declared.fault.ToolFault.TheVariants.{ReadFault, WriteFault}
pub use Rattle.cadf_tool.specs.declared.request.Request.{Request}
pub use Rattle.std.proofs.Common.{Bool, Err, IfErr, IfOk, List, MatchResult, Ok, Option, Result, Some, [], ap, append-nil, append_assoc, arith, drop, false, inl, inr, length, length-append, length-drop, length-take-le, map, refl, rules, subst, sym, take, take_all, true, ℕ, ◌++◌, ◌+◌, ◌-◌, ◌<◌, ◌∙◌, ◌∷◌, ◌≡◌, ◌≤◌, ◌⊎◌}
pub use Rattle.std.proofs.Math.Dec.{leb}
pub use Rattle.std.proofs.Math.ListN.{drop_of_length-le}
pub use Rattle.std.proofs.lemmas.Bool.{leb-false, leb-true}
pub use Rattle.std.proofs.lemmas.Grind.{common_steps}
pub use Rattle.std.proofs.lemmas.List.{length-map, take-append-le}
pub use Rattle.std.proofs.lemmas.Result.{err_from_is_err_and}
pub use Rattle.std.specs.Io.KnownBytes.{Appends}
pub use base.Logic.{SProp, ent}
pub use contract.Monad.{Fun}
pub use contract.Running.{tables}
unfoldable pub use contract.Running.{tables_of}
pub use denote.Builtin.{RefOf}
pub use denote.Exit.{yes}
pub use denote.RattleType.{RattleType, Valss, owns}
pub use denote.Signature.{named_lft, plain, types_at}
pub use denote.Steps.{nothing}
pub use denote.Struct.Struct.{Struct, within}
pub use denote.Triple.Clauses.{Clauses, Ended, closing}
pub use denote.Triple.Entry.{alive}
pub use denote.Triple.Spec.{Meets, triple_of}
pub use denote.Triple.Table.{entered}
pub use denote.Triple.Walked.{Goes-dropped, Stays, ends_at, says, stay_dropped, walk_Meets, walk_of}
pub use lib.Seq.{drop-append_seam, drop-drop, take-append-add, take-append_seam, take-length, take-take}
pub use mir.Syntax.{Fn}
pub use mir.Val.{Val, vnil, vptr, vstruct}
pub use prog.Memory.{Memory}
pub use prog.Routine.{Routine}
pub use prog.Wp.{Calls, Loops, Tables, WpFn}
pub use seplogic.Ra.Ura.{Ura}
pub use sound.WpLaws.{WpFn-mono}
pub use types.ByLocal.{alloc_all, free_all, look_at, pass_all, sets}
pub use types.Kit.{ !, Goal, Item, Step, done, feq_i, feq_l, fjoin, fpack, fsplit, keep, move, prop, qed, raw, regoal, split, step, suffices, ‵, ◌$◌, ◌∵◌, ◌⊛◌}
pub use types.Logic.{Logic}
pub use types.Part.{agg}
pub use types.Run.{enter, no_more, returns}
