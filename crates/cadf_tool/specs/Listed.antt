-- The sealed list of an input, and what is made of a list, which is the first source, and of the replica of the others.
--     sealed_model_of loaded   the sealed list of an input's replica, or why there is none
--     sealed_file l, erased_file l   the files of both kinds of lists
--     if_of_log log h made     what is made, if the first source is of the log of the replica
--     growth_for sealed h      the proof of growth from what the list has to a replica, or why there is none
--     left_for erased h        the list and the replica of which it leaves something, or why nothing is left
--     left_file pair           the file of what is left
use Rattle.std.specs.Prelude.{Some, if◌then◌else◌, Result, Ok, Err}
use Rattle.cadf_join.specs.Contents.{Text}
use Rattle.cadf_set.specs.Replica.{ReplicaModel}
use Rattle.cadf_erased.specs.Left.{left_of}
use Rattle.cadf_evidence.specs.ProofFile.{ProofModel}
use Rattle.cadf_evidence.specs.Made.{sealed_of, growth_from}
use Rattle.cadf_listed.specs.ListFile.{ListedModel, list_file, sealed_header, erased_header}
use Rattle.cadf_tool.specs.declared.input.Loaded.{Loaded}
use Rattle.cadf_tool.specs.declared.fault.ToolFault.{ToolFault}
use Rattle.cadf_tool.specs.declared.fault.ToolFault.TheVariants.{OtherLog}
use Rattle.cadf_tool.specs.Join.{is_other, on_ok}
use Rattle.cadf_tool.specs.Told.{replica_model_of}
use Rattle.cadf_tool.specs.WrittenFile.{written_file}

-- THE SEALED LIST of an input
abbrev pub sealed_model_of : Loaded → Result ListedModel ToolFault
sealed_model_of loaded = on_ok (replica_model_of loaded) (λ h. Ok (sealed_of h))

abbrev pub sealed_file : ListedModel → Text
sealed_file l = list_file sealed_header l

abbrev pub erased_file : ListedModel → Text
erased_file l = list_file erased_header l

-- the result, if input 1, which is of this log, is of the replica's
abbrev pub if_of_log : {M : Type 0} → Text → ReplicaModel → M → Result M ToolFault
if_of_log log h made = if is_other h.log (Some log) then Err (OtherLog 1) else Ok made

-- THE PROOF OF GROWTH
abbrev pub growth_for : ListedModel → ReplicaModel → Result ProofModel ToolFault
growth_for sealed h = if_of_log sealed.log h (growth_from sealed h)

-- WHAT IS LEFT
abbrev pub left_for : ListedModel → ReplicaModel → Result (ListedModel × ReplicaModel) ToolFault
left_for erased h = if_of_log erased.log h (erased, h)

abbrev pub left_file : ListedModel × ReplicaModel → Text
left_file pair = written_file (left_of pair.0 pair.1)
