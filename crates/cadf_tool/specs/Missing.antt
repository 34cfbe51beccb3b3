-- The delta of one input against another, as one function of the inputs loaded.
--     missing_of from to       the delta of FROM against TO, under their log, or why there is none
--     delta_between both       the same of a pair, FROM first
--     part_of_unions both      the same of two lists of inputs, each of which is joined
use Rattle.std.specs.Prelude.{ℕ, ◌+◌, List, length, if◌then◌else◌, Option, Some, None, Result, Ok, Err}
use Rattle.cadf_join.specs.Contents.{Text, Contents}
use Rattle.cadf_line.specs.Missing.{missing}
use Rattle.cadf_set.specs.Replica.{ReplicaModel}
use Rattle.cadf_tool.specs.declared.input.Loaded.{Loaded}
use Rattle.cadf_tool.specs.declared.input.Loaded.TheVariants.{Replica}
use Rattle.cadf_tool.specs.declared.fault.ToolFault.{ToolFault}
use Rattle.cadf_tool.specs.declared.fault.ToolFault.TheVariants.{NoLog, OtherLog}
use Rattle.cadf_tool.specs.Told.{log_named, atoms_loaded}
use Rattle.cadf_tool.specs.Join.{first_named, is_other, join_from, join_of, on_ok}

-- the atoms under the log of FROM, if both inputs name the same log; TO has that number
abbrev pub under_one_log_at : ℕ → Option Text → Option Text → Contents → Result ReplicaModel ToolFault
under_one_log_at number None to atoms = Err NoLog
under_one_log_at number (Some log) None atoms = Err NoLog
under_one_log_at number (Some log) (Some to) atoms =
    if is_other log (Some to) then Err (OtherLog number) else Ok (record { log = log; atoms = atoms })

abbrev pub under_one_log : Option Text → Option Text → Contents → Result ReplicaModel ToolFault
under_one_log from to atoms = under_one_log_at 2 from to atoms

-- THE DELTA: the least grounded set that contains the atoms of FROM that TO lacks
abbrev pub missing_of : Loaded → Loaded → Result ReplicaModel ToolFault
missing_of from to = under_one_log (log_named from) (log_named to) (missing (atoms_loaded from) (atoms_loaded to))

abbrev pub delta_between : Loaded × Loaded → Result ReplicaModel ToolFault
delta_between both = missing_of both.0 both.1

-- the result, if a log is named
abbrev pub if_named : {M : Type 0} → Option Text → Result M ToolFault → Result M ToolFault
if_named None result = Err NoLog
if_named (Some log) result = result

-- THE DELTA BETWEEN UNIONS: those of TO are joined under the log of FROM, and numbered after those of FROM
abbrev pub part_of_unions : List Loaded × List Loaded → Result ReplicaModel ToolFault
part_of_unions both = if_named (first_named both.1) (on_ok (join_of None both.0)
    (λ h. on_ok (join_from (length both.0 + 1) (Some h.log) both.1) (λ k. missing_of (Replica h) (Replica k))))
