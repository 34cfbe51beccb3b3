use Rattle.cadf_tool.proofs.Brought.{brought_of_inputs}
use Rattle.cadf_tool.proofs.ExchangeWithin.{held_within}
use Rattle.cadf_tool.proofs.ExchangeLemmas.{result_told, read_told}
use Rattle.cadf_tool.proofs.ExchangeLaws.{file_told, nothing_brought}
use Rattle.cadf_tool.proofs.HeldReplicas.{held_replica}
use Rattle.cadf_tool.proofs.exchange.files_hold_inputs.Goals as goal

pub returns-clause-read : goal.returns-clause-read
returns-clause-read c = read_told

pub returns-clause-result : goal.returns-clause-result
returns-clause-result c = result_told

pub returns-clause-file : goal.returns-clause-file
returns-clause-file c = file_told

pub returns-clause-brought : goal.returns-clause-brought
returns-clause-brought c = brought_of_inputs

pub returns-clause-within : goal.returns-clause-within
returns-clause-within c = held_within

pub returns-clause-empty : goal.returns-clause-empty
returns-clause-empty c = nothing_brought

pub returns-clause-replica : goal.returns-clause-replica
returns-clause-replica c = held_replica
