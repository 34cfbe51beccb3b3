use Rattle.cadf_tool.proofs.Common.{is_in_part}
use Rattle.cadf_tool.proofs.FolderParts.{split_is, part_derived, part_joined}
use Rattle.cadf_tool.proofs.folders.parts_are_files.Goals as goal

pub returns-clause-split : goal.returns-clause-split
returns-clause-split c = split_is

pub returns-clause-derived : goal.returns-clause-derived
returns-clause-derived c = part_derived

pub returns-clause-joined : goal.returns-clause-joined
returns-clause-joined c unit log files k = part_joined (is_in_part unit k) log files
