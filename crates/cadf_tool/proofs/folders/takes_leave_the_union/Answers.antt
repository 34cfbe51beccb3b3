use Rattle.cadf_tool.proofs.FolderParts.{empty_folder, split_folder, taken_folder}
use Rattle.cadf_tool.proofs.folders.takes_leave_the_union.Goals as goal

pub returns-clause-begun : goal.returns-clause-begun
returns-clause-begun c = empty_folder

pub returns-clause-taken : goal.returns-clause-taken
returns-clause-taken c = taken_folder

pub returns-clause-parts : goal.returns-clause-parts
returns-clause-parts c = split_folder
