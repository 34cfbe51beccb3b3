use Rattle.cadf_tool.proofs.Common.{None, Joined, brought, all_files}
use Rattle.cadf_tool.proofs.ExchangeLaws.{same_told}
use Rattle.cadf_tool.proofs.FolderParts.{folder_together}
use Rattle.cadf_tool.proofs.folders.folders_are_their_union.Goals as goal

pub returns-clause-together : goal.returns-clause-together
returns-clause-together c unit at keys s is all = folder_together unit at s is keys all

pub returns-clause-told : goal.returns-clause-told
returns-clause-told c unit at keys m h k is all x e y f log made made' =
    same_told (Joined None (all_files at keys)) m h k x y e f made made' log (folder_together unit at (brought m) is keys all)
