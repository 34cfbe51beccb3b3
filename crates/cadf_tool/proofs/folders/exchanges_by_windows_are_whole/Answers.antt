use Rattle.cadf_tool.proofs.Common.{None, sym, ◌∙◌, Joined, all_files, arrived}
use Rattle.cadf_tool.proofs.ExchangeLaws.{same_told}
use Rattle.cadf_tool.proofs.FolderParts.{folder_together, exchanged_folder, folder_after, files_after}
use Rattle.cadf_tool.proofs.folders.exchanges_by_windows_are_whole.Goals as goal

pub returns-clause-exchanged : goal.returns-clause-exchanged
returns-clause-exchanged c = exchanged_folder

pub returns-clause-folder : goal.returns-clause-folder
returns-clause-folder c = folder_after

pub returns-clause-file : goal.returns-clause-file
returns-clause-file c = files_after

pub returns-clause-told : goal.returns-clause-told
returns-clause-told c unit h at files keys a b is are all x e y f log made made' =
    same_told (Joined None (all_files at keys)) (Joined None files) a b x y e f made made' log
    (folder_together unit at (arrived h) (folder_after unit h at is) keys all ∙ sym (files_after h files are))
