use Rattle.cadf_tool.proofs.FolderParts.{in_window, in_shared}
use Rattle.cadf_tool.proofs.folders.windows_have_their_instants.Goals as goal

pub returns-clause-window : goal.returns-clause-window
returns-clause-window c = in_window

pub returns-clause-shared : goal.returns-clause-shared
returns-clause-shared c = in_shared
