use Rattle.cadf_tool.proofs.Common.{refl, sym}
use Rattle.cadf_tool.proofs.Brought.{brought_alone}
use Rattle.cadf_tool.proofs.Forgotten.{ruled_whole, file_whole, parts_whole}
use Rattle.cadf_tool.proofs.exchange.nothing_is_forgotten.Goals as goal

pub returns-clause-outside : goal.returns-clause-outside
returns-clause-outside c given loaded log = (sym (brought_alone loaded), refl)

pub returns-clause-run : goal.returns-clause-run
returns-clause-run c log place ruling means files to whole = (whole, ruled_whole ruling files whole, whole)

pub returns-clause-files : goal.returns-clause-files
returns-clause-files c m files = (refl, file_whole m files)

pub returns-clause-parts : goal.returns-clause-parts
returns-clause-parts c = parts_whole
