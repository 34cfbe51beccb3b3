use Rattle.cadf_listed.proofs.ListLemmas.{are_names, body_of_names}
use Rattle.cadf_listed.proofs.lines.ListedModelFile.of_lines.Goals as goal

pub returns-clause-lines : goal.returns-clause-lines
returns-clause-lines g c = body_of_names g.K.ListKind.header g.K.ListKind.unbroken c.args.name _ c.requires.kept

pub returns-clause-holds : goal.returns-clause-holds
returns-clause-holds g c = record { log = c.requires.named; names = are_names _ c.requires.kept }
