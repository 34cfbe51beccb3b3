use Rattle.cadf_tool.proofs.ExchangeLaws.{same_file, same_told, same_brought_by}
use Rattle.cadf_tool.proofs.exchange.same_inputs_same_bytes.Goals as goal

pub returns-clause-file : goal.returns-clause-file
returns-clause-file c = same_file

pub returns-clause-told : goal.returns-clause-told
returns-clause-told c = same_told

pub returns-clause-file_of_the_same : goal.returns-clause-file_of_the_same
returns-clause-file_of_the_same g m n b d run other x y e f u v made built names same =
    same_file m n b d run other x y e f made built names (same_brought_by m n u v same)

pub returns-clause-told_of_the_same : goal.returns-clause-told_of_the_same
returns-clause-told_of_the_same g m n h k x y e f u v made built names same =
    same_told m n h k x y e f made built names (same_brought_by m n u v same)
