use Rattle.cadf_tool.proofs.Runs.{run_more}
use Rattle.cadf_tool.proofs.SourceParts.{as_asked}
use Rattle.cadf_tool.proofs.UnionDeltas.{by_inventory}
use Rattle.cadf_tool.proofs.request.run.Goals as goal

pub returns-in-Missing-clause-run : goal.returns-in-Missing-clause-run
returns-in-Missing-clause-run g c = as_asked g.R.Source _ _ g.W.Sink _ _ _ c.in-Missing.is c.write_missing.ensures

pub returns-in-MissingBy-clause-run : goal.returns-in-MissingBy-clause-run
returns-in-MissingBy-clause-run g c =
    as_asked g.R.Source _ _ g.W.Sink _ _ _ c.in-MissingBy.is (run_more by_inventory c.write_missing_by.ensures)

pub returns-in-Sketch-clause-run : goal.returns-in-Sketch-clause-run
returns-in-Sketch-clause-run g c = as_asked g.R.Source _ _ g.W.Sink _ _ _ c.in-Sketch.is c.run_union-in-Sketch.ensures.run

pub returns-in-MissingBySketch-clause-run : goal.returns-in-MissingBySketch-clause-run
returns-in-MissingBySketch-clause-run g c = as_asked g.R.Source _ _ g.W.Sink _ _ _ c.in-MissingBySketch.is c.write_missing_by-in-MissingBySketch.ensures

pub returns-in-Prove-clause-run : goal.returns-in-Prove-clause-run
returns-in-Prove-clause-run g c = as_asked g.R.Source _ _ g.W.Sink _ _ _ c.in-Prove.is c.write_with_union.ensures

pub returns-in-ProveKeys-clause-run : goal.returns-in-ProveKeys-clause-run
returns-in-ProveKeys-clause-run g c = as_asked g.R.Source _ _ g.W.Sink _ _ _ c.in-ProveKeys.is c.write_with_union-in-ProveKeys.ensures

pub returns-in-VerifyKeys-clause-run : goal.returns-in-VerifyKeys-clause-run
returns-in-VerifyKeys-clause-run g c = as_asked g.R.Source _ _ g.W.Sink _ _ _ c.in-VerifyKeys.is c.write_verdict-in-VerifyKeys.ensures.verdict

pub returns-in-Verify-clause-run : goal.returns-in-Verify-clause-run
returns-in-Verify-clause-run g c = as_asked g.R.Source _ _ g.W.Sink _ _ _ c.in-Verify.is c.write_verdict.ensures.verdict

pub returns-in-Growth-clause-run : goal.returns-in-Growth-clause-run
returns-in-Growth-clause-run g c = as_asked g.R.Source _ _ g.W.Sink _ _ _ c.in-Growth.is c.write_with_union-in-Growth.ensures

pub returns-in-Grew-clause-run : goal.returns-in-Grew-clause-run
returns-in-Grew-clause-run g c = as_asked g.R.Source _ _ g.W.Sink _ _ _ c.in-Grew.is c.write_growth.ensures.growth

pub returns-in-Omit-clause-run : goal.returns-in-Omit-clause-run
returns-in-Omit-clause-run g c = as_asked g.R.Source _ _ g.W.Sink _ _ _ c.in-Omit.is c.write_with_union-in-Omit.ensures

pub returns-in-Rule-clause-run : goal.returns-in-Rule-clause-run
returns-in-Rule-clause-run g c = as_asked g.R.Source _ _ g.W.Sink _ _ _ c.in-Rule.is c.run_union-in-Rule.ensures.run
