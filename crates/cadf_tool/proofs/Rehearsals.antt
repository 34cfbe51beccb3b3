-- A script that is read and simulated.
use Rattle.cadf_tool.proofs.Common.{common_steps, arith, ℕ, List, Result, Ok, Err, refl, ap, Text, Step, ToolFault, FaultStage, Working, fault_stage, IsScriptJudged, bytes_spec, script_spec, turns_of, played_in, final_sites, SourceTransition, one, IsReadAs, IsReadWithin, IsFirstFault, IsExpected, FILE_LIMIT}

-- what was read of a source is a script, if its bytes are
pub judged : (t : SourceTransition) (v : List ℕ) (script : Result (List Step) ℕ) → IsReadAs bytes_spec t v → IsScriptJudged v script
    → IsReadAs script_spec t script
judged t v script ((bytes, (consumed, end, (same, short))), unfailed) h = grind (arith, common_steps)

module _ (t : SourceTransition) (bounded : IsReadWithin FILE_LIMIT t) (v : List ℕ) (read : IsReadAs bytes_spec t v) where
  pub turns_read : (turns : List Step) → IsScriptJudged v (Ok turns) → IsExpected (one script_spec t) turns_of (Ok turns)
  turns_read turns h = record { is = (Ok turns, judged t v (Ok turns) read h, refl); bounded = bounded }

  pub line_refused : (line : ℕ) → IsScriptJudged v (Err line) → IsExpected (one script_spec t) turns_of (turns_of (Err line))
  line_refused line h = record { is = (Err line, judged t v (Err line) read h, refl); bounded = bounded }

module _ (t : SourceTransition) (log : Text) (sites : ℕ) where
  refused_at : (fault : ToolFault) (s : FaultStage) → IsFirstFault (one script_spec t) turns_of fault s
      → IsFirstFault (one script_spec t) (final_sites log sites) fault s
  refused_at fault Working (a, read, e) = (a, read, ap (played_in log sites) e)
  refused_at fault _ h = h

  -- a script that is refused isn't simulated
  pub script_refused : (fault : ToolFault) → IsExpected (one script_spec t) turns_of (Err fault)
      → IsExpected (one script_spec t) (final_sites log sites) (Err fault)
  script_refused fault h = record { is = refused_at fault (fault_stage fault) h.is; bounded = h.bounded }
