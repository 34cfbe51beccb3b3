use Rattle.cadf_tool.proofs.Common.{Ok, Err, refl, rules, option_map}
use Rattle.cadf_tool.proofs.SealedGrowth.{line_told, refused_told}
use Rattle.cadf_tool.proofs.grew.tell_growth.Goals as goal

pub returns-in-Err : goal.returns-in-Err
returns-in-Err g c = record {
  told = record {
    made = Err c.ungrown.result;
    worked = refused_told c.args.earlier.now c.args.later.now c.args.proof.now (option_map (λ l. l.now) c.as_ref.result) c.args.list.now
        c.as_ref.ensures.value c.in-Err.fault c.ungrown.result c.ungrown.ensures c.in-Err.ensures.err;
    answer = (refl, refl);
  };
  memory = λ _. refl;
}

pub returns-clause-told : goal.returns-clause-told
returns-clause-told g c = record {
  made = Ok c.in-Ok.line.items;
  worked = line_told c.args.earlier.now c.args.later.now c.args.proof.now (option_map (λ l. l.now) c.as_ref.result) c.args.list.now
      c.as_ref.ensures.value c.in-Ok.line.items c.in-Ok.ensures.ok;
  answer = search rules;
}
