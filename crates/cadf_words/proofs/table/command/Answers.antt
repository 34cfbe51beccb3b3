use Rattle.cadf_words.proofs.Common.{◌∙◌, ap, ap₂, sym, refl, fold_more, app_of_fields, with_subcommand}
use Rattle.cadf_words.proofs.Rows.{all_added, before_commands, required, versioned, with_command}
use Rattle.cadf_words.proofs.table.command.Goals as goal

pub loop-name-init : goal.loop-name-init
loop-name-init c = ap app_of_fields c.subcommand_required-command.ensures ∙ ap required (ap app_of_fields c.about.ensures
    ∙ ap app_of_fields c.version.ensures ∙ ap versioned c.new.ensures.app)

pub loop-name-preserved : goal.loop-name-preserved
loop-name-preserved c =
    c.in_ok-command.ensures.shape c.in_ok-subcommand.ensures.local ∙ ap₂ with_subcommand c.loop-name.invariant c.in_ok-subcommand.ensures.shape
    ∙ sym (fold_more (with_command _) before_commands _ c.loop-name.name-index _ c.loop-name-test.true)

pub returns : goal.returns
returns c = all_added _ _ _ _ c.loop-name.invariant c.loop-name-test.false refl refl
