use Rattle.cadf_words.proofs.Common.{◌∙◌, ◌||◌, ap, ap₂, sym, [], fold, take_all, fold_more, app_of_fields, new_app, new_shape, with_rule}
use Rattle.cadf_words.proofs.Rows.{with_word, words_added}
use Rattle.cadf_words.proofs.table.subcommand.Goals as goal

pub loop-word-init : goal.loop-word-init
loop-word-init c = (ap app_of_fields c.about-command.ensures ∙ c.new.ensures.app, ap (λ f. f.has_globals) c.about-command.ensures ∙ c.new.ensures.local)

pub loop-word-preserved : goal.loop-word-preserved
loop-word-preserved c =
    let added = c.in_ok-command.ensures in (
      added.shape c.argument.ensures.local ∙ ap₂ with_rule c.loop-word.invariant.0 c.argument.ensures.rule
          ∙ sym (fold_more (with_word c.args.units) (new_app c.args.name.now) c.args.words.now c.loop-word.word-index _ c.loop-word-test.true),
      added.globals ∙ ap₂ (λ a b. a || b) c.loop-word.invariant.1 c.argument.ensures.local,
    )

pub returns-clause-shape : goal.returns-clause-shape
returns-clause-shape c =
    ap (λ a. a.top) (c.loop-word.invariant.0
    ∙ ap (fold (with_word c.args.units) (new_app c.args.name.now)) (take_all c.loop-word.word-index c.args.words.now c.loop-word-test.false)
    ∙ words_added c.args.units (new_shape c.args.name.now) [] c.args.words.now)

pub returns-clause-local : goal.returns-clause-local
returns-clause-local c = c.loop-word.invariant.1
