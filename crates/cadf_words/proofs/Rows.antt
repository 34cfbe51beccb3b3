-- What the loops over the table make of it.
use Rattle.cadf_words.proofs.Common.{◌≡◌, ◌∙◌, ◌≤◌, sym, ap, ℕ, true, codes, length, take, List, [], ◌∷◌, ◌++◌, map, append-nil, append_assoc, fold, take_all, Bor, Rule, Text, texts, ValueParser, Names, App, Shape, new_app, on_top, with_rule, with_subcommand, IsCommandLine, command_line, unit_names, rule_of_word, shape_of_command, command_of, word_of, Kind}

abbrev pub TableWord : Type 0
TableWord = Bor Text × Kind × Bor Text

abbrev pub TableCommand : Type 0
TableCommand = Bor Text × Bor Text × Bor (List TableWord)

abbrev pub with_word : ValueParser → App → TableWord → App
with_word units app row = with_rule app (rule_of_word units (word_of row))

abbrev pub with_command : ValueParser → App → TableCommand → App
with_command units app row = with_subcommand app (shape_of_command units (command_of row))

abbrev app_with : Shape → List Rule → App
app_with s rules = record { top = record s { rules = rules }; subs = [] }

pub words_added : (units : ValueParser) (s : Shape) (rules : List Rule) (rows : List TableWord)
    → fold (with_word units) (app_with s rules) rows ≡ app_with s (rules ++ map (rule_of_word units) (map word_of rows))
words_added units s rules [] = ap (app_with s) (sym (append-nil rules))
words_added units s rules (r ∷ rest) =
    words_added units s (rules ++ rule_of_word units (word_of r) ∷ []) rest
    ∙ ap (app_with s) (append_assoc rules (rule_of_word units (word_of r) ∷ []) (map (rule_of_word units) (map word_of rest)))

-- the program, before it has a command
abbrev pub versioned : App → App
versioned = on_top (λ s. record s { has_version = true })

abbrev pub required : App → App
required = on_top (λ s. record s { subcommand_required = true })

abbrev pub before_commands : App
before_commands = required (versioned (new_app (codes "cadf")))

pub all_added : (units : Bor (List (Bor Text))) (app : App) (i : ℕ) (rows : List TableCommand)
    → app ≡ fold (with_command (Names units)) before_commands (take i rows) → length rows ≤ i → texts units.now ≡ unit_names
    → fold (with_command (Names units)) before_commands rows ≡ command_line (Names units) → IsCommandLine app
all_added units app i rows so_far past named all =
    (units, named, so_far ∙ ap (fold (with_command (Names units)) before_commands) (take_all i rows past) ∙ all)
