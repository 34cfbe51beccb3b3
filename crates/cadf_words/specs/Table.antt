-- What the program's table says of each word and each command, in the words of the synopsis; and what clap found.
use Rattle.std.specs.Prelude.{◌≡◌, Bool, List, [], ◌∷◌, map, codes}
use Rattle.std.specs.List.{list_any}
use Rattle.std.specs.Str.{bytes_eq}
use Rattle.std.specs.Borrow.{Bor}
use Rattle.clap.specs.Walk.{Text}
use Rattle.clap.specs.Simple.{App, subcommand_of, subcommand_rows_of}
use Rattle.clap.specs.Faults.{fault_of}
use Rattle.clap.specs.declared.parser.matches.ArgMatches.{ArgMatches}
use Rattle.cadf_words.specs.Synopsis.{Form, Word, IsCommandLine, synopsis, once, several, optional, repeated, chosen, flag}
use Rattle.cadf_words.specs.declared.table.Kind.{Kind}
use Rattle.cadf_words.specs.declared.table.Kind.TheVariants as kind

abbrev pub form_of : Kind → Form
form_of kind.File = once
form_of kind.Files = several
form_of kind.Text = once
form_of (kind.Option value) = optional
form_of kind.More = repeated
form_of kind.Unit = chosen
form_of kind.Flag = flag

abbrev pub word_of : Bor Text × Kind × Bor Text → Word
word_of row = (row.0.now, form_of row.1)

abbrev pub command_of : Bor Text × Bor Text × Bor (List (Bor Text × Kind × Bor Text)) → Text × List Word
command_of row = (row.0.now, map word_of row.2.now)

-- the names of the commands, of those that take the union of files, of those of seals among these, and of those of growth among these
abbrev pub command_names : List Text
command_names = map (λ command. command.0) synopsis

abbrev pub growth_names : List Text
growth_names = codes "sealed" ∷ codes "growth" ∷ codes "grew" ∷ codes "omit" ∷ []

abbrev pub sealing_names : List Text
sealing_names = codes "seal" ∷ codes "prove" ∷ codes "verify" ∷ growth_names

abbrev pub names_with_files : List Text
names_with_files = codes "join" ∷ codes "split" ∷ codes "inventory" ∷ codes "sketch" ∷ codes "rule" ∷ codes "show" ∷ codes "check" ∷ sealing_names

abbrev pub is_among : List Text → Text → Bool
is_among names name = list_any (bytes_eq name) names

-- nothing is wrong with the words, and these are their matches
abbrev pub AreMatches : List Text → ArgMatches → Type 0
AreMatches words m = (app : App) × IsCommandLine app × (fault_of app words ≡ []) × (subcommand_rows_of m ≡ subcommand_of app words)
