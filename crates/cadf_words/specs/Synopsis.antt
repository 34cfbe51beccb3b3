-- The command line: which words make which request, and what is told of other words.
--     synopsis              the commands, each with its words in their order
--     IsCommandLine app     the same, as clap reads a command line
--     IsAsked name rows q   q is the request of the command of this name, with what clap found for its words
--     MakesRequest words q  the words, of which the first is the program's name, make the request q
--     IsTold words r        they make none, and r tells which text is printed: help or the version, or why they are refused
use Rattle.std.specs.Prelude.{◌≡◌, ⊤, Bool, true, false, codes, List, [], ◌∷◌, map, Option, Some, option_map, unwrap_or}
use Rattle.std.specs.Prelude.{IsSomeAnd}
use Rattle.std.specs.Borrow.{Bor}
use Prim.Native.String.{String}
use Rattle.clap.specs.Lexer.{usize_max}
use Rattle.clap.specs.Walk.{Row, Rule, Text, all_of, first_of, one_of, texts}
use Rattle.clap.specs.Simple.{App, Shape, new_rule, new_shape, subcommand_of}
use Rattle.clap.specs.Kinds.{IsAmong}
use Rattle.clap.specs.Faults.{fault_of}
use Rattle.clap.specs.Values.{kind_of}
use Rattle.clap.specs.declared.error.kind.ErrorKind.{ErrorKind}
use Rattle.clap.specs.declared.error.kind.ErrorKind.TheVariants.{DisplayHelp, DisplayVersion, OutOfMemory}
use Rattle.clap.specs.declared.error.Error.{Error}
use Rattle.clap.specs.declared.builder.action.ArgAction.TheVariants.{Append, SetTrue}
use Rattle.clap.specs.declared.builder.value_parser.ValueParser.{ValueParser}
use Rattle.clap.specs.declared.builder.value_parser.ValueParser.TheVariants.{Names}
use Rattle.cadf_words.specs.declared.request.Request.{Request}
use Rattle.cadf_words.specs.declared.request.Request.TheVariants.{Join, Split, Missing, MissingBy, Inventory, Sketch, MissingBySketch}
use Rattle.cadf_words.specs.declared.request.Request.TheVariants.{Seal, Prove, Verify, Sealed, Growth, Grew, Omit}
use Rattle.cadf_words.specs.declared.request.Request.TheVariants.{Rule as Ruling, Rehearse, Show, Check}
use Rattle.cadf_words.specs.declared.reply.Reply.{Reply}
use Rattle.cadf_words.specs.declared.reply.Reply.TheVariants.{Memory, Help, Refused}

-- ---- the synopsis

-- how a word of a command is given
pub data Form : Type 0 where
  -- NAME
  once : Form
  -- NAME...
  several : Form
  -- [--NAME VALUE]
  optional : Form
  -- [--NAME VALUE]...
  repeated : Form
  -- --NAME UNIT
  chosen : Form
  -- [--NAME]
  flag : Form

abbrev pub Word : Type 0
Word = Text × Form

abbrev pub synopsis : List (Text × List Word)
synopsis =
    (codes "join", (codes "log", optional) ∷ (codes "FILE", several) ∷ [])
    ∷ (codes "split", (codes "by", chosen) ∷ (codes "log", optional) ∷ (codes "FILE", several) ∷ [])
    ∷ (codes "missing", (codes "FROM", once) ∷ (codes "TO", once) ∷ (codes "from", repeated) ∷ (codes "to", repeated) ∷ [])
    ∷ (codes "missing-by", (codes "FROM", once) ∷ (codes "INVENTORY", once) ∷ (codes "from", repeated) ∷ [])
    ∷ (codes "inventory", (codes "FILE", several) ∷ [])
    ∷ (codes "sketch", (codes "cells", optional) ∷ (codes "salt", optional) ∷ (codes "FILE", several) ∷ [])
    ∷ (codes "missing-by-sketch", (codes "FROM", once) ∷ (codes "SKETCH", once) ∷ (codes "from", repeated) ∷ [])
    ∷ (codes "seal", (codes "FILE", several) ∷ [])
    ∷ (codes "prove", (codes "keys", flag) ∷ (codes "FACTS", once) ∷ (codes "FILE", several) ∷ [])
    ∷ (codes "verify", (codes "keys", flag) ∷ (codes "absent", flag) ∷ (codes "SEAL", once) ∷ (codes "FACTS", once) ∷ (codes "PROOF", once) ∷ [])
    ∷ (codes "sealed", (codes "FILE", several) ∷ [])
    ∷ (codes "growth", (codes "SEALED", once) ∷ (codes "FILE", several) ∷ [])
    ∷ (codes "grew", (codes "erased", optional) ∷ (codes "OLD", once) ∷ (codes "NEW", once) ∷ (codes "PROOF", once) ∷ [])
    ∷ (codes "omit", (codes "LIST", once) ∷ (codes "FILE", several) ∷ [])
    ∷ (codes "rule", (codes "LETTER", once) ∷ (codes "KEY", once) ∷ (codes "PLACE", once) ∷ (codes "FILE", several) ∷ [])
    ∷ (codes "rehearse", (codes "LOG", once) ∷ (codes "SITES", once) ∷ (codes "SCRIPT", once) ∷ [])
    ∷ (codes "show", (codes "conflicts", flag) ∷ (codes "FILE", several) ∷ [])
    ∷ (codes "check", (codes "FILE", several) ∷ [])
    ∷ []

abbrev pub unit_names : List Text
unit_names = codes "month" ∷ codes "day" ∷ codes "hour" ∷ []

-- ---- the same, as clap reads it

-- `units` takes the names of the units
abbrev pub rule_of_word : ValueParser → Word → Rule
rule_of_word units (name, once) = record (new_rule name) { required = true }
rule_of_word units (name, several) =
    record (new_rule name) { required = true; range = Some (record { start_inclusive = 1; end_inclusive = usize_max }) }
rule_of_word units (name, optional) = record (new_rule name) { long = Some name; value_names = 1 }
rule_of_word units (name, repeated) = record (new_rule name) { long = Some name; value_names = 1; action = Some Append }
rule_of_word units (name, chosen) =
    record (new_rule name) { long = Some name; value_names = 1; required = true; parser = Some units }
rule_of_word units (name, flag) = record (new_rule name) { long = Some name; action = Some SetTrue }

abbrev pub shape_of_command : ValueParser → Text × List Word → Shape
shape_of_command units command = record (new_shape command.0) { rules = map (rule_of_word units) command.1 }

-- the program has a version, and needs a command
abbrev pub program : Shape
program = record (new_shape (codes "cadf")) { has_version = true; subcommand_required = true; is_leaf = false }

abbrev pub command_line : ValueParser → App
command_line units = record { top = program; subs = map (shape_of_command units) synopsis }

-- ---- the request

-- the value of a word, and all its values
abbrev pub value_of : Text → List Row → Text
value_of name rows = unwrap_or (first_of name rows) []

abbrev pub values_of : Text → List Row → List Text
values_of name rows = unwrap_or (all_of name rows) []

abbrev pub IsOption : String → List Row → Option (Bor Text) → Type 0
IsOption name rows word = option_map (λ s. s.now) word ≡ first_of (codes name) rows

abbrev pub IsValue : String → List Row → Bor Text → Type 0
IsValue name rows word = word.now ≡ value_of (codes name) rows

abbrev pub AreFiles : List Row → List (Bor Text) → Type 0
AreFiles rows files = texts files ≡ values_of (codes "FILE") rows

-- one file, and those of the option
abbrev pub AreFirstAndMore : String → String → List Row → List (Bor Text) → Type 0
AreFirstAndMore first more rows files = texts files ≡ value_of (codes first) rows ∷ values_of (codes more) rows

-- clap gives a flag the value `true` where it stands, and else `false`
abbrev pub IsFlag : Text → List Row → Bool → Type 0
IsFlag name rows given = (one_of name rows ≡ Some (codes "true") → given ≡ true) × (one_of name rows ≡ Some (codes "false") → given ≡ false)

abbrev pub IsAsked : Text → List Row → Request → Type 0
IsAsked name rows (Join log files) = (name ≡ codes "join") × IsOption "log" rows log × AreFiles rows files.items
IsAsked name rows (Split by log files) =
    (name ≡ codes "split") × IsValue "by" rows by × IsOption "log" rows log × AreFiles rows files.items
IsAsked name rows (Missing from to) =
    (name ≡ codes "missing") × AreFirstAndMore "FROM" "from" rows from.items × AreFirstAndMore "TO" "to" rows to.items
IsAsked name rows (MissingBy from inventory) =
    (name ≡ codes "missing-by") × AreFirstAndMore "FROM" "from" rows from.items × IsValue "INVENTORY" rows inventory
IsAsked name rows (Inventory files) = (name ≡ codes "inventory") × AreFiles rows files.items
IsAsked name rows (Sketch cells salt files) =
    (name ≡ codes "sketch") × IsOption "cells" rows cells × IsOption "salt" rows salt × AreFiles rows files.items
IsAsked name rows (MissingBySketch from sketch) =
    (name ≡ codes "missing-by-sketch") × AreFirstAndMore "FROM" "from" rows from.items × IsValue "SKETCH" rows sketch
IsAsked name rows (Seal files) = (name ≡ codes "seal") × AreFiles rows files.items
IsAsked name rows (Prove keys facts files) =
    (name ≡ codes "prove") × IsFlag (codes "keys") rows keys × IsValue "FACTS" rows facts × AreFiles rows files.items
IsAsked name rows (Verify keys absent seal facts proof) =
    (name ≡ codes "verify") × IsFlag (codes "keys") rows keys × IsFlag (codes "absent") rows absent × IsValue "SEAL" rows seal × IsValue "FACTS" rows facts
    × IsValue "PROOF" rows proof
IsAsked name rows (Sealed files) = (name ≡ codes "sealed") × AreFiles rows files.items
IsAsked name rows (Growth sealed files) = (name ≡ codes "growth") × IsValue "SEALED" rows sealed × AreFiles rows files.items
IsAsked name rows (Grew erased old new proof) =
    (name ≡ codes "grew") × IsOption "erased" rows erased × IsValue "OLD" rows old × IsValue "NEW" rows new
    × IsValue "PROOF" rows proof
IsAsked name rows (Omit list files) = (name ≡ codes "omit") × IsValue "LIST" rows list × AreFiles rows files.items
IsAsked name rows (Ruling letter key place files) =
    (name ≡ codes "rule") × IsValue "LETTER" rows letter × IsValue "KEY" rows key × IsValue "PLACE" rows place
    × AreFiles rows files.items
IsAsked name rows (Rehearse log sites script) =
    (name ≡ codes "rehearse") × IsValue "LOG" rows log × IsValue "SITES" rows sites × IsValue "SCRIPT" rows script
IsAsked name rows (Show conflicts files) =
    (name ≡ codes "show") × IsFlag (codes "conflicts") rows conflicts × AreFiles rows files.items
IsAsked name rows (Check files) = (name ≡ codes "check") × AreFiles rows files.items

-- ---- what the words make, or what is told of them

-- this is the command line, wherever the program keeps the names of the units
abbrev pub IsCommandLine : App → Type 0
IsCommandLine app = (units : Bor (List (Bor Text))) × (texts units.now ≡ unit_names) × (app ≡ command_line (Names units))

abbrev pub MakesRequest : List Text → Request → Type 0
MakesRequest words q = (app : App) × IsCommandLine app × (fault_of app words ≡ [])
    × IsSomeAnd (subcommand_of app words) (λ p. IsAsked p.0 p.1 q)

-- what is wrong with the words, or asked by them, has this kind
abbrev pub HasKindOf : List Text → ErrorKind → Type 0
HasKindOf words k = (app : App) × IsCommandLine app × IsAmong k (fault_of app words)

abbrev pub is_shown : ErrorKind → Bool
is_shown DisplayHelp = true
is_shown DisplayVersion = true
is_shown _ = false

-- the reply to what clap answers
abbrev pub AnswersError : Error → Reply → Type 0
AnswersError e Memory = kind_of e ≡ OutOfMemory
AnswersError e (Help m) = (m.error ≡ e) × (is_shown (kind_of e) ≡ true)
AnswersError e (Refused m) = (m.error ≡ e) × (is_shown (kind_of e) ≡ false) × (kind_of e ≡ OutOfMemory → ⊥)

abbrev pub IsTold : List Text → Reply → Type 0
IsTold words Memory = ⊤
IsTold words (Help m) = HasKindOf words (kind_of m.error) × (is_shown (kind_of m.error) ≡ true)
IsTold words (Refused m) = HasKindOf words (kind_of m.error) × (is_shown (kind_of m.error) ≡ false)
