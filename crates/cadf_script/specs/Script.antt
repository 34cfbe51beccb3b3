-- A script: lines that encode a turn each.
--     IsTurn line t            the line encodes the turn
--     lines_of bytes           the lines of the bytes; the last one's line feed may be absent
--     IsScript bytes turns     the bytes encode these turns
--     IsFirstBad lines n       the line of that number, from 1, is the first that is no turn
use Rattle.std.specs.Prelude.{◌≡◌, ◌<◌, ◌^◌, ◌==◌, ◌⊎◌, ℕ, suc, List, [], ◌∷◌, ◌++◌, if◌then◌else◌, codes, decimal}
pub use Rattle.cadf_event.specs.DocumentBytes.{IsDocumentOf}
use Rattle.cadf_event.specs.Parts.{EachPair}
use Rattle.cadf_rehearsal.specs.declared.turn.Turn.{Turn}
use Rattle.cadf_rehearsal.specs.declared.turn.Turn.TheVariants.{Learn, Ask, Answer, Send, Deliver}
pub use Rattle.cadf_script.specs.declared.line.Command.{Command}
use Rattle.cadf_script.specs.declared.line.Command.TheVariants as command
use Rattle.cadf_script.specs.declared.script.ScriptFault.{ScriptFault}
use Rattle.cadf_script.specs.declared.script.ScriptFault.TheVariants.{Line, Memory}

-- ---- words

-- the first word of a line
abbrev pub word_of : Command → List ℕ
word_of command.Learn = codes "learn"
word_of command.Ask = codes "ask"
word_of command.Answer = codes "answer"
word_of command.Send = codes "send"
word_of command.Deliver = codes "deliver"

abbrev pub command_of : Turn → Command
command_of (Learn site document) = command.Learn
command_of (Ask site) = command.Ask
command_of (Answer site message) = command.Answer
command_of (Send site) = command.Send
command_of (Deliver message site) = command.Deliver

-- a number in decimal, of at most nine digits, without a leading zero
abbrev pub IsScriptNumber : List ℕ → ℕ → Type 0
IsScriptNumber word n = (n < 10 ^ 9) × (word ≡ decimal n)

-- two numbers, separated by one space
abbrev pub AreTwo : List ℕ → ℕ → ℕ → Type 0
AreTwo words m n = (m < 10 ^ 9) × (n < 10 ^ 9) × (words ≡ decimal m ++ 32 ∷ decimal n)

-- a number, a space, and any text
abbrev pub IsSiteAndText : List ℕ → ℕ → List ℕ → Type 0
IsSiteAndText words n text = (n < 10 ^ 9) × (words ≡ decimal n ++ 32 ∷ text)

-- the bytes after the first word and its space
abbrev pub AreWords : List ℕ → Turn → Type 0
AreWords words (Learn site document) = (text : List ℕ) × IsSiteAndText words site text × IsDocumentOf text document
AreWords words (Ask site) = IsScriptNumber words site
AreWords words (Answer site message) = AreTwo words site message
AreWords words (Send site) = IsScriptNumber words site
AreWords words (Deliver message site) = AreTwo words message site

-- ---- lines

-- THE TURN that a line encodes
abbrev pub IsTurn : List ℕ → Turn → Type 0
IsTurn line t = (words : List ℕ) × (line ≡ word_of (command_of t) ++ 32 ∷ words) × AreWords words t

abbrev pub IsNoTurn : List ℕ → Type 0
IsNoTurn line = (t : Turn) → ¬ IsTurn line t

-- the byte put before the first of the lines
abbrev pub put_into_first : ℕ → List (List ℕ) → List (List ℕ)
put_into_first x [] = (x ∷ []) ∷ []
put_into_first x (l ∷ ls) = (x ∷ l) ∷ ls

-- each line ends with a line feed, which may be absent from the last one
unfoldable pub lines_of : List ℕ → List (List ℕ)
lines_of [] = []
lines_of (x ∷ xs) = if x == 10 then [] ∷ lines_of xs else put_into_first x (lines_of xs)

-- ---- scripts

-- THE TURNS that a script encodes, a line each
abbrev pub IsScript : List ℕ → List Turn → Type 0
IsScript bytes turns = EachPair IsTurn (lines_of bytes) turns

abbrev pub IsFirstBad : List (List ℕ) → ℕ → Type 0
IsFirstBad [] n = ⊥
IsFirstBad (l ∷ ls) n =
    ((n ≡ 1) × IsNoTurn l) ⊎ ((m : ℕ) × (n ≡ suc m) × ((t : Turn) × IsTurn l t) × IsFirstBad ls m)

-- why the bytes are no script; `Memory` says nothing about them
abbrev pub IsScriptFault : List ℕ → ScriptFault → Type 0
IsScriptFault bytes (Line n) = IsFirstBad (lines_of bytes) n
IsScriptFault bytes Memory = Unit {0}
