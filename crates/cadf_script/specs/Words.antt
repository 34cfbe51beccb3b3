-- How a line is split, from the left.
use Rattle.std.specs.Prelude.{◌≡◌, ◌==◌, ◌&&◌, ◌||◌, not, nat_lt, ℕ, Bool, false, List, [], ◌∷◌, ◌++◌, length, Option, MatchOption}
use Rattle.std.specs.List.{list_any}
use Rattle.cadf_event.specs.Document.{DocumentParts}
use Rattle.cadf_rehearsal.specs.declared.turn.Turn.{Turn}
use Rattle.cadf_script.specs.Script.{Command, command_of, AreWords, IsDocumentOf}

abbrev pub has_blank : List ℕ → Bool
has_blank bytes = list_any (λ x. x == 32) bytes

-- the bytes, split at their first space
pub record IsCut (bytes word rest : List ℕ) : Type 0 where
  pub is : bytes ≡ word ++ 32 ∷ rest
  pub first : has_blank word ≡ false

-- one to nine bytes without a sign at the start, and without a leading zero unless it is the only byte
abbrev pub is_plain_number : List ℕ → Bool
is_plain_number [] = false
is_plain_number (x ∷ xs) = (not (x == 43) && (not (x == 48) || length xs == 0)) && nat_lt (length xs) 9

abbrev pub SpellsNoDocument : List ℕ → Type 0
SpellsNoDocument text = (document : DocumentParts) → ¬ IsDocumentOf text document

-- the turn of that command with these words, or none
abbrev pub HasArguments : Command → List ℕ → Option Turn → Type 0
HasArguments command words found =
    MatchOption found ((t : Turn) → command_of t ≡ command → ¬ AreWords words t) (λ t. (command_of t ≡ command) × AreWords words t)
