-- A text that is handed out in a buffer.
--     handed text old               what a buffer holds then that held `old`
--     IsHandedOut P old new count   a text of which P holds is handed out, and `count` is its length
use Rattle.std.specs.Prelude.{◌≡◌, ℕ, List, ◌++◌, length, take, drop}
use Rattle.cadf_join.specs.Contents.{Text}

-- the text comes first, as far as there is room for it, and what the buffer holds after it stays
abbrev pub handed : List ℕ → List ℕ → List ℕ
handed text old = take (length old) text ++ drop (length text) old

pub record IsHandedOut (P : Text → Type 0) (old new : List ℕ) (count : ℕ) : Type 0 where
  pub text : Text
  pub made : P text
  pub fits : new ≡ handed text old
  pub all : count ≡ length text
