-- What a request of the command line asks of its files, or why a word of it is refused, and which files these are.
--     asked_by q           what the request q asks, with its words read in this order; or the fault of the first that is refused
--     IsRead expected r    r is that result, or memory ran out
--     names_of q           the names of its files, in the order in which they are opened and read
--     IsAccepted q         what q asks can be asked of so many files
use Rattle.std.specs.Prelude.{◌≡◌, ◌⊎◌, ℕ, ◌^◌, nat_le, nat_lt, ◌&&◌, Bool, true, false, if◌then◌else◌, List, [], ◌∷◌, ◌++◌, map, length, slice_index, decimal}
use Rattle.std.specs.Prelude.{Option, Some, None, is_some, ok_or, Result, Ok, Err, IfOk}
use Rattle.std.specs.Borrow.{Bor}
use Rattle.std.specs.Str.{bytes_eq}
use Rattle.std.specs.Str.Parse.{digits_value}
use Rattle.cadf_arguments.specs.Arguments.{is_place, is_site_count, unit_named}
use Rattle.cadf_arguments.specs.declared.fault.ArgumentFault.{ArgumentFault}
use Rattle.cadf_arguments.specs.declared.fault.ArgumentFault.TheVariants.{LogName, Sites, Letter, Key, Place, Cells, Salt, Unit as NoUnit, Memory}
use Rattle.cadf_event.specs.Names.{is_name}
use Rattle.cadf_line.specs.RulingTexts.{is_value_letter}
use Rattle.cadf_sketch.specs.Layouts.{are_cells, is_salt}
use Rattle.cadf_tool.specs.Request.{accepts}
use Rattle.cadf_tool.specs.declared.request.Request.{Request as Asked}
use Rattle.cadf_tool.specs.declared.request.Request.TheVariants as ask
use Rattle.cadf_words.specs.declared.request.Request.{Request}
use Rattle.cadf_words.specs.declared.request.Request.TheVariants.{Join, Split, Missing, MissingBy, Inventory, Sketch, MissingBySketch}
use Rattle.cadf_words.specs.declared.request.Request.TheVariants.{Seal, Prove, Verify, Sealed, Growth, Grew, Omit, Rule, Rehearse, Show, Check}

abbrev pub Word : Type 0
Word = List ℕ

-- ---- words that are no files

-- a word that is read, or refused for a fault
abbrev pub Reading : Type 0 → Type 0
Reading A = Result A ArgumentFault

infixl 10 ◌>>=◌
abbrev pub ◌>>=◌ : {A B : Type 0} → Reading A → (A → Reading B) → Reading B
(Ok a) >>= next = next a
(Err fault) >>= next = Err fault

abbrev pub accepted_if : {A : Type 0} → Bool → A → ArgumentFault → Reading A
accepted_if accepts a fault = if accepts then Ok a else Err fault

abbrev pub name_of : ArgumentFault → Word → Reading Word
name_of fault word = accepted_if (is_name word) word fault

-- the positive number of 64 bits that the word is, in decimal
abbrev pub number_in : Word → Option ℕ
number_in word =
    let n = digits_value 10 word in if nat_le 1 n && nat_lt n (2 ^ 64) && bytes_eq word (decimal n) then Some n else None

abbrev pub number_of : ArgumentFault → (ℕ → Bool) → Word → Reading ℕ
number_of fault accepts word = ok_or (number_in word) fault >>= λ n. accepted_if (accepts n) n fault

-- a letter is one byte
abbrev pub letter_of : Word → Reading ℕ
letter_of word = accepted_if (is_value_letter word) (slice_index word 0) Letter

-- if the word is given
abbrev pub if_given : {A : Type 0} → (Word → Reading A) → Option (Bor Word) → Reading (Option A)
if_given read None = Ok None
if_given read (Some word) = read word.now >>= λ a. Ok (Some a)

abbrev pub IsRead : {A : Type 0} → Reading A → Reading A → Type 0
IsRead expected (Ok a) = expected ≡ Ok a
IsRead expected (Err fault) = (expected ≡ Err fault) ⊎ (fault ≡ Memory)

-- ---- requests

abbrev pub asked_by : Request → Reading Asked
asked_by (Join log files) = do
  name ← if_given (name_of LogName) log
  Ok (ask.Join name)
asked_by (Split by log files) = do
  unit ← ok_or (unit_named by.now) NoUnit
  name ← if_given (name_of LogName) log
  Ok (ask.Split unit name)
asked_by (Missing from to) = Ok (ask.Missing (length from.items))
asked_by (MissingBy from inventory) = Ok ask.MissingBy
asked_by (Inventory files) = Ok ask.Inventory
asked_by (Sketch cells salt files) = do
  count ← if_given (number_of Cells are_cells) cells
  number ← if_given (number_of Salt is_salt) salt
  Ok (ask.Sketch count number)
asked_by (MissingBySketch from sketch) = Ok ask.MissingBySketch
asked_by (Seal files) = Ok ask.Seal
asked_by (Prove false facts files) = Ok ask.Prove
asked_by (Prove true facts files) = Ok ask.ProveKeys
asked_by (Verify false absent seal facts proof) = Ok (ask.Verify absent)
asked_by (Verify true absent seal facts proof) = Ok (ask.VerifyKeys absent)
asked_by (Sealed files) = Ok ask.Sealed
asked_by (Growth sealed files) = Ok ask.Growth
asked_by (Grew erased old new proof) = Ok (ask.Grew (is_some erased))
asked_by (Omit list files) = Ok ask.Omit
asked_by (Rule letter key place files) = do
  c ← letter_of letter.now
  name ← name_of Key key.now
  n ← number_of Place is_place place.now
  Ok (ask.Rule c name n)
asked_by (Rehearse log sites script) = do
  name ← name_of LogName log.now
  count ← number_of Sites is_site_count sites.now
  Ok (ask.Rehearse name count)
asked_by (Show conflicts files) = Ok (ask.Show conflicts)
asked_by (Check files) = Ok ask.Check

abbrev pub texts : List (Bor Word) → List Word
texts = map (λ s. s.now)

-- the name that is given, if one is
abbrev pub text_given : Option (Bor Word) → List Word
text_given None = []
text_given (Some word) = word.now ∷ []

abbrev pub names_of : Request → List Word
names_of (Join log files) = texts files.items
names_of (Split by log files) = texts files.items
names_of (Missing from to) = texts from.items ++ texts to.items
names_of (MissingBy from inventory) = texts from.items ++ inventory.now ∷ []
names_of (Inventory files) = texts files.items
names_of (Sketch cells salt files) = texts files.items
names_of (MissingBySketch from sketch) = texts from.items ++ sketch.now ∷ []
names_of (Seal files) = texts files.items
names_of (Prove keys facts files) = facts.now ∷ texts files.items
names_of (Verify keys absent seal facts proof) = seal.now ∷ facts.now ∷ proof.now ∷ []
names_of (Sealed files) = texts files.items
names_of (Growth sealed files) = sealed.now ∷ texts files.items
names_of (Grew erased old new proof) = old.now ∷ new.now ∷ proof.now ∷ text_given erased
names_of (Omit list files) = list.now ∷ texts files.items
names_of (Rule letter key place files) = texts files.items
names_of (Rehearse log sites script) = script.now ∷ []
names_of (Show conflicts files) = texts files.items
names_of (Check files) = texts files.items

abbrev pub IsAccepted : Request → Type 0
IsAccepted q = IfOk (asked_by q) (λ t. accepts t (length (names_of q)) ≡ true)
