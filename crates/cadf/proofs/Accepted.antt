-- What the words of a command line ask can be asked of as many files as they name.
use Rattle.cadf.proofs.Common.{◌≡◌, ℕ, true, false, List, [], ◌∷◌, length, Option, Some, None, Ok, Err, ok_or, IfOk, IsSomeAnd, refl, ap, arith, le-leb, lt-ltb, length-append, length-map, Row, is_place, is_site_count, unit_named, LogName, Sites, Key, Place, Cells, Salt, NoUnit, are_cells, is_salt, accepts, Asked, Request, Join, Split, Missing, MissingBy, Inventory, Sketch, MissingBySketch, Seal, Prove, Verify, Sealed, Growth, Grew, Omit, Rule, Rehearse, Show, Check, IsAsked, MakesRequest, Reading, ◌>>=◌, IsAccepted, if_given, letter_of, name_of, number_of, texts}
use Rattle.clap.specs.Walk.{Text}
use Rattle.cadf_tool.specs.declared.request.Request.TheVariants as ask

-- what is asked by one word, two or three, once they are read
one : {A : Type 0} (r : Reading A) (f : A → Asked) (n : ℕ) → ((a : A) → accepts (f a) n ≡ true)
    → IfOk (r >>= λ a. Ok (f a)) (λ t. accepts t n ≡ true)
one (Ok a) f n h = h a
one (Err fault) f n h = tt

two : {A B : Type 0} (r : Reading A) (s : Reading B) (f : A → B → Asked) (n : ℕ) → ((a : A) (b : B) → accepts (f a b) n ≡ true)
    → IfOk (r >>= λ a. s >>= λ b. Ok (f a b)) (λ t. accepts t n ≡ true)
two (Ok a) s f n h = one s (f a) n (h a)
two (Err fault) s f n h = tt

three : {A B C : Type 0} (r : Reading A) (s : Reading B) (t : Reading C) (f : A → B → C → Asked) (n : ℕ)
    → ((a : A) (b : B) (c : C) → accepts (f a b c) n ≡ true)
    → IfOk (r >>= λ a. s >>= λ b. t >>= λ c. Ok (f a b c)) (λ t. accepts t n ≡ true)
three (Ok a) s t f n h = two s t (f a) n (h a)
three (Err fault) s t f n h = tt

accepted : (name : Text) (rows : List Row) (q : Request) → IsAsked name rows q → IsAccepted q
accepted name rows (Join log files) is = one (if_given (name_of LogName) log) ask.Join _ (λ _. refl)
accepted name rows (Split by log files) is = two (ok_or (unit_named by.now) NoUnit) (if_given (name_of LogName) log) ask.Split _ (λ _ _. refl)
accepted name rows (Missing from to) is = lt-ltb _ _ (omega (arith, length-append (texts from.items) (texts to.items), length-map from.items (λ s. s.now), ap length is.2))
accepted name rows (MissingBy from inventory) is = le-leb 1 _ (omega (arith, length-append (texts from.items) (inventory.now ∷ [])))
accepted name rows (Inventory files) is = refl
accepted name rows (Sketch cells salt files) is = two (if_given (number_of Cells are_cells) cells) (if_given (number_of Salt is_salt) salt) ask.Sketch _ (λ _ _. refl)
accepted name rows (MissingBySketch from sketch) is = le-leb 1 _ (omega (arith, length-append (texts from.items) (sketch.now ∷ [])))
accepted name rows (Seal files) is = refl
accepted name rows (Prove false facts files) is = le-leb 1 _ (omega arith)
accepted name rows (Prove true facts files) is = le-leb 1 _ (omega arith)
accepted name rows (Verify false absent seal facts proof) is = refl
accepted name rows (Verify true absent seal facts proof) is = refl
accepted name rows (Sealed files) is = refl
accepted name rows (Growth sealed files) is = le-leb 1 _ (omega arith)
accepted name rows (Grew None old new proof) is = refl
accepted name rows (Grew (Some list) old new proof) is = refl
accepted name rows (Omit list files) is = le-leb 1 _ (omega arith)
accepted name rows (Rule letter key place files) is = three (letter_of letter.now) (name_of Key key.now) (number_of Place is_place place.now) ask.Rule _ (λ _ _ _. refl)
accepted name rows (Rehearse log sites script) is = two (name_of LogName log.now) (number_of Sites is_site_count sites.now) ask.Rehearse _ (λ _ _. refl)
accepted name rows (Show conflicts files) is = refl
accepted name rows (Check files) is = refl

pub made_is_accepted : (words : List Text) (q : Request) → MakesRequest words q → IsAccepted q
made_is_accepted words q (app, line, sound, is) = found _ is
  where
    found : (o : Option (Text × List Row)) → IsSomeAnd o (λ p. IsAsked p.0 p.1 q) → IsAccepted q
    found None h = absurd h
    found (Some p) h = accepted p.0 p.1 q h
