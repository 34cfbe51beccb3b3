-- From what clap found to the request, for this command line.
use Rattle.cadf_words.proofs.Common.{◌≡◌, ◌∙◌, sym, ap, ap₂, refl, subst, Bool, true, false, ◌&&◌, ◌⊎◌, inl, inr, Result, Ok, Err, IfOk, MatchResult, true≢false, List, [], ◌∷◌, ◌++◌, map, Option, Some, None, is_some, option_map, codes, list_all, Box, IsErrAnd, IsSomeAnd, box_value, Row, Text, App, Shape, argument_words, built, HasMatchesOf, subcommand_of, subcommand_rows, fault_of, is_simple_and_free, out-ArgMatches, out-SubCommand, SubCommand, found_of, has_subcommand, subcommand_name_of, kind_of, FailsBy, Error, OutOfMemory, ArgMatches, ValueParser, Names, Request, Reply, Memory, Help, Refused, rows_of, clap_on_literals, AnswersError, HasKindOf, IsAsked, IsCommandLine, IsTold, MakesRequest, command_line, is_shown, AreMatches, command_names, is_among}
use Rattle.cadf_words.proofs.Entered.{is_entered, is_nil, named_other}

-- clap says exactly what it makes of the words of this command line
pub simple : (units : ValueParser) → is_simple_and_free (command_line units) ≡ true
unfolding clap_on_literals
simple units = refl

pub simple_line : (app : App) → IsCommandLine app → is_simple_and_free app ≡ true
simple_line app is = ap is_simple_and_free is.2 ∙ simple (Names is.0)

both : (a b : Bool) → (a && b) ≡ true → a ≡ true
both true b e = refl
both false b e = absurd (true≢false (sym e))

pub answered : (app : App) (words : List Text) (r : Result ArgMatches Error) → IsCommandLine app → IfOk r (HasMatchesOf app words)
    → (is_simple_and_free app ≡ true → FailsBy (fault_of app words) r)
    → MatchResult r (AreMatches words) (λ e. (kind_of e ≡ OutOfMemory) ⊎ HasKindOf words (kind_of e))
answered app words (Ok m) is matched fails =
    (app, is, fails (simple_line app is), (matched (both _ _ (simple_line app is))).1)
answered app words (Err e) is matched fails = elim (fails (simple_line app is)) [
  | inl out ↦ inl out
  | inr among ↦ inr (app, is, among)
]

pub told : (words : List Text) (e : Error) (r : Reply) → (kind_of e ≡ OutOfMemory) ⊎ HasKindOf words (kind_of e) → AnswersError e r → IsTold words r
told words e Memory why a = tt
told words e (Help m) why a = elim why [
  | inl out ↦ absurd (true≢false (sym a.1 ∙ ap is_shown out))
  | inr has ↦ (subst (λ (x : Error). HasKindOf words (kind_of x)) (sym a.0) has, ap (λ (x : Error). is_shown (kind_of x)) a.0 ∙ a.1)
]
told words e (Refused m) why a = elim why [
  | inl out ↦ absurd (a.2 out)
  | inr has ↦ (subst (λ (x : Error). HasKindOf words (kind_of x)) (sym a.0) has, ap (λ (x : Error). is_shown (kind_of x)) a.0 ∙ a.1)
]

pub told_err : (words : List Text) (e : Error) (r : Result Request Reply) → (kind_of e ≡ OutOfMemory) ⊎ HasKindOf words (kind_of e)
    → IsErrAnd r (AnswersError e) → MatchResult r (MakesRequest words) (IsTold words)
told_err words e (Ok q) why a = absurd a
told_err words e (Err reply) why a = told words e reply why a

-- there is a command
pub has_command : (app : App) (words : List Text) → IsCommandLine app → fault_of app words ≡ [] → subcommand_of app words ≡ None → ⊥
has_command app words is none e =
    is_entered (built app) (argument_words app words) (ap (λ (a : App). (built a).top.subcommand_required) is.2) none e

-- and it is one of the synopsis
names_of_line : (units : ValueParser) → map (λ (s : Shape). s.name) (built (command_line units)).subs ≡ command_names ++ codes "help" ∷ []
names_of_line units = refl

pub is_command : (app : App) (words : List Text) (name : Text) (rows : List Row) → IsCommandLine app → fault_of app words ≡ []
    → subcommand_of app words ≡ Some (name, rows) → is_among command_names name ≡ true
is_command app words name rows is none e =
    named_other (built app) (argument_words app words) name rows command_names
    (ap (λ (a : App). (built a).top.disable_help_subcommand) is.2)
    (ap (λ (a : App). list_all (λ (s : Shape). is_nil s.aliases) (built a).subs) is.2)
    (ap (λ (a : App). map (λ (s : Shape). s.name) (built a).subs) is.2 ∙ names_of_line (Names is.0)) none e

module _ {Z : Type 0} where
  -- the subcommand, by its name and its rows
  pub pair_found : (o : Option (Box SubCommand Z)) (name : Text) (rows : List Row)
      → Some name ≡ option_map (λ b. (out-SubCommand (box_value b)).name.now) o
      → Some rows ≡ option_map (λ p. p.1) (subcommand_rows o) → subcommand_rows o ≡ Some (name, rows)
  pair_found None name rows n r = absurd (cc)
  pair_found (Some b) name rows n r =
      let named : name ≡ (out-SubCommand (box_value b)).name.now = cc in
      let given : rows ≡ rows_of (found_of (out-SubCommand (box_value b)).matches) = cc in
      ap₂ (λ x y. Some (x, y)) (sym named) (sym given)

  pub none_found : (o : Option (Box SubCommand Z)) → false ≡ is_some o → subcommand_rows o ≡ None
  none_found None n = refl
  none_found (Some b) n = absurd (true≢false (sym n))

-- ---- the request

module _ (words : List Text) (m : ArgMatches) (a : AreMatches words m) where
  pub no_command : false ≡ has_subcommand m → ⊥
  no_command n = has_command a.0 words a.1 a.2 (sym a.3 ∙ none_found (out-ArgMatches m).subcommand n)

  module _ (name : Text) (rows : List Row) (n : Some name ≡ subcommand_name_of m)
      (r : Some rows ≡ option_map (λ p. p.1) (subcommand_rows (out-ArgMatches m).subcommand)) where
    is_pair : subcommand_of a.0 words ≡ Some (name, rows)
    is_pair = sym a.3 ∙ pair_found (out-ArgMatches m).subcommand name rows n r

    pub known : is_among command_names name ≡ true
    known = is_command a.0 words name rows a.1 a.2 is_pair

    pub made : (q : Request) → IsAsked name rows q → MakesRequest words q
    made q asked = (a.0, a.1, a.2, subst (λ o. IsSomeAnd o (λ p. IsAsked p.0 p.1 q)) (sym is_pair) asked)
