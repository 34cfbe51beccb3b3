-- Words at which nothing is wrong name a command.
use Rattle.cadf_words.proofs.Common.{◌≡◌, ◌∙◌, sym, ap, ap₂, refl, subst, ℕ, Bool, true, false, ◌&&◌, ◌||◌, not, cond, true≢false, List, [], ◌∷◌, ◌++◌, map, Option, Some, None, is_some, option_map, codes, find, fold, list_all, list_any, option_map_or, bytes_eq, long_of, short_of, Held, Outcome, Row, Rule, Step, Text, Waiting, Walk, done, waits, plain, refused, idle, option, positional, next, trailing, subcommand, value, after_flag, after_step, arg_by_index, long_or_other, plain_word, short_or_plain, subcommand_met, subcommand_or_other, to_positional, walk, walk_from, walked, walked_from, word_met, nothing_held, answers_to, stop_after, finished, settled, explicit_source, is_given, App, Shape, entered, label_of, names_of, rows_at, ErrorKind, DisplayHelp, InvalidSubcommand, Kinds, check_kinds, or_else, built_fault, check_fault, defaults_fault, entered_fault, settle_fault, other_fault, turn_fault, walk_fault, word_fault, bytes_eq-Decides, list_any-map}
use Rattle.clap.specs.Walk.{Names}

-- ---- lists of faults

no_first : (a b : Kinds) → or_else a b ≡ [] → a ≡ []
no_first [] b e = refl
no_first (k ∷ ks) b e = e

no_second : (a b : Kinds) → or_else a b ≡ [] → b ≡ []
no_second [] b e = e
no_second (k ∷ ks) b e = absurd (cc)

not_wanted : (a b c : Bool) → check_kinds a b c ≡ [] → b ≡ false
not_wanted a false c e = refl
not_wanted true true c e = absurd (cc)
not_wanted false true c e = absurd (cc)

no_more : (k : ErrorKind) (ks : Kinds) → k ∷ ks ≡ [] → ⊥
no_more k ks e = true≢false (ap is_some_kind e)
  where
    is_some_kind : Kinds → Bool
    is_some_kind [] = false
    is_some_kind (x ∷ xs) = true

-- ---- a command that has to be there is

pub is_entered : (app : App) (words : List Text) → app.top.subcommand_required ≡ true → built_fault app nothing_held words ≡ []
    → entered app (stop_after app.top.rules (names_of app) words) ≡ None → ⊥
is_entered app words required none e =
    let s = app.top in
    let ended = (walk s.rules (names_of app) nothing_held words).held in
    let stop = (walk s.rules (names_of app) nothing_held words).stopped in
    let has = is_some (entered app stop) in
    let rows = finished s.rules ended in
    let first = walk_fault s (names_of app) (walk_from nothing_held) words in
    let below = entered_fault app stop in
    let settling = settle_fault s.rules s.args_override_self ended in
    let defaults = defaults_fault (settled s.rules ended).rows s.rules in
    let checks = check_fault s rows has in
    let is : checks ≡ [] = no_second defaults checks (no_second settling (or_else defaults checks)
    (no_second below (or_else settling (or_else defaults checks)) (no_second first (or_else below (or_else settling (or_else defaults checks))) none))) in
    let wanted : (not has && s.subcommand_required) ≡ false =
    not_wanted (not has && (s.arg_required_else_help && not (list_any (λ r. explicit_source r.source) rows))) (not has && s.subcommand_required)
    (not (s.subcommand_negates_reqs && has) && list_any (λ a. a.required && not (is_given a.id rows)) s.rules) is in
    true≢false (sym (ap₂ (λ a b. not a && b) (ap is_some e) required) ∙ wanted)

-- ---- the walk doesn't stop at `help`

abbrev name_in : Step → Option Text
name_in (subcommand name) = Some name
name_in _ = None

abbrev is_help : Text → Bool
is_help name = bytes_eq name (codes "help")

abbrev pub stops_at_help : Option (Text × List Text) → Bool
stops_at_help stop = option_map_or (λ p. is_help p.0) stop false

plain_none : (c : List Rule) (waiting : Waiting) (word : Text) (h : Held) → name_in (plain_word c waiting word h).1 ≡ None
plain_none c idle word h = refl
plain_none c (option id) word h = refl
plain_none c positional word h = refl

flag_none : (c : List Rule) (waiting : Waiting) (word : Text) (h : Held) (o : Outcome) → name_in (after_flag c waiting word h o).1 ≡ None
flag_none c waiting word h done = refl
flag_none c waiting word h (waits id) = refl
flag_none c waiting word h plain = plain_none c waiting word h
flag_none c waiting word h refused = plain_none c waiting word h

short_none : (c : List Rule) (waiting : Waiting) (word : Text) (o : Option Text) (h : Held) → name_in (short_or_plain c waiting word o h).1 ≡ None
short_none c waiting word None h = plain_none c waiting word h
short_none c waiting word (Some flags) h = flag_none c waiting word _ _

long_none : (c : List Rule) (waiting : Waiting) (word : Text) (o : Option (Text × Option Text)) (h : Held)
    → name_in (long_or_other c waiting word o h).1 ≡ None
long_none c waiting word None h = short_none c waiting word (short_of word) h
long_none c waiting word (Some p) h = flag_none c waiting word _ _

-- the name at which a word stops the walk isn't `help`, where nothing is wrong with the word
abbrev IsOther : Option Text → Type 0
IsOther o = option_map_or is_help o false ≡ false

other_named : (s : Shape) (met : Option Text) (waiting : Waiting) (position : ℕ) (word : Text) (h : Held) → s.disable_help_subcommand ≡ false
    → other_fault s met word h ≡ [] → IsOther (name_in (subcommand_or_other s.rules met waiting position word h).1)
other_named s (Some name) waiting position word h has none = go (is_help name) refl
  where
    go : (b : Bool) → is_help name ≡ b → is_help name ≡ false
    go false e = e
    go true e =
        let bad : other_fault s (Some name) word h ≡ DisplayHelp ∷ InvalidSubcommand ∷ [] = rw (e, has) refl in
        absurd (no_more DisplayHelp (InvalidSubcommand ∷ []) (sym bad ∙ none))
other_named s None waiting position word h has none = go (bytes_eq word (45 ∷ 45 ∷ []))
  where
    go : (b : Bool) → IsOther (name_in (cond b (h, trailing position) (long_or_other s.rules waiting word (long_of word) h)).1)
    go true = refl
    go false = ap (λ o. option_map_or is_help o false) (long_none s.rules waiting word (long_of word) h)

word_named : (s : Shape) (names : Names) (is_trailing : Bool) (waiting : Waiting) (position : ℕ) (word : Text) (h : Held) → s.disable_help_subcommand ≡ false
    → word_fault s names is_trailing waiting word h ≡ [] → IsOther (name_in (word_met s.rules names is_trailing waiting position word h).1)
word_named s names true waiting position word h has none = refl
word_named s names false waiting position word h has none = other_named s (subcommand_met names waiting word) waiting position word h has none

positional_other : (c : List Rule) (found : Option Rule) (word : Text) (w : Walk) (h : Held) → stops_at_help w.stopped ≡ false
    → stops_at_help (to_positional c found word w h).stopped ≡ false
positional_other c None word w h e = e
positional_other c (Some a) word w h e = refl

step_other : (c : List Rule) (word : Text) (w : Walk) (h : Held) (step : Step) → stops_at_help w.stopped ≡ false → IsOther (name_in step)
    → stops_at_help (after_step c word w h step).stopped ≡ false
step_other c word w h (next waiting) e o = e
step_other c word w h (trailing position) e o = e
step_other c word w h (subcommand name) e o = o
step_other c word w h value e o = positional_other c (arg_by_index c w.position) word w h e

module _ (s : Shape) (names : Names) (has : s.disable_help_subcommand ≡ false) where
  from_other : (o : Option (Text × List Text)) (w : Walk) (word : Text) → stops_at_help o ≡ false → stops_at_help w.stopped ≡ false
      → (is_some o ≡ false → word_fault s names w.is_trailing w.waiting word w.held ≡ []) → stops_at_help (walked_from s.rules names o w word).stopped ≡ false
  from_other (Some p) w word e _ none = e
  from_other None w word e same none = step_other s.rules word w (word_met s.rules names w.is_trailing w.waiting w.position word w.held).0
      (word_met s.rules names w.is_trailing w.waiting w.position word w.held).1 same
      (word_named s names w.is_trailing w.waiting w.position word w.held has (none refl))

  no_word_fault : (stopped : Bool) (a b : Kinds) → cond stopped [] (or_else a b) ≡ [] → stopped ≡ false → a ≡ []
  no_word_fault false a b e is = no_first a b e
  no_word_fault true a b e is = absurd (true≢false is)

  walked_other : (w : Walk) (word : Text) → stops_at_help w.stopped ≡ false → turn_fault s names w word ≡ []
      → stops_at_help (walked s.rules names w word).stopped ≡ false
  unfolding walked
  walked_other w word e none = from_other w.stopped w word e e (no_word_fault (is_some w.stopped) _ _ none)

  walk_other : (w : Walk) (words : List Text) → stops_at_help w.stopped ≡ false → walk_fault s names w words ≡ []
      → stops_at_help (fold (walked s.rules names) w words).stopped ≡ false
  unfolding walk_fault
  walk_other w [] e none = e
  walk_other w (word ∷ rest) e none =
      walk_other (walked s.rules names w word) rest (walked_other w word e (no_first _ _ none)) (no_second _ _ none)

-- ---- the command that is entered

abbrev pub is_nil : List Text → Bool
is_nil [] = true
is_nil (x ∷ xs) = false

both : (a b : Bool) → (a && b) ≡ true → (a ≡ true) × (b ≡ true)
both true b e = (refl, e)
both false b e = absurd (true≢false (sym e))

or_right : (a b : Bool) → b ≡ true → (a || b) ≡ true
or_right true b h = refl
or_right false b h = h

-- a command without aliases is found by its name
found_step : (word : Text) (x : Shape) (xs : List Shape) (s : Shape) (aliases : List Text) (b : Bool) → x.aliases ≡ aliases → bytes_eq x.name word ≡ b
    → is_nil x.aliases ≡ true → find (λ y. answers_to word (label_of y)) (x ∷ xs) ≡ Some s
    → (find (λ y. answers_to word (label_of y)) xs ≡ Some s → (s.name ≡ word) × (list_any (λ (y : Shape). bytes_eq s.name y.name) xs ≡ true))
    → (s.name ≡ word) × (list_any (λ (y : Shape). bytes_eq s.name y.name) (x ∷ xs) ≡ true)
found_step word x xs s (a ∷ more) b is hit none e later = absurd (true≢false (sym none ∙ ap is_nil is))
found_step word x xs s [] true is hit none e later =
    let first : find (λ y. answers_to word (label_of y)) (x ∷ xs) ≡ Some x = rw hit refl in
    let here : Some x ≡ Some s = sym first ∙ e in
    let one : x ≡ s = cc in
    let same : bytes_eq x.name x.name ≡ true = (bytes_eq-Decides x.name x.name).1 refl in
    let any : list_any (λ (y : Shape). bytes_eq x.name y.name) (x ∷ xs) ≡ true = rw same refl in (
      ap (λ (y : Shape). y.name) (sym one) ∙ (bytes_eq-Decides x.name word).0 hit,
      subst (λ (t : Shape). list_any (λ (y : Shape). bytes_eq t.name y.name) (x ∷ xs) ≡ true) one any,
    )
found_step word x xs s [] false is hit none e later =
    let first : find (λ y. answers_to word (label_of y)) (x ∷ xs) ≡ find (λ y. answers_to word (label_of y)) xs = rw (hit, is) refl in
    let rest = later (sym first ∙ e) in
    (rest.0, or_right _ _ rest.1)

found_name : (word : Text) (subs : List Shape) (s : Shape) → list_all (λ (x : Shape). is_nil x.aliases) subs ≡ true
    → find (λ x. answers_to word (label_of x)) subs ≡ Some s → (s.name ≡ word) × (list_any (λ (x : Shape). bytes_eq s.name x.name) subs ≡ true)
found_name word [] s bare e = absurd (cc)
found_name word (x ∷ xs) s bare e =
    let parts = both (is_nil x.aliases) (list_all (λ (y : Shape). is_nil y.aliases) xs) bare in
    found_step word x xs s x.aliases (bytes_eq x.name word) refl refl parts.0 e (λ more. found_name word xs s parts.1 more)

or_step : (a b c : Bool) → (b ≡ true → c ≡ true) → (a || b) ≡ true → (a || c) ≡ true
or_step true b c h e = refl
or_step false b c h e = h e

-- what is entered is one of the names, but for `help`
but_last : (name last : Text) (names : List Text) → bytes_eq name last ≡ false → list_any (bytes_eq name) (names ++ last ∷ []) ≡ true
    → list_any (bytes_eq name) names ≡ true
but_last name last [] not_last e = absurd (true≢false (sym e ∙ ap (λ b. b || false) not_last))
but_last name last (x ∷ xs) not_last e = or_step (bytes_eq name x) _ _ (but_last name last xs not_last) e

pub named_other : (app : App) (words : List Text) (name : Text) (rows : List Row) (names : List Text) → app.top.disable_help_subcommand ≡ false
    → list_all (λ (s : Shape). is_nil s.aliases) app.subs ≡ true → map (λ (s : Shape). s.name) app.subs ≡ names ++ codes "help" ∷ []
    → built_fault app nothing_held words ≡ [] → entered app (stop_after app.top.rules (names_of app) words) ≡ Some (name, rows)
    → list_any (bytes_eq name) names ≡ true
named_other app words name rows names has bare are none e =
    at_stop (stop_after app.top.rules (names_of app) words)
    (walk_other app.top (names_of app) has (walk_from nothing_held) words refl (no_first _ _ none)) e
  where
    of_shape : (p : Text × List Text) (o : Option Shape) → find (λ s. answers_to p.0 (label_of s)) app.subs ≡ o → stops_at_help (Some p) ≡ false
        → option_map (λ s. rows_at s p.1) o ≡ Some (name, rows) → list_any (bytes_eq name) names ≡ true
    of_shape p None found other is = absurd (cc)
    of_shape p (Some s) found other is =
        let its : s.name ≡ name = ap (λ o. option_map_or (λ (q : Text × List Row). q.0) o []) is in
        let got = found_name p.0 app.subs s bare found in
        let not_help : bytes_eq name (codes "help") ≡ false = ap (λ t. bytes_eq t (codes "help")) (sym its ∙ got.0) ∙ other in
        let any : list_any (bytes_eq name) (map (λ (x : Shape). x.name) app.subs) ≡ true =
        sym (list_any-map (bytes_eq name) (λ (x : Shape). x.name) app.subs)
        ∙ subst (λ t. list_any (λ (x : Shape). bytes_eq t x.name) app.subs ≡ true) its got.1 in
        but_last name (codes "help") names not_help (ap (list_any (bytes_eq name)) (sym are) ∙ any)

    at_stop : (o : Option (Text × List Text)) → stops_at_help o ≡ false → entered app o ≡ Some (name, rows) → list_any (bytes_eq name) names ≡ true
    at_stop None other is = absurd (cc)
    at_stop (Some p) other is = of_shape p _ refl other is
