-- Files are opened one after another, and a fault is told.
use Rattle.cadf.proofs.Common.{◌≡◌, ◌+◌, ◌<◌, ℕ, Bool, true, false, List, [], ◌∷◌, ◌++◌, map, take, drop, length, get_or, Option, Some, None, option_map, refl, sym, ap, ◌∙◌, add-one, append_assoc, take-suc, drop-cons, Result, Ok, Err, MatchResult, IsErrAnd, Bor, result_map_both, length-map, map-append, take-append-drop, SourceState, ToolFault, ReadFault, Memory, Stop, Tool, Word, texts, OpenerState, and_asked, each_opened, unread, AreOpened, IsUnopened, IfOk, subst, task, Asked, Request, Reading, asked_by, IsUnwrittenIfStarved}

-- ---- what is asked of an opener

in_parts : (o : OpenerState) (xs ys : List (Word × Bool)) → and_asked (and_asked o xs) ys ≡ and_asked o (xs ++ ys)
in_parts o xs ys = ap (λ (asked : Option (List (Word × Bool))). record { asked = asked; bytes = o.bytes }) (by o.asked)
  where
    by : (asked : Option (List (Word × Bool)))
        → option_map (λ earlier. earlier ++ ys) (option_map (λ earlier. earlier ++ xs) asked) ≡ option_map (λ earlier. earlier ++ (xs ++ ys)) asked
    by None = refl
    by (Some earlier) = ap Some (append_assoc earlier xs ys)

and_one : (o mid after : OpenerState) (xs : List (Word × Bool)) (call : Word × Bool) → mid ≡ and_asked o xs
    → after ≡ and_asked mid (call ∷ []) → after ≡ and_asked o (xs ++ call ∷ [])
and_one o mid after xs call e f = f ∙ ap (λ (s : OpenerState). and_asked s (call ∷ [])) e ∙ in_parts o xs (call ∷ [])

-- ---- the name at an index

module _ (names : List (Bor Word)) (i : ℕ) (d : Bor Word) (within : i < length names) where
  through : texts (take (i + 1) names) ≡ texts (take i names) ++ (get_or names i d).now ∷ []
  through = rw (add-one, take-suc names i d within) (map-append _ _ _)

  around : texts names ≡ texts (take i names) ++ (get_or names i d).now ∷ texts (drop (i + 1) names)
  around = ap texts (sym (take-append-drop i names)) ∙ map-append _ (take i names) (drop i names)
      ∙ ap (λ (left : List (Bor Word)). texts (take i names) ++ texts left) (drop-cons names i d within ∙ ap (λ (k : ℕ). get_or names i d ∷ drop k names) (sym (add-one i)))

  module _ (o mid after : OpenerState) (ss : List SourceState) (before : AreOpened o mid (texts (take i names)) ss) where
    pub one_more : (s : SourceState) → after ≡ and_asked mid (((get_or names i d).now, true) ∷ []) → s ≡ unread (mid.bytes (get_or names i d).now)
        → AreOpened o after (texts (take (i + 1) names)) (ss ++ s ∷ [])
    one_more s asked is = (
      and_one o mid after _ _ before.0 asked ∙ ap (and_asked o) (sym (map-append _ (texts (take i names)) _) ∙ ap each_opened (sym through)),
      ap (λ (front : List SourceState). front ++ s ∷ []) before.1
          ∙ ap (λ (last : SourceState). map (λ name. unread (o.bytes name)) (texts (take i names)) ++ last ∷ [])
          (is ∙ ap (λ (state : OpenerState). unread (state.bytes (get_or names i d).now)) before.0)
          ∙ sym (map-append _ (texts (take i names)) _) ∙ ap (map (λ name. unread (o.bytes name))) (sym through),
    )

    pub not_opened : after ≡ and_asked mid (((get_or names i d).now, false) ∷ []) → IsUnopened o after (texts names) (ReadFault (length ss + 1))
    not_opened asked = (
      texts (take i names),
      texts (drop (i + 1) names),
      (get_or names i d).now,
      around,
      ap (λ (k : ℕ). k + 1) (ap length before.1 ∙ length-map _ _),
      and_one o mid after _ _ before.0 asked,
    )

    pub no_memory : after ≡ and_asked mid (((get_or names i d).now, true) ∷ []) → IsUnopened o after (texts names) Memory
    no_memory asked = (
      texts (take (i + 1) names),
      texts (drop (i + 1) names),
      ap texts (sym (take-append-drop (i + 1) names)) ∙ map-append _ (take (i + 1) names) _,
      and_one o mid after _ _ before.0 asked ∙ ap (and_asked o) (sym (map-append _ (texts (take i names)) _) ∙ ap each_opened (sym through)),
    )

-- ---- what the command answers

pub told : {T : Type 0} (r : Result T ToolFault) (result : Result T Stop)
    → MatchResult r (λ v. result ≡ Ok v) (λ fault. IsErrAnd result (λ stop. stop ≡ Tool fault)) → result ≡ result_map_both (λ v. v) Tool r
told (Ok v) result is = is
told (Err fault) (Ok v) is = absurd is
told (Err fault) (Err stop) is = ap Err is

-- ---- if memory runs out

module _ {T W : Type 0} (q : Request) (before written : W) (result : Result T Stop) where
  pub untouched : written ≡ before → IsUnwrittenIfStarved q before written result
  untouched same = by (asked_by q)
    where
      by : (r : Reading Asked) → IfOk r (λ asked. (task asked).is_whole ≡ true → result ≡ Err (Tool Memory) → written ≡ before)
      by (Ok asked) = λ _ _. same
      by (Err fault) = tt

  pub handed_on : (asked : Asked) (r : Result T ToolFault) → asked_by q ≡ Ok asked → result ≡ result_map_both (λ v. v) Tool r
      → ((task asked).is_whole ≡ true → r ≡ Err Memory → written ≡ before) → IsUnwrittenIfStarved q before written result
  handed_on asked r is told memory =
      subst (λ a. IfOk a (λ b. (task b).is_whole ≡ true → result ≡ Err (Tool Memory) → written ≡ before)) (sym is)
      (λ whole e. memory whole (of r (sym told ∙ e)))
    where
      of : (s : Result T ToolFault) → result_map_both (λ v. v) Tool s ≡ Err (Tool Memory) → s ≡ Err Memory
      of (Ok v) e = absurd (cc)
      of (Err fault) e = cc
