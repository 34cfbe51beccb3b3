-- Which statuses faults have, and what is told with each.
use Rattle.cadf_c.proofs.Common.{◌≡◌, ◌≤◌, ◌⊎◌, inl, inr, ℕ, List, length, true, true≢false, refl, sym, ap, ◌∙◌, subst, Result, Ok, Err, IfOk, IfErr, IsErrAnd, ℤ, pos, arith, ArgumentFault, LogName, Sites, Letter, Key, Place, Cells, Salt, NoUnit, NoMemory, argument_status_of, argument_text_of, ToolFault, Input, NoLog, OtherLog, NoFacts, NoKeys, TooFewCells, Script, Rehearse, NoValue, Unverified, Ungrown, ReadFault, WriteFault, Request, status_of, IsHandedOut, IsMadeFor, IsFirstFor, is_of_memory, IsAsked, IsRefused, IsCall}
use Rattle.cadf_tool.specs.declared.fault.ToolFault.TheVariants.{Memory}

-- where no read and no write fails
pub one_or_four : (fault : ToolFault) → is_of_memory fault ≡ true → (status_of fault ≡ 1) ⊎ (status_of fault ≡ 4)
one_or_four (Input n f) h = inl refl
one_or_four NoLog h = inl refl
one_or_four (OtherLog n) h = inl refl
one_or_four (NoFacts n) h = inl refl
one_or_four (NoKeys n) h = inl refl
one_or_four (TooFewCells n cells) h = inl refl
one_or_four (Script line) h = inl refl
one_or_four (Rehearse f) h = inl refl
one_or_four NoValue h = inl refl
one_or_four (Unverified f) h = inl refl
one_or_four (Ungrown f) h = inl refl
one_or_four (ReadFault n) h = absurd (true≢false (sym h))
one_or_four WriteFault h = absurd (true≢false (sym h))
one_or_four Memory h = inr refl

apart : (s : ℤ) (m n : ℕ) → s ≡ pos m → s ≡ pos n → m ≡ n
apart s m n a b = cc

-- ---- what is told of a run

module _ (q : Request) (inputs : List (List ℕ)) (made : Result ℕ ToolFault) (status : ℤ) (old last new : List ℕ) (count : ℕ)
    (ok : IfOk made (IsHandedOut (IsMadeFor q inputs) old last)) (err : IfErr made (IsFirstFor q inputs))
    (is_written : status ≡ pos 0 → (made ≡ Ok count) × (new ≡ last)) (is_refused : status ≡ pos 1 → IsErrAnd made (λ fault. status_of fault ≡ 1))
    (only : (status ≡ pos 0) ⊎ (status ≡ pos 1) ⊎ (status ≡ pos 4)) (short : (status ≡ pos 0) ⊎ (count ≤ 128)) where
  written : status ≡ pos 0 → IsHandedOut (IsMadeFor q inputs) old new count
  written zero =
      let w = is_written zero in
      subst (λ ws. IsHandedOut (IsMadeFor q inputs) old ws count) (sym w.1) (subst (λ r. IfOk r (IsHandedOut (IsMadeFor q inputs) old last)) w.0 ok)

  refused_by : (r : Result ℕ ToolFault) → IfErr r (IsFirstFor q inputs) → IsErrAnd r (λ fault. status_of fault ≡ 1) → IsRefused (IsFirstFor q inputs)
  refused_by (Ok v) h e = absurd e
  refused_by (Err fault) h e = record { fault = fault; first = h; status = e }

  four : (status ≡ pos 0) ⊎ (status ≡ pos 1) ⊎ (status ≡ pos 4) → (status ≡ pos 0) ⊎ (status ≡ pos 1) ⊎ (status ≡ pos 2) ⊎ (status ≡ pos 4)
  four (inl e) = inl e
  four (inr (inl e)) = inr (inl e)
  four (inr (inr e)) = inr (inr (inr e))

  not_two : (status ≡ pos 0) ⊎ (status ≡ pos 1) ⊎ (status ≡ pos 4) → status ≡ pos 2 → ⊥
  not_two (inl e) two = let f = apart status 0 2 e two in absurd (omega (arith, f))
  not_two (inr (inl e)) two = let f = apart status 1 2 e two in absurd (omega (arith, f))
  not_two (inr (inr e)) two = let f = apart status 4 2 e two in absurd (omega (arith, f))

  pub run_told : IsCall (Ok q) inputs status old new count
  run_told = record {
    written = written;
    refused = λ one. refused_by made err (is_refused one);
    argument = λ two. absurd (not_two only two);
    only = four only;
    short = short;
  }

-- ---- what is told where an argument is refused, or there was no memory

short_text : (fault : ArgumentFault) → length (argument_text_of fault) ≤ 128
short_text LogName = omega arith
short_text Sites = omega arith
short_text Letter = omega arith
short_text Key = omega arith
short_text Place = omega arith
short_text Cells = omega arith
short_text Salt = omega arith
short_text NoUnit = omega arith
short_text NoMemory = omega arith

two_or_four : (fault : ArgumentFault) → (argument_status_of fault ≡ 2) ⊎ (argument_status_of fault ≡ 4)
two_or_four LogName = inl refl
two_or_four Sites = inl refl
two_or_four Letter = inl refl
two_or_four Key = inl refl
two_or_four Place = inl refl
two_or_four Cells = inl refl
two_or_four Salt = inl refl
two_or_four NoUnit = inl refl
two_or_four NoMemory = inr refl

module _ (asked : Result Request ArgumentFault) (inputs : List (List ℕ)) (fault : ArgumentFault) (status : ℤ) (old new : List ℕ) (count : ℕ)
    (is : status ≡ pos (argument_status_of fault)) (out : IsHandedOut (λ text. text ≡ argument_text_of fault) old new count) where
  -- any other status is none of a fault
  never : (n : ℕ) → (n ≡ 2 → ⊥) → (n ≡ 4 → ⊥) → status ≡ pos n → ⊥
  never n f g e = by (two_or_four fault)
    where
      by : (argument_status_of fault ≡ 2) ⊎ (argument_status_of fault ≡ 4) → ⊥
      by (inl two) = f (apart status n (argument_status_of fault) e is ∙ two)
      by (inr four) = g (apart status n (argument_status_of fault) e is ∙ four)

  only : (argument_status_of fault ≡ 2) ⊎ (argument_status_of fault ≡ 4)
      → (status ≡ pos 0) ⊎ (status ≡ pos 1) ⊎ (status ≡ pos 2) ⊎ (status ≡ pos 4)
  only (inl e) = inr (inr (inl (is ∙ ap pos e)))
  only (inr e) = inr (inr (inr (is ∙ ap pos e)))

  same_fault : (f g : ArgumentFault) → ◌≡◌ {A = Result Request ArgumentFault} (Err f) (Err g) → f ≡ g
  same_fault f g e = cc

  argument : IsAsked asked (Err fault) → status ≡ pos 2 → IsErrAnd asked (λ f. IsHandedOut (λ text. text ≡ argument_text_of f) old new count)
  argument (inl e) two =
      let f = apart status 2 (argument_status_of fault) two is ∙ ap argument_status_of (same_fault fault NoMemory e) in absurd (omega (arith, f))
  argument (inr e) two = subst (λ a. IsErrAnd a (λ f. IsHandedOut (λ text. text ≡ argument_text_of f) old new count)) e out

  pub refusal_told : IsAsked asked (Err fault) → IsCall asked inputs status old new count
  refusal_told given = record {
    written = λ e. absurd (never 0 (λ f. omega (arith, f)) (λ f. omega (arith, f)) e);
    refused = λ e. absurd (never 1 (λ f. omega (arith, f)) (λ f. omega (arith, f)) e);
    argument = argument given;
    only = only (two_or_four fault);
    short = inr (subst (λ n. n ≤ 128) (sym (out.all ∙ ap length out.made)) (short_text fault));
  }
