-- The instant of a body is in the years 0 to 9999, and the body of an event's atom is one.
use Rattle.cadf_split.proofs.Common.{common_steps, ◌≡◌, ℕ, ◌<◌, ◌≤◌, true, List, ◌∷◌, refl, sym, ap, subst, ◌∙◌, arith, true≢false, ℤ, pos, neg_ℤ, ◌+ℤ◌, ◌-ℤ◌, ◌*ℤ◌, ◌≤ℤ◌, unsigned_abs, days_from_civil, day_count, IsCivilDate, signed_arith, day_count-early, days_from_civil-day_count, day_count-lt_year, SpellsTime, clock_nanos, local_nanos, offset_of, nanos_of_day, nanos_of_minute, billionths_bound, offset_small, Text, Texts, is_text, event_letter, IsAtom, event, attachment, chain, tag, atom_rules, body_rule, IsBodyText, body_instant, timed, length, get_or, cond, Bor, ⊤, texts_at, Unit, day_number, IsShownDay, window, shared_key, key}
use Rattle.cadf_split.proofs.CivilDates.{year_zero}

-- ---- instants

near : (day : ℤ) (clock : ℕ) (offset : ℤ) → clock < nanos_of_day → unsigned_abs offset ≤ 840 → neg_ℤ (pos 719_527) ≤ℤ day → day ≤ℤ pos 2_932_895
    → IsShownDay (day_number ((day *ℤ pos nanos_of_day +ℤ pos clock) -ℤ (offset *ℤ pos nanos_of_minute)))
near day clock offset short small low high = (omega (arith, signed_arith, short, small, low, high), omega (arith, signed_arith, short, small, low, high))

year_last : day_count (pos 9999) 1 1 ≡ 7_304_485
year_last = day_count-early (pos 9999) 19998 1 1 refl (omega arith) (omega arith) (omega arith)

zero_is_civil : IsCivilDate (pos 0) 1 1
zero_is_civil = ((omega (arith, signed_arith), omega (arith, signed_arith)), (omega arith, omega arith), (omega arith, omega arith))

day_low : (y m d : ℕ) → 1 ≤ y → 1 ≤ d → neg_ℤ (pos 719_527) ≤ℤ days_from_civil (pos y) m d
day_low y m d some first =
    omega (
      arith,
      signed_arith,
      days_from_civil-day_count (pos y) m d,
      day_count-lt_year (pos 0) 1 1 (pos y) m d zero_is_civil first (omega (arith, signed_arith, some)),
      year_zero,
    )

day_high : (y m d : ℕ) → y ≤ 9998 → IsCivilDate (pos y) m d → days_from_civil (pos y) m d ≤ℤ pos 2_932_895
day_high y m d most civil = grind (arith, common_steps, signed_arith, days_from_civil-day_count, day_count-lt_year, year_last)

pub spelled_shown : (s : List ℕ) (instant offset : ℤ) → SpellsTime s instant offset → IsShownDay (day_number instant)
unfolding local_nanos
spelled_shown s instant offset t =
    let w = t.written in
    let parts = billionths_bound 9 w.fraction t.shape.fits.digits in
    let hour = t.clock.0 in
    let minute = t.clock.1 in
    let second = t.clock.2 in
    let short : clock_nanos w < nanos_of_day = omega (arith, parts, hour, minute, second) in
    subst (λ x. IsShownDay (day_number x)) (sym t.instant_is)
    (near (days_from_civil (pos w.year) w.month w.day) (clock_nanos w) (offset_of w.zone) short (offset_small w.zone t.zone)
    (day_low w.year w.month w.day t.date.0 t.date.2.2.0) (day_high w.year w.month w.day t.date.1 t.date.2))

pub body_shown : (t : Text) → IsBodyText t → IsShownDay (day_number (body_instant t))
body_shown t h =
    let u = timed t h in
    subst (λ x. IsShownDay (day_number x)) (sym u.is) (spelled_shown u.spelled u.instant u.offset u.spells)

-- ---- atoms

abbrev pub BodyHolds : Texts → Type 0
BodyHolds (letter ∷ id ∷ body ∷ rest) = is_text letter event_letter ≡ true → IsBodyText body
BodyHolds _ = ⊤

pub body_of_atom : {q : Texts} → IsAtom atom_rules q → BodyHolds q
body_of_atom (event {id} {body} h) = λ e. ((body_rule id body).0 h).1
body_of_atom (attachment {id} {body} h g) = λ e. ((body_rule id body).0 h).1
body_of_atom (chain {id} {body} h g k) = λ e. ((body_rule id body).0 h).1
body_of_atom (tag {id} {body} h g) = λ e. ((body_rule id body).0 h).1
body_of_atom _ = λ e. absurd (true≢false (sym e))

-- an atom of three texts or more, whose first one is the letter of events
pub key_of_event : (unit : Unit) (atom : List (Bor (List ℕ))) (found : Text) (d f : Bor (List ℕ)) → 3 ≤ length atom
    → is_text (get_or atom 0 d).now event_letter ≡ true
    → (IsBodyText (get_or atom 2 f).now → found ≡ window unit (body_instant (get_or atom 2 f).now)) → IsAtom atom_rules (texts_at atom)
    → found ≡ key unit (texts_at atom)
key_of_event unit (a ∷ b ∷ e ∷ rest) found d f long is body atom =
    body (body_of_atom atom is) ∙ ap (λ test. cond test (window unit (body_instant e.now)) shared_key) (sym is)
key_of_event unit _ found d f long is body atom = absurd (omega (arith, long))
