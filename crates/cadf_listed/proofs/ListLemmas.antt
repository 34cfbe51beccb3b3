-- The verdict on the file of a list accepts these files, and no others.
use Rattle.cadf_listed.proofs.Common.{◌≡◌, ℕ, List, [], ◌∷◌, ◌++◌, map, Bool, true, false, cond, Option, Some, None, refl, sym, ◌∙◌, ap, subst, suc, length, arith, ◌-◌, append_assoc, append-nil, unwrap_or, last_or, slice_get, Text, text_same, text_total, AllByRecursion-listed, listed-AllByRecursion, listed-rising, rising-listed, Listed, rising, IsNameText, is_name_text, is_unbroken, unbroken_quoted, AreAfter, and_true, are_unbroken, Ends, Follows, IsModelKind, Plain, accepts-models, lines_of, models-tell, name_is, unbroken_digest, good_log, digest_line, log_in_line, log_line, with_digest_line, Order, Shape, cause_of_digest, is_above_last_digest, AreRising, digests_push, last_below, rising_again, rising_none, rising_push, rising_set, set_again, AreNames, AreRisingNames, IsListed, IsName, ListFileIsInjective, ListedModel, Names, list_body, name_line, AcceptsLists, IsPut, list_kind, list_model_in, name_in, names_in}
use Rattle.cadf_join.specs.Sets as set
use Rattle.cadf_linefile.proofs.BodyLines as lines
unfoldable use Rattle.cadf_listed.specs.ListVerdict.{list_cause}
use Rattle.cadf_listed.proofs.NameLines.{AreEachNames, name-again, name-only, plain_name, unbroken_name, names_in-lines, names_in-closed}

-- ---- one line

pub cause_shape : (ns : List Text) (l : List ℕ) → name_in l ≡ None → list_cause ns l ≡ Some Shape
unfolding list_cause
cause_shape ns l e = ap (cause_of_digest ns) e

pub cause_order : (ns : List Text) (l : List ℕ) (n : Text) → name_in l ≡ Some n → is_above_last_digest ns n ≡ false → list_cause ns l ≡ Some Order
unfolding list_cause
cause_order ns l n e above = ap (cause_of_digest ns) e ∙ ap (λ b. cond b None (Some Order)) above

pub cause_not : (ns : List Text) (l : List ℕ) (n : Text) → name_in l ≡ Some n → is_above_last_digest ns n ≡ true → list_cause ns l ≡ None
unfolding list_cause
cause_not ns l n e above = ap (cause_of_digest ns) e ∙ ap (λ b. cond b None (Some Order)) above

cause_none : (ns : List Text) (l : List ℕ) → list_cause ns l ≡ None → (n : Text) × (name_in l ≡ Some n) × (is_above_last_digest ns n ≡ true)
unfolding list_cause
cause_none ns l e = by (name_in l) refl e
  where
    above : (b : Bool) → cond b None (Some Order) ≡ None → b ≡ true
    above true k = refl
    above false k = absurd (cc)

    by : (o : Option Text) → name_in l ≡ o → cause_of_digest ns o ≡ None → (n : Text) × (name_in l ≡ Some n) × (is_above_last_digest ns n ≡ true)
    by None is k = absurd (cc)
    by (Some n) is k = (n, is, above (is_above_last_digest ns n) k)

-- the lines of names with a further one
pub line_put : (ns ms : List Text) (l : List ℕ) → AreRisingNames ns → IsPut ns l ms
    → (list_cause (names_in (map name_line ns)) l ≡ None) × (map name_line ms ≡ map name_line ns ++ l ∷ []) × AreRisingNames ms
line_put ns ms l are put =
    let c = cause_none ns l put.0 in
    let n = put.1.0 in
    let o = name-only l n put.1.1 in
    let same : c.0 ≡ n = cc in
    let above = subst (λ m. is_above_last_digest ns m ≡ true) same c.2 in
    let said : map name_line (ns ++ n ∷ []) ≡ map name_line ns ++ l ∷ [] = lines.map_more name_line ns n ∙ ap (λ x. map name_line ns ++ x ∷ []) (sym o.0) in (
      ap (λ es. list_cause es l) (names_in-lines ns are.0) ∙ put.0,
      ap (map name_line) put.1.2 ∙ said,
      subst AreRisingNames (sym put.1.2) (digests_push IsName ns n are.0 o.1, rising_push ns n are.1 above),
    )

pub cause_said : (ns : List Text) (l : List ℕ) → AreRisingNames ns → list_cause (names_in (map name_line ns)) l ≡ list_cause ns l
cause_said ns l are = ap (λ ms. list_cause ms l) (names_in-lines ns are.0)

pub last_is : (ns : List Text) → slice_get ns (length ns - 1) ≡ last_or None ns
last_is [] = refl
last_is (n ∷ []) = refl
last_is (n ∷ m ∷ ns) = let one : length (n ∷ m ∷ ns) - 1 ≡ suc (length (m ∷ ns) - 1) = omega arith in ap (slice_get (n ∷ m ∷ ns)) one ∙ last_is (m ∷ ns)

-- ---- names, and the set of them

each_name : (s : Names) → AreNames s → AreEachNames (rising s)
each_name s h = listed-AllByRecursion IsName (rising s) (λ n l. h n (listed-rising text_total text_same s n l))

pub are_names : (ns : List Text) → AreRisingNames ns → AreNames (set.from_list ns)
are_names ns are = λ n there.
    AllByRecursion-listed IsName ns are.0 n (subst (Listed n) (rising_again ns are.1) (rising-listed text_total text_same (set.from_list ns) n there))

pub list_is : (l : ListedModel) → IsNameText l.log → AreNames l.names → IsListed l
list_is l named names = record { log = name_is l.log named; names = names }

-- ---- names that rise may follow each other

abbrev plain_of : Text → Plain
plain_of n = (name_line n, plain_name n)

abbrev plains : ListedModel → List Plain
plains l = map plain_of (rising l.names)

plain_lines : (ns : List Text) → lines_of (map plain_of ns) ≡ map name_line ns
plain_lines [] = refl
plain_lines (n ∷ ns) = ap (λ ls. name_line n ∷ ls) (plain_lines ns)

plain_more : (ns : List Text) (n : Text) → map plain_of (ns ++ n ∷ []) ≡ map plain_of ns ++ plain_of n ∷ []
plain_more [] n = refl
plain_more (e ∷ ns) n = ap (λ xs. plain_of e ∷ xs) (plain_more ns n)

record AreOfNames (before : List Text) (lines : List (List ℕ)) : Type 0 where
  pub names : List Text
  pub are : lines ≡ map name_line names
  pub all : AreRisingNames (before ++ names)

unbroken_lines : (ns : List Text) (l : List ℕ) → is_unbroken l ≡ true → are_unbroken (map name_line ns ++ l ∷ []) ≡ true
unbroken_lines [] l h = and_true (is_unbroken l) true h refl
unbroken_lines (n ∷ ns) l h = and_true (is_unbroken (name_line n)) _ (unbroken_name n) (unbroken_lines ns l h)

module _ (header : List ℕ) (whole : is_unbroken header ≡ true) where
  abbrev After : List Plain → List Plain → Type 0
  After before xs = AreAfter (Follows (list_kind header)) (Ends (list_kind header)) before xs

  after_rising : (before ns : List Text) → AreEachNames before → AreEachNames ns → AreRising (before ++ ns) → After (map plain_of before) (map plain_of ns)
  after_rising before [] told each up = refl
  after_rising before (n ∷ ns) told each up = (
    ap (λ es. list_cause es (name_line n)) (ap names_in (plain_lines before) ∙ names_in-lines before told)
        ∙ cause_not before (name_line n) n (name-again n each.0) (last_below before n ns up),
    subst (λ b. After b (map plain_of ns)) (plain_more before n)
        (after_rising (before ++ n ∷ []) ns (digests_push IsName before n told each.0) each.1
        (subst AreRising (sym (append_assoc before (n ∷ []) ns)) up)),
  )

  -- and lines that may follow each other are those of names that rise
  rising_after : (before : List Text) (done xs : List Plain) → lines_of done ≡ map name_line before → AreRisingNames before → After done xs
      → AreOfNames before (lines_of xs)
  rising_after before done [] are up h = record { names = []; are = refl; all = subst AreRisingNames (sym (append-nil before)) up }
  rising_after before done (x ∷ xs) are up h =
      let c = cause_none before x.0 (ap (λ es. list_cause es x.0) (sym (ap names_in are ∙ names_in-lines before up.0)) ∙ h.0) in
      let n = c.0 in
      let o = name-only x.0 n c.1 in
      let again = append_assoc before (n ∷ []) in
      let r = rising_after (before ++ n ∷ []) (done ++ x ∷ []) xs
      (lines.map_more (λ (z : Plain). z.0) done x ∙ (λ i. are i ++ o.0 i ∷ []) ∙ sym (lines.map_more name_line before n))
      (digests_push IsName before n up.0 o.1, rising_push before n up.1 c.2) h.1 in
      record { names = n ∷ r.names; are = λ i. o.0 i ∷ r.are i; all = subst AreRisingNames (again r.names) r.all }

  -- ---- the file of a list

  unbroken_list : (l : ListedModel) → are_unbroken (with_digest_line (list_body header l)) ≡ true
  unbroken_list l =
      and_true (is_unbroken header) _ whole
      (and_true (is_unbroken (log_line l.log)) _ (unbroken_quoted l.log)
      (unbroken_lines (rising l.names) (digest_line (list_body header l)) (unbroken_digest (list_body header l))))

  list_again : (l : ListedModel) → IsListed l → list_model_in (with_digest_line (list_body header l)) ≡ l
  list_again l h =
      let log : unwrap_or (log_in_line (log_line l.log)) [] ≡ l.log = ap (λ o. unwrap_or o []) (good_log l.log h.log) in
      let names : set.from_list (names_in (map name_line (rising l.names) ++ digest_line (list_body header l) ∷ [])) ≡ l.names =
      ap set.from_list (names_in-closed (rising l.names) (digest_line (list_body header l)) (each_name l.names h.names) refl) ∙ set_again l.names in
      λ i. record { log = log i; names = names i }

  -- the file before its digest line, of names that rise
  pub body_of_names : (log : Text) (ns : List Text) → AreRisingNames ns
      → header ∷ log_line log ∷ map name_line ns ≡ list_body header (record { log = log; names = set.from_list ns })
  body_of_names log ns are = ap (λ ms. header ∷ log_line log ∷ map name_line ms) (sym (rising_again ns are.1))

  list_found : (log : Text) (xs : List Plain) → is_name_text log ≡ true → After [] xs
      → (l : ListedModel) × (header ∷ log_line log ∷ lines_of xs ≡ list_body header l) × IsListed l
  list_found log xs named h =
      let r = rising_after [] [] xs refl (tt, rising_none) h in (
        record { log = log; names = set.from_list r.names },
        ap (λ ls. header ∷ log_line log ∷ ls) r.are ∙ body_of_names log r.names r.all,
        record { log = named; names = are_names r.names r.all },
      )

  list_is_kind : IsModelKind (list_kind header) IsListed (λ l. l.log) plains
  list_is_kind = record {
    named = λ l is. is.log;
    lines = λ l. ap (λ ls. header ∷ log_line l.log ∷ ls) (plain_lines (rising l.names));
    unbroken = λ l is. unbroken_list l;
    follow = λ l is. after_rising [] (rising l.names) tt (each_name l.names is.names) (rising_set l.names);
    again = list_again;
    found = list_found;
  }

pub accepts-lists : AcceptsLists
accepts-lists header whole = accepts-models (list_is_kind header whole)

-- a file determines its list
pub list-file-tells : ListFileIsInjective
list-file-tells header whole = models-tell (list_is_kind header whole)
