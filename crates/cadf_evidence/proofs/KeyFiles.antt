-- The verdict on the file of a list of keys accepts these files, and no others.
use Rattle.cadf_evidence.proofs.Common.{◌≡◌, ◌∙◌, ℕ, List, [], ◌∷◌, ◌++◌, map, length, Bool, true, false, cond, Option, Some, None, refl, sym, ap, subst, arith, append_assoc, append-nil, option_map, is_some, AllByRecursion, Text, Texts, IsNameText, is_name_text, unbroken_quoted, AreAfter, and_true, are_unbroken, Ends, Follows, IsModelKind, Plain, accepts-models, lines_of, models-tell, name_is, unbroken_digest, good_log, log_line, with_digest_line, begins_digest, true≢false, Shape, map_more, suc, ◌-◌, slice_get, last_or, cause_of_digest, is_above_last_digest, last_below, rising_none, rising_push, line, Order, AreRisingKeys, IsKey, IsKeyList, KeyListModel, KeysFileIsInjective, keys_body, keys_header, AcceptsKeyLists, key_in, key_line_in, keys_kind, keys_model_in, IsPutKey, keys_of_lines, text_cmp, IsStrictlySortedBy}
use Rattle.cadf_linefile.specs.Verdict as frame
unfoldable use Rattle.cadf_evidence.specs.KeyVerdict.{key_cause}
use Rattle.cadf_evidence.proofs.KeyLemmas.{key-again, key-only, plain_key, unbroken_key}

-- ---- one line

line_read : (l : List ℕ) (q : Texts) → key_in l ≡ Some q → key_line_in l ≡ Some l
line_read l q e = ap (λ o. cond (is_some o) (Some l) None) e

pub cause_shape : (before : List (List ℕ)) (l : List ℕ) → key_in l ≡ None → key_cause before l ≡ Some Shape
unfolding key_cause
cause_shape before l e = ap (λ o. cause_of_digest before (cond (is_some o) (Some l) None)) e

pub cause_order : (before : List (List ℕ)) (l : List ℕ) (q : Texts) → key_in l ≡ Some q → is_above_last_digest before l ≡ false
    → key_cause before l ≡ Some Order
unfolding key_cause
cause_order before l q e above = ap (cause_of_digest before) (line_read l q e) ∙ ap (λ b. cond b None (Some Order)) above

pub cause_not : (before : List (List ℕ)) (l : List ℕ) (q : Texts) → key_in l ≡ Some q → is_above_last_digest before l ≡ true → key_cause before l ≡ None
unfolding key_cause
cause_not before l q e above = ap (cause_of_digest before) (line_read l q e) ∙ ap (λ b. cond b None (Some Order)) above

cause_none : (before : List (List ℕ)) (l : List ℕ) → key_cause before l ≡ None → (q : Texts) × (key_in l ≡ Some q) × (is_above_last_digest before l ≡ true)
unfolding key_cause
cause_none before l e = by (key_in l) refl e
  where
    above : (b : Bool) → cond b None (Some Order) ≡ None → b ≡ true
    above true k = refl
    above false k = absurd (cc)

    by : (o : Option Texts) → key_in l ≡ o → cause_of_digest before (cond (is_some o) (Some l) None) ≡ None
        → (q : Texts) × (key_in l ≡ Some q) × (is_above_last_digest before l ≡ true)
    by None is k = absurd (cc)
    by (Some q) is k = (q, is, above (is_above_last_digest before l) k)

abbrev Rise : List Text → Type 0
Rise ls = IsStrictlySortedBy text_cmp ls

-- rising keys with a further one
key_more : (qs : List Texts) (q : Texts) (l : List ℕ) → AreRisingKeys qs → l ≡ line q → IsKey q → is_above_last_digest (map line qs) l ≡ true
    → AreRisingKeys (qs ++ q ∷ [])
key_more qs q l are is key above = (
  all_push qs are.0,
  subst Rise (sym (map_more line qs q)) (rising_push (map line qs) (line q) are.1 (subst (λ x. is_above_last_digest (map line qs) x ≡ true) is above)),
)
  where
    all_push : (xs : List Texts) → AllByRecursion IsKey xs → AllByRecursion IsKey (xs ++ q ∷ [])
    all_push [] h = (key, tt)
    all_push (x ∷ xs) h = (h.0, all_push xs h.1)

pub line_put : (qs rs : List Texts) (l : List ℕ) → AreRisingKeys qs → IsPutKey qs l rs
    → (key_cause (map line qs) l ≡ None) × (map line rs ≡ map line qs ++ l ∷ []) × AreRisingKeys rs
line_put qs rs l are put =
    let c = cause_none (map line qs) l put.0 in
    let q = put.1.0 in
    let o = key-only l q put.1.1 in (
      put.0,
      ap (map line) put.1.2 ∙ map_more line qs q ∙ ap (λ x. map line qs ++ x ∷ []) (sym o.0),
      subst AreRisingKeys (sym put.1.2) (key_more qs q l are o.0 o.1 c.2),
    )

pub last_is : (qs : List Texts) → option_map line (slice_get qs (length qs - 1)) ≡ last_or None (map line qs)
last_is [] = refl
last_is (q ∷ []) = refl
last_is (q ∷ r ∷ qs) =
    let one : length (q ∷ r ∷ qs) - 1 ≡ suc (length (r ∷ qs) - 1) = omega arith in
    ap (λ n. option_map line (slice_get (q ∷ r ∷ qs) n)) one ∙ last_is (r ∷ qs)

-- ---- rising keys may follow each other

abbrev plain_of : Texts → Plain
plain_of q = (line q, plain_key q)

abbrev plains : KeyListModel → List Plain
plains l = map plain_of l.keys

plain_lines : (qs : List Texts) → lines_of (map plain_of qs) ≡ map line qs
plain_lines [] = refl
plain_lines (q ∷ qs) = ap (λ ls. line q ∷ ls) (plain_lines qs)

plain_more : (qs : List Texts) (q : Texts) → map plain_of (qs ++ q ∷ []) ≡ map plain_of qs ++ plain_of q ∷ []
plain_more [] q = refl
plain_more (x ∷ qs) q = ap (λ xs. plain_of x ∷ xs) (plain_more qs q)

abbrev After : List Plain → List Plain → Type 0
After before xs = AreAfter (Follows keys_kind) (Ends keys_kind) before xs

after_rising : (before qs : List Texts) → AllByRecursion IsKey qs → Rise (map line before ++ map line qs) → After (map plain_of before) (map plain_of qs)
after_rising before [] each up = refl
after_rising before (q ∷ qs) each up = (
  ap (λ ls. key_cause ls (line q)) (plain_lines before)
      ∙ cause_not (map line before) (line q) q (key-again q each.0) (last_below (map line before) (line q) (map line qs) up),
  subst (λ b. After b (map plain_of qs)) (plain_more before q)
      (after_rising (before ++ q ∷ []) qs each.1
      (subst Rise (sym (append_assoc (map line before) (line q ∷ []) (map line qs)) ∙ ap (λ ls. ls ++ map line qs) (sym (map_more line before q))) up)),
)

record AreOfKeys (before : List Texts) (ls : List (List ℕ)) : Type 0 where
  pub keys : List Texts
  pub are : ls ≡ map line keys
  pub all : AreRisingKeys (before ++ keys)

-- and lines that may follow each other are those of rising keys
rising_after : (before : List Texts) (done xs : List Plain) → lines_of done ≡ map line before → AreRisingKeys before → After done xs
    → AreOfKeys before (lines_of xs)
rising_after before done [] are up h = record { keys = []; are = refl; all = subst AreRisingKeys (sym (append-nil before)) up }
rising_after before done (x ∷ xs) are up h =
    let c = cause_none (map line before) x.0 (ap (λ ls. key_cause ls x.0) (sym are) ∙ h.0) in
    let q = c.0 in
    let o = key-only x.0 q c.1 in
    let again = append_assoc before (q ∷ []) in
    let r = rising_after (before ++ q ∷ []) (done ++ x ∷ []) xs
    (map_more (λ (z : Plain). z.0) done x ∙ (λ i. are i ++ o.0 i ∷ []) ∙ sym (map_more line before q))
    (key_more before q x.0 up o.0 o.1 c.2) h.1 in
    record { keys = q ∷ r.keys; are = λ i. o.0 i ∷ r.are i; all = subst AreRisingKeys (again r.keys) r.all }

-- ---- the file

unbroken_lines : (qs : List Texts) (l : List ℕ) → AllByRecursion IsKey qs → are_unbroken (l ∷ []) ≡ true → are_unbroken (map line qs ++ l ∷ []) ≡ true
unbroken_lines [] l each h = h
unbroken_lines (q ∷ qs) l each h = and_true _ _ (unbroken_key q each.0) (unbroken_lines qs l each.1 h)

unbroken_keys : (l : KeyListModel) → IsKeyList l → are_unbroken (with_digest_line (keys_body l)) ≡ true
unbroken_keys l is =
    and_true _ _ (unbroken_quoted l.log)
    (unbroken_lines l.keys (frame.digest_line (keys_body l)) is.keys.0 (and_true _ true (unbroken_digest (keys_body l)) refl))

digest_none : (l : List ℕ) → begins_digest l ≡ true → key_in l ≡ None
digest_none l h = by (key_in l) refl
  where
    by : (o : Option Texts) → key_in l ≡ o → o ≡ None
    by None e = refl
    by (Some q) e = absurd (true≢false (sym h ∙ ap begins_digest (key-only l q e).0 ∙ plain_key q))

keys_again : (qs : List Texts) (l : List ℕ) → AllByRecursion IsKey qs → begins_digest l ≡ true → keys_of_lines (map line qs ++ l ∷ []) ≡ qs
keys_again [] l each h = rw (digest_none l h) refl
keys_again (q ∷ qs) l each h = rw (key-again q each.0) (ap (λ rs. q ∷ rs) (keys_again qs l each.1 h))

list_again : (l : KeyListModel) → IsKeyList l → keys_model_in (with_digest_line (keys_body l)) ≡ l
list_again l h =
    let keys = keys_again l.keys (frame.digest_line (keys_body l)) h.keys.0 refl in
    rw (good_log l.log h.log) (λ i. record { log = l.log; keys = keys i })

list_found : (log : Text) (xs : List Plain) → is_name_text log ≡ true → After [] xs
    → (l : KeyListModel) × (keys_header ∷ log_line log ∷ lines_of xs ≡ keys_body l) × IsKeyList l
list_found log xs named h =
    let r = rising_after [] [] xs refl (tt, rising_none) h in (
      record { log = log; keys = r.keys },
      ap (λ ls. keys_header ∷ log_line log ∷ ls) r.are,
      record { log = named; keys = r.all },
    )

keys_are_kind : IsModelKind keys_kind IsKeyList (λ l. l.log) plains
keys_are_kind = record {
  named = λ l is. is.log;
  lines = λ l. ap (λ ls. keys_header ∷ log_line l.log ∷ ls) (plain_lines l.keys);
  unbroken = unbroken_keys;
  follow = λ l is. after_rising [] l.keys is.keys.0 is.keys.1;
  again = list_again;
  found = list_found;
}

pub accepts-keys : AcceptsKeyLists
accepts-keys = accepts-models keys_are_kind

pub keys-file-tells : KeysFileIsInjective
keys-file-tells = models-tell keys_are_kind

-- the invariants of a list's log and keys
pub keys_is : (l : KeyListModel) → IsNameText l.log → AreRisingKeys l.keys → IsKeyList l
keys_is l name keys = record { log = name_is l.log name; keys = keys }
