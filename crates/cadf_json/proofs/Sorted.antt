-- Members that are sorted by name: the last of each name is what is there once all were put one after another.
use Rattle.cadf_json.proofs.Common.{common_steps, take, drop, slice_index_or, length-drop, take_all, ◌-◌, ◌≡◌, ℕ, ◌+◌, ◌<◌, List, [], ◌∷◌, ◌++◌, length, Bool, true, false, not, ◌&&◌, cond, Option, Some, None, refl, sym, ap, ◌∙◌, subst, arith, append_assoc, append-nil, rules, unary_clauses, Ordering, Less, Equal, Greater, nat_list_cmp_total, is_eq-slice_cmp, at_drop_more, filter, IsSortedBy, ties, is_lt, is_eq, eq_by_cmp, ordering_reverse, ⊤, T, if◌then◌else◌, Named, Entry, put_named, is_replaced, lasts}
use Rattle.std.specs.Str.{bytes_eq}
use Rattle.std.specs.FinMap.Entries as entries
use Rattle.cadf_json.proofs.Orders.{greater-from_less, less-from_greater}
use Rattle.cadf_json.proofs.ByName.{name_cmp}
use Rattle.cadf_json.proofs.Splits.{same_name, itself}

abbrev pub below : Named → Named → Bool
below p q = is_lt (name_cmp p.name q.name)

-- ---- what is found at a name

-- the last of them, else what was there
abbrev ended : List Named → Option Named → Option Named
ended [] o = o
ended (p ∷ ps) o = ended ps (Some p)

abbrev has_name : List ℕ → Named → Bool
has_name k p = eq_by_cmp name_cmp k p.name

found_at : (b : Bool) (k : List ℕ) (p : Named) (ps : List Named) (o : Option Named) → eq_by_cmp name_cmp k p.name ≡ b
    → ended (filter (has_name k) ps) (cond b (Some p) o) ≡ ended (filter (has_name k) (p ∷ ps)) o
found_at b k p ps o is = grind (arith, common_steps)

found : (k : List ℕ) (ps : List Named) (es : List Entry) → entries.find name_cmp k (put_named ps es) ≡ ended (filter (has_name k) ps) (entries.find name_cmp k es)
found k [] es = refl
found k (p ∷ ps) es =
    found k ps (entries.put name_cmp p.name p es) ∙ ap (ended (filter (has_name k) ps)) (entries.find-put name_cmp nat_list_cmp_total k p.name p es)
    ∙ found_at _ k p ps (entries.find name_cmp k es) refl

in_order : (ps : List Named) (es : List Entry) → T (entries.is_sorted name_cmp es) → T (entries.is_sorted name_cmp (put_named ps es))
in_order [] es h = h
in_order (p ∷ ps) es h = in_order ps _ (entries.is_sorted-put name_cmp nat_list_cmp_total p.name p es h)

-- ---- a stable sort leaves it as it is

tied_at : (o r : Ordering) → r ≡ ordering_reverse o → not (is_lt o) && not (is_lt r) ≡ is_eq o
tied_at o r is = grind (arith, common_steps)

abbrev pub spot : List ℕ → Named
spot k = record { name = k; nodes = record { ref_ptr = (0, 0); now = [] } }

tied : (k : List ℕ) (p : Named) → ties below (spot k) p ≡ has_name k p
tied k p = tied_at _ _ (nat_list_cmp_total.antisymm p.name k)

pub same_puts : (ps qs : List Named) → ((x : Named) → filter (ties below x) qs ≡ filter (ties below x) ps) → put_named qs [] ≡ put_named ps []
same_puts ps qs stable = entries.same_entries name_cmp nat_list_cmp_total same_name (put_named qs []) (put_named ps []) (in_order qs [] tt) (in_order ps [] tt)
    (λ k.
    let same : filter (has_name k) qs ≡ filter (has_name k) ps = subst (λ test. filter test qs ≡ filter test ps) (λ i p. tied k p i) (stable (spot k)) in
    found k qs [] ∙ ap (λ rs. ended rs None) same ∙ sym (found k ps []))

-- ---- sorted members are put at the end

abbrev AreUnder : List Entry → List ℕ → Type 0
AreUnder [] k = ⊤
AreUnder (e ∷ es) k = (name_cmp e.0 k ≡ Less) × AreUnder es k

put_last : (es : List Entry) (k : List ℕ) (p : Named) → AreUnder es k → entries.put name_cmp k p es ≡ es ++ (k, p) ∷ []
put_last [] k p h = refl
put_last (e ∷ es) k p h = rw (greater-from_less k e.0 h.0) (ap (λ fs. e ∷ fs) (put_last es k p h.1))

put_over : (es : List Entry) (k : List ℕ) (p q : Named) → AreUnder es k → name_cmp k k ≡ Equal
    → entries.put name_cmp k q (es ++ (k, p) ∷ []) ≡ es ++ (k, q) ∷ []
put_over [] k p q h same = rw same refl
put_over (e ∷ es) k p q h same = rw (greater-from_less k e.0 h.0) (ap (λ fs. e ∷ fs) (put_over es k p q h.1 same))

under_further : (es : List Entry) (k l : List ℕ) (p : Named) → AreUnder es k → name_cmp k l ≡ Less → AreUnder (es ++ (k, p) ∷ []) l
under_further [] k l p h is = (is, tt)
under_further (e ∷ es) k l p h is = (nat_list_cmp_total.trans e.0 k l h.0 is, under_further es k l p h.1 is)

-- none is below the one before it
abbrev Rise : List Named → Type 0
Rise [] = ⊤
Rise (p ∷ []) = ⊤
Rise (p ∷ q ∷ ps) = (below q p ≡ false) × Rise (q ∷ ps)

rise : (ps : List Named) → IsSortedBy below ps → Rise ps
rise [] h = tt
rise (p ∷ []) h = tt
rise (p ∷ q ∷ ps) h = (h 0 p (omega arith) (omega arith), rise (q ∷ ps) (λ k d low high. simp unary_clauses (simp unary_clauses at (h (k + 1) d (omega arith) (omega (arith, high))))))

abbrev Under : List Entry → List Named → Type 0
Under es [] = ⊤
Under es (p ∷ ps) = AreUnder es p.name

under_none : (ps : List Named) → Under [] ps
under_none ps = grind (arith, common_steps)

put_at_end_at : (o : Ordering) (p q : Named) (ps : List Named) (es : List Entry) → name_cmp p.name q.name ≡ o → below q p ≡ false → AreUnder es p.name
    → ((fs : List Entry) → AreUnder fs q.name → put_named (q ∷ ps) fs ≡ fs ++ lasts (q ∷ ps))
    → put_named (p ∷ q ∷ ps) es ≡ es ++ lasts (p ∷ q ∷ ps)
put_at_end_at Less p q ps es is up under further = search (rules, is_eq-slice_cmp, greater-from_less, put_last, under_further, append_assoc)
put_at_end_at Equal p q ps es is up under further =
    let name = q.name in
    let same = same_name p.name name is in
    let here = subst (AreUnder es) same under in
    let again : bytes_eq name p.name ≡ true = ap (bytes_eq name) same ∙ sym (is_eq-slice_cmp name name) ∙ ap is_eq (itself name) in
    grind (arith, common_steps, name_cmp, put_last, put_over)
put_at_end_at Greater p q ps es is up under further = absurd (let lower = ap is_lt (less-from_greater p.name q.name is) in cc)

put_at_end : (ps : List Named) (es : List Entry) → Under es ps → Rise ps → put_named ps es ≡ es ++ lasts ps
put_at_end [] es under up = sym (append-nil es)
put_at_end (p ∷ []) es under up = put_last es p.name p under
put_at_end (p ∷ q ∷ ps) es under up = put_at_end_at _ p q ps es refl up.0 under (λ fs h. put_at_end (q ∷ ps) fs h up.1)

pub lasts_are : (ps qs : List Named) → IsSortedBy below qs → ((x : Named) → filter (ties below x) qs ≡ filter (ties below x) ps) → lasts qs ≡ put_named ps []
lasts_are ps qs sorted stable = sym (put_at_end qs [] (under_none qs) (rise qs sorted)) ∙ same_puts ps qs stable

-- ---- the last of each name, from one place on

pub lasts_from : (ps : List Named) (i : ℕ) (b : Bool) → i < length ps
    → b ≡ is_replaced (slice_index_or ps i (spot [])).name (take (length ps - (i + 1)) (drop (i + 1) ps))
    → lasts (drop i ps) ≡ (if b then lasts (drop (i + 1) ps) else (((slice_index_or ps i (spot [])).name, slice_index_or ps i (spot [])) ∷ lasts (drop (i + 1) ps)))
lasts_from ps i b some is = grind (arith, common_steps, slice_index_or, at_drop_more, take_all, length-drop)
