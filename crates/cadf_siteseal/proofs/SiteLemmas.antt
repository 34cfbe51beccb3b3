-- Files by a unit of time: what has to be proved of a kind of items, and what follows from it.
--     IsItemKind     what has to be proved: an item's line encodes it, and no other line does
--     accepts-sites  bytes are accepted if and only if they are the file of a model
--     sites-tell     models with equal files are equal
--     item_put, cause_is, first_put   how lines are read one by one
use Rattle.cadf_siteseal.proofs.Common.{◌≡◌, ◌∙◌, ℕ, List, [], ◌∷◌, ◌++◌, map, Bool, true, false, true≢false, Option, Some, None, refl, sym, ap, subst, append_assoc, append-nil, cond, is_some, unwrap_or, codes, bytes_eq, bytes_eq-Decides, Text, is_name_text, is_unbroken, IsNameText, unbroken_quoted, shape_unless, AcceptsModels, IsInjective, begins_digest, log_line, with_digest_line, AreAfter, map_more, and_true, are_unbroken, shape_none, there, Ends, Follows, IsModelKind, Plain, accepts-models, lines_of, models-tell, name_is, unbroken_digest, good_log, TimeUnit, Month, Day, Hour, ItemKind, SiteModel, unit_line, unit_in, unit_of, items_in, state_after, item_cause, line_cause, cause_after, site_lines, site_body, site_model_in, site_kind, AllFollow, IsSite, AreTold, IsPut}
use Rattle.cadf_linefile.specs.Verdict.{digest_line}

-- ---- the line of the unit

pub unit-again : (u : TimeUnit) → unit_in (unit_line u) ≡ Some u
unit-again Month = refl
unit-again Day = refl
unit-again Hour = refl

pub unit_is : (u : TimeUnit) → unit_of (unit_line u) ≡ u
unit_is u = ap (λ o. unwrap_or o Month) (unit-again u)

unit-only : (l : List ℕ) (u : TimeUnit) → unit_in l ≡ Some u → l ≡ unit_line u
unit-only l u e = by (bytes_eq l (codes "B month")) refl e
  where
    is_unit : (v : TimeUnit) → Some v ≡ Some u → l ≡ unit_line v → l ≡ unit_line u
    is_unit v k is = is ∙ ap unit_line (ap (λ o. unwrap_or o u) k)

    hour : (b : Bool) → bytes_eq l (codes "B hour") ≡ b → cond b (Some Hour) None ≡ Some u → l ≡ unit_line u
    hour true is k = is_unit Hour k ((bytes_eq-Decides l (codes "B hour")).0 is)
    hour false is k = absurd (cc)

    day : (b : Bool) → bytes_eq l (codes "B day") ≡ b → cond b (Some Day) (cond (bytes_eq l (codes "B hour")) (Some Hour) None) ≡ Some u → l ≡ unit_line u
    day true is k = is_unit Day k ((bytes_eq-Decides l (codes "B day")).0 is)
    day false is k = hour (bytes_eq l (codes "B hour")) refl k

    by : (b : Bool) → bytes_eq l (codes "B month") ≡ b
        → cond b (Some Month) (cond (bytes_eq l (codes "B day")) (Some Day) (cond (bytes_eq l (codes "B hour")) (Some Hour) None)) ≡ Some u → l ≡ unit_line u
    by true is k = is_unit Month k ((bytes_eq-Decides l (codes "B month")).0 is)
    by false is k = day (bytes_eq l (codes "B day")) refl k

pub unit_plain : (u : TimeUnit) → begins_digest (unit_line u) ≡ false
unit_plain Month = refl
unit_plain Day = refl
unit_plain Hour = refl

unit_unbroken : (u : TimeUnit) → is_unbroken (unit_line u) ≡ true
unit_unbroken Month = refl
unit_unbroken Day = refl
unit_unbroken Hour = refl

-- ---- what has to be proved

pub record IsItemKind {I S : Type 0} (k : ItemKind I S) (Is : TimeUnit → I → Type 0) : Type 0 where
  pub header : is_unbroken k.header ≡ true
  pub plain : (i : I) → begins_digest (k.line i) ≡ false
  pub unbroken : (u : TimeUnit) (i : I) → Is u i → is_unbroken (k.line i) ≡ true
  pub again : (u : TimeUnit) (i : I) → Is u i → k.item_in u (k.line i) ≡ Some i
  pub only : (u : TimeUnit) (l : List ℕ) (i : I) → k.item_in u l ≡ Some i → (l ≡ k.line i) × Is u i

-- an item that may follow others
record IsNext {I S : Type 0} (k : ItemKind I S) (u : TimeUnit) (s : S) (l : List ℕ) : Type 0 where
  pub item : I
  pub found : k.item_in u l ≡ Some item
  pub none : k.cause s item ≡ None

next_item : {I S : Type 0} (k : ItemKind I S) (u : TimeUnit) (s : S) (l : List ℕ) → item_cause k s (k.item_in u l) ≡ None → IsNext k u s l
next_item {I = I} k u s l e = by (k.item_in u l) refl e
  where
    by : (o : Option I) → k.item_in u l ≡ o → item_cause k s o ≡ None → IsNext k u s l
    by None is h = absurd (cc)
    by (Some i) is h = record { item = i; found = is; none = h }

module _ {I S : Type 0} (k : ItemKind I S) where
  state_more : (s : S) (is : List I) (i : I) → state_after k s (is ++ i ∷ []) ≡ k.next (state_after k s is) i
  state_more s [] i = refl
  state_more s (j ∷ is) i = state_more (k.next s j) is i

module _ {I S : Type 0} {k : ItemKind I S} {Is : TimeUnit → I → Type 0} (kind : IsItemKind k Is) where
  follow_more : (u : TimeUnit) (s : S) (is : List I) (i : I) → AllFollow k Is u s is → Is u i → k.cause (state_after k s is) i ≡ None
      → AllFollow k Is u s (is ++ i ∷ [])
  follow_more u s [] i all is none = ((is, none), tt)
  follow_more u s (j ∷ js) i all is none = (all.0, follow_more u (k.next s j) js i all.1 is none)

  items_more : (u : TimeUnit) (s : S) (is : List I) (ls : List (List ℕ)) → AllFollow k Is u s is
      → items_in k u (map k.line is ++ ls) ≡ is ++ items_in k u ls
  items_more u s [] ls all = refl
  items_more u s (i ∷ is) ls all = rw (kind.again u i all.0.0) (ap (λ js. i ∷ js) (items_more u (k.next s i) is ls all.1))

  items_again : (u : TimeUnit) (s : S) (is : List I) → AllFollow k Is u s is → items_in k u (map k.line is) ≡ is
  items_again u s is all = ap (items_in k u) (sym (append-nil (map k.line is))) ∙ items_more u s is [] all ∙ append-nil is

  no_item : (u : TimeUnit) (z : List ℕ) → begins_digest z ≡ true → k.item_in u z ≡ None
  no_item u z h = by (k.item_in u z) refl
    where
      by : (o : Option I) → k.item_in u z ≡ o → o ≡ None
      by None e = refl
      by (Some i) e = absurd (true≢false (sym h ∙ ap begins_digest (kind.only u z i e).0 ∙ kind.plain i))

  items_closed : (u : TimeUnit) (s : S) (is : List I) (z : List ℕ) → AllFollow k Is u s is → begins_digest z ≡ true
      → items_in k u (map k.line is ++ z ∷ []) ≡ is
  items_closed u s is z all h = items_more u s is (z ∷ []) all ∙ ap (λ js. is ++ js) (rw (no_item u z h) refl) ∙ append-nil is

  -- ---- a further line

  -- what is wrong with a line after those of a unit and of items
  pub cause_is : (u : TimeUnit) (is : List I) (s : S) (l : List ℕ) → AreTold k Is u is s → cause_after k (site_lines k u is) l ≡ item_cause k s (k.item_in u l)
  cause_is u is s l told =
      (λ i. line_cause k (unit_is u i) (map k.line is) l)
      ∙ ap (λ js. item_cause k (state_after k k.start js) (k.item_in u l)) (items_again u k.start is told.1)
      ∙ ap (λ t. item_cause k t (k.item_in u l)) (sym told.0)

  pub item_put : (u v : TimeUnit) (is js : List I) (s t : S) (l : List ℕ) → AreTold k Is u is s → IsPut k u is s l v js t
      → (cause_after k (site_lines k u is) l ≡ None) × (site_lines k v js ≡ site_lines k u is ++ l ∷ []) × AreTold k Is v js t
  item_put u v is js s t l told put =
      let i = put.0 in
      let o = kind.only u l i put.1 in
      let none : k.cause (state_after k k.start is) i ≡ None = ap (λ x. k.cause x i) (sym told.0) ∙ put.2 in
      let state : t ≡ state_after k k.start (is ++ i ∷ []) = put.5 ∙ ap (λ x. k.next x i) told.0 ∙ sym (state_more k k.start is i) in (
        cause_is u is s l told ∙ ap (item_cause k s) put.1 ∙ put.2,
        (λ n. unit_line (put.3 n) ∷ map k.line (put.4 n)) ∙ ap (λ ls. unit_line u ∷ ls) (map_more k.line is i ∙ ap (λ x. map k.line is ++ x ∷ []) (sym o.0)),
        subst (λ w. AreTold k Is w js t) (sym put.3)
            (subst (λ xs. AreTold k Is u xs t) (sym put.4) (state, follow_more u k.start is i told.1 o.1 none)),
      )

  pub first_put : (u : TimeUnit) (is : List I) (s : S) (l : List ℕ) → Some u ≡ unit_in l → is ≡ [] → s ≡ k.start
      → (cause_after k [] l ≡ None) × (site_lines k u is ≡ l ∷ []) × AreTold k Is u is s
  first_put u is s l e none start = (
    ap (λ o. shape_unless (is_some o)) (sym e),
    (λ n. unit_line u ∷ map k.line (none n)) ∙ ap (λ x. x ∷ []) (sym (unit-only l u (sym e))),
    subst (λ xs. AreTold k Is u xs s) (sym none) (start, tt),
  )

  -- ---- lines that may follow each other are those of a model

  abbrev After : List Plain → List Plain → Type 0
  After before xs = AreAfter (Follows (site_kind k)) (Ends (site_kind k)) before xs

  record AreItems (u : TimeUnit) (done : List I) (ls : List (List ℕ)) : Type 0 where
    pub items : List I
    pub are : ls ≡ map k.line items
    pub all : AllFollow k Is u k.start (done ++ items)

  items_found : (u : TimeUnit) (before xs : List Plain) (done : List I) → lines_of before ≡ site_lines k u done → AllFollow k Is u k.start done
      → After before xs → AreItems u done (lines_of xs)
  items_found u before [] done are all h = record { items = []; are = refl; all = subst (AllFollow k Is u k.start) (sym (append-nil done)) all }
  items_found u before (x ∷ xs) done are all h =
      let told : AreTold k Is u done (state_after k k.start done) = (refl, all) in
      let n = next_item k u (state_after k k.start done) x.0
      (sym (cause_is u done (state_after k k.start done) x.0 told) ∙ ap (λ ls. cause_after k ls x.0) (sym are) ∙ h.0) in
      let o = kind.only u x.0 n.item n.found in
      let more : lines_of (before ++ x ∷ []) ≡ site_lines k u (done ++ n.item ∷ []) =
      map_more (λ (z : Plain). z.0) before x ∙ (λ i. are i ++ o.0 i ∷ []) ∙ ap (λ ls. unit_line u ∷ ls) (sym (map_more k.line done n.item)) in
      let r = items_found u (before ++ x ∷ []) xs (done ++ n.item ∷ []) more (follow_more u k.start done n.item all o.1 n.none) h.1 in
      record {
        items = n.item ∷ r.items;
        are = λ i. o.0 i ∷ r.are i;
        all = subst (AllFollow k Is u k.start) (append_assoc done (n.item ∷ []) r.items) r.all;
      }

  site_found : (name : Text) (xs : List Plain) → is_name_text name ≡ true → After [] xs
      → (m : SiteModel I) × (k.header ∷ log_line name ∷ lines_of xs ≡ site_body k m) × IsSite k Is m
  site_found name [] named h = absurd (true≢false (sym h))
  site_found name (x ∷ xs) named h =
      let a = there (unit_in x.0) (shape_none _ h.0) in
      let line = unit-only x.0 a.0 a.1 in
      let r = items_found a.0 (x ∷ []) xs [] (ap (λ l. l ∷ []) line) tt h.1 in (
        record { log = name; unit = a.0; items = r.items },
        (λ i. k.header ∷ log_line name ∷ line i ∷ r.are i),
        record { log = named; items = r.all },
      )

  -- ---- and the lines of a model may follow each other

  abbrev plain_of : I → Plain
  plain_of i = (k.line i, kind.plain i)

  abbrev pub plains : SiteModel I → List Plain
  plains m = (unit_line m.unit, unit_plain m.unit) ∷ map plain_of m.items

  plain_lines : (is : List I) → lines_of (map plain_of is) ≡ map k.line is
  plain_lines [] = refl
  plain_lines (i ∷ is) = ap (λ ls. k.line i ∷ ls) (plain_lines is)

  whole_before : (u : TimeUnit) (before : List Plain) (done : List I) → lines_of before ≡ site_lines k u done → Ends (site_kind k) before
  whole_before u [] done are = absurd (cc)
  whole_before u (x ∷ before) done are = refl

  items_follow : (u : TimeUnit) (before : List Plain) (done is : List I) → lines_of before ≡ site_lines k u done → AllFollow k Is u k.start done
      → AllFollow k Is u (state_after k k.start done) is → After before (map plain_of is)
  items_follow u before done [] are all more = whole_before u before done are
  items_follow u before done (i ∷ is) are all more =
      let told : AreTold k Is u done (state_after k k.start done) = (refl, all) in (
        ap (λ ls. cause_after k ls (k.line i)) are ∙ cause_is u done (state_after k k.start done) (k.line i) told
            ∙ ap (item_cause k (state_after k k.start done)) (kind.again u i more.0.0) ∙ more.0.1,
        items_follow u (before ++ plain_of i ∷ []) (done ++ i ∷ []) is
            (map_more (λ (z : Plain). z.0) before (plain_of i) ∙ (λ n. are n ++ k.line i ∷ []) ∙ ap (λ ls. unit_line u ∷ ls) (sym (map_more k.line done i)))
            (follow_more u k.start done i all more.0.0 more.0.1)
            (subst (λ s. AllFollow k Is u s is) (sym (state_more k k.start done i)) more.1),
      )

  site_follows : (m : SiteModel I) → IsSite k Is m → After [] (plains m)
  site_follows m is = (
    ap (λ o. shape_unless (is_some o)) (unit-again m.unit),
    items_follow m.unit ((unit_line m.unit, unit_plain m.unit) ∷ []) [] m.items refl tt is.items,
  )

  -- ---- the file

  lines_unbroken : (u : TimeUnit) (s : S) (is : List I) (z : List ℕ) → AllFollow k Is u s is → is_unbroken z ≡ true
      → are_unbroken (map k.line is ++ z ∷ []) ≡ true
  lines_unbroken u s [] z all h = and_true (is_unbroken z) true h refl
  lines_unbroken u s (i ∷ is) z all h = and_true (is_unbroken (k.line i)) _ (kind.unbroken u i all.0.0) (lines_unbroken u (k.next s i) is z all.1 h)

  site_unbroken : (m : SiteModel I) → IsSite k Is m → are_unbroken (with_digest_line (site_body k m)) ≡ true
  site_unbroken m is =
      and_true (is_unbroken k.header) _ kind.header
      (and_true (is_unbroken (log_line m.log)) _ (unbroken_quoted m.log)
      (and_true (is_unbroken (unit_line m.unit)) _ (unit_unbroken m.unit)
      (lines_unbroken m.unit k.start m.items (digest_line (site_body k m)) is.items (unbroken_digest (site_body k m)))))

  site_again : (m : SiteModel I) → IsSite k Is m → site_model_in k (with_digest_line (site_body k m)) ≡ m
  site_again m is =
      let z = digest_line (site_body k m) in
      let log = good_log m.log is.log in
      let items = (λ i. items_in k (unit_is m.unit i) (map k.line m.items ++ z ∷ [])) ∙ items_closed m.unit k.start m.items z is.items refl in
      λ i. record { log = unwrap_or (log i) []; unit = unit_is m.unit i; items = items i }

  site_is_kind : IsModelKind (site_kind k) (IsSite k Is) (λ m. m.log) plains
  site_is_kind = record {
    named = λ m is. is.log;
    lines = λ m. ap (λ ls. k.header ∷ log_line m.log ∷ unit_line m.unit ∷ ls) (plain_lines m.items);
    unbroken = site_unbroken;
    follow = site_follows;
    again = site_again;
    found = site_found;
  }

  pub accepts-sites : AcceptsModels (site_kind k) (IsSite k Is)
  accepts-sites = accepts-models site_is_kind

  pub sites-tell : IsInjective (site_kind k) (IsSite k Is)
  sites-tell = models-tell site_is_kind

  -- the invariants of a model's log and items
  pub site_is : (m : SiteModel I) → IsNameText m.log → AllFollow k Is m.unit k.start m.items → IsSite k Is m
  site_is m named all = record { log = name_is m.log named; items = all }
