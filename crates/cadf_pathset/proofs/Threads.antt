-- Lines of nodes: their lists, their prefixes, lines joined, and lines after nodes are appended.
use Rattle.cadf_pathset.proofs.Common.{common_steps, ◌≡◌, ℕ, ◌+◌, ◌-◌, ◌<◌, ◌≤◌, List, [], ◌∷◌, ◌++◌, refl, sym, ap, ◌∙◌, subst, suc, length, take, drop, get_or, arith, below_more, length_push, get_or_append_left, get_or_push, length-take, length-take-le, get_or-take, take-take, take_all, take_at, take_more, nil_from_length, Text, Texts, list_at, last_node, last_text, place, lists_at, AreThere, IsLine, IsClimb, Agree}
use Rattle.cadf_pathset.proofs.Arena.{at_grown}
use Rattle.cadf_pathset.proofs.Grown.{grown_by, map_same, map_more, all_more, all_turned}

pub place_of : (ls : List Texts) (ns : List ℕ) (l : Texts) → IsLine ls ns l → place ls ns ≡ l
place_of ls [] l h = sym (nil_from_length l (sym h.long))
place_of ls (n ∷ ns) l h = grind (arith, common_steps, take_all)

pub self_line : (ls : List Texts) (ns : List ℕ) (l : Texts) → IsLine ls ns l → IsLine ls ns (place ls ns)
self_line ls ns l h = subst (IsLine ls ns) (sym (place_of ls ns l h)) h

pub last_there : (ls : List Texts) (ns : List ℕ) (l : Texts) → IsLine ls ns l → last_node ns ≤ length ls
last_there ls [] l h = omega arith
last_there ls (n ∷ ns) l h = h.held (length ns) (omega arith)

module _ (ls : List Texts) (ns : List ℕ) (l : Texts) (h : IsLine ls ns l) where
  pub line_cut : (k : ℕ) → IsLine ls (take k ns) (take k l)
  line_cut k =
      let m = h.long in
      let x = length-take k ns in
      let y = length-take k l in
      record {
        long = omega (arith, m, x, y);
        held = λ i b. let e : get_or (take k ns) i 0 ≡ get_or ns i 0 = get_or-take k ns i 0 (omega (arith, b, x)) in
            let f = h.held i (omega (arith, b, x)) in omega (arith, e, f);
        stands = λ i b. ap (list_at ls) (get_or-take k ns i 0 (omega (arith, b, x))) ∙ h.stands i (omega (arith, b, x))
            ∙ sym (take-take (i + 1) k l (omega (arith, b, x)));
      }

  -- a further node, whose list is longer by one text
  pub line_more : (n : ℕ) (m : Texts) → n ≤ length ls → list_at ls n ≡ m → length m ≡ length l + 1 → take (length l) m ≡ l → IsLine ls (ns ++ n ∷ []) m
  line_more n m there is long front =
      let k = h.long in
      let one = length_push ns n in
      record {
        long = omega (arith, k, one, long);
        held = λ i b. below_more (λ j. get_or (ns ++ n ∷ []) j 0 ≤ length ls) (length ns)
            (λ j c. let e = get_or_append_left ns (n ∷ []) 0 j c in let f = h.held j c in omega (arith, e, f))
            (let e = get_or_push ns n 0 (length ns) refl in omega (arith, e, there)) i (omega (arith, b, one));
        stands = λ i b. below_more (λ j. list_at ls (get_or (ns ++ n ∷ []) j 0) ≡ take (j + 1) m) (length ns)
            (λ j c. ap (list_at ls) (get_or_append_left ns (n ∷ []) 0 j c) ∙ h.stands j c ∙ ap (take (j + 1)) (sym front)
            ∙ take-take (j + 1) (length l) m (omega (arith, c, k)))
            (ap (list_at ls) (get_or_push ns n 0 (length ns) refl) ∙ is ∙ sym (take_all (length ns + 1) m (omega (arith, k, long)))) i (omega (arith, b, one));
      }

  pub text_on_line : (i : ℕ) → i < length ns → last_text (list_at ls (get_or ns i 0)) ≡ get_or l i []
  text_on_line i b =
      let m = h.long in
      let n : length (take (i + 1) l) - 1 ≡ i = let k = length-take-le (i + 1) l (omega (arith, b, m)) in omega (arith, k) in
      ap last_text (h.stands i b) ∙ ap (λ k. get_or (take (i + 1) l) k []) n ∙ get_or-take (i + 1) l i [] (omega arith)

-- nodes to which others were appended
module _ (ls us : List Texts) (kept : take (length ls) us ≡ ls) where
  pub nodes_fit : length ls ≤ length us
  nodes_fit = let k = ap length kept in let m = length-take (length ls) us in omega (arith, k, m)

  pub at_kept : (n : ℕ) → n ≤ length ls → list_at us n ≡ list_at ls n
  at_kept n h = ap (λ z. list_at z n) (grown_by ls us kept) ∙ at_grown ls (drop (length ls) us) n h

  pub line_kept : (ns : List ℕ) (l : Texts) → IsLine ls ns l → IsLine us ns l
  line_kept ns l h = record {
    long = h.long;
    held = λ i b. let a = h.held i b in let f = nodes_fit in omega (arith, a, f);
    stands = λ i b. at_kept (get_or ns i 0) (h.held i b) ∙ h.stands i b;
  }

  pub place_kept : (ns : List ℕ) (l : Texts) → IsLine ls ns l → place us ns ≡ place ls ns
  place_kept ns l h = at_kept (last_node ns) (last_there ls ns l h)

  pub there_kept : (ns : List ℕ) → AreThere ls ns → AreThere us ns
  there_kept ns h = all_turned (λ n. n ≤ length ls) (λ n. n ≤ length us) ns (λ n p. let f = nodes_fit in omega (arith, p, f)) h

  pub lists_kept : (ns : List ℕ) → AreThere ls ns → lists_at us ns ≡ lists_at ls ns
  lists_kept ns h = map_same (λ n. n ≤ length ls) (list_at us) (list_at ls) ns at_kept h

pub kept_more : (ls : List Texts) (ms : List Texts) → take (length ls) (ls ++ ms) ≡ ls
kept_more ls ms = take_at ls ms (length ls) refl

pub kept_again : (ls us vs : List Texts) → take (length ls) us ≡ ls → take (length us) vs ≡ us → take (length ls) vs ≡ ls
kept_again ls us vs h k = sym (take-take (length ls) (length us) vs (nodes_fit ls us h)) ∙ ap (take (length ls)) k ∙ h

-- a node appended to a line
pub line_grown : (ls us : List Texts) (ns ms : List ℕ) (p n : ℕ) (t : Text) → IsLine ls ns (place ls ns) → p ≡ last_node ns
    → us ≡ ls ++ (list_at ls p ++ t ∷ []) ∷ [] → n ≡ length ls + 1 → ms ≡ ns ++ n ∷ [] → IsLine us ms (place ls ns ++ t ∷ [])
line_grown ls us ns ms p n t h at put number more =
    subst (λ z. IsLine us z m) (sym more)
    (line_more us ns (place ls ns) (line_kept ls us kept ns (place ls ns) h) n m
    (let a = ap length put in let b = length_push ls (list_at ls p ++ t ∷ []) in omega (arith, a, b, number)) is (length_push (place ls ns) t)
    (take_at (place ls ns) (t ∷ []) (length (place ls ns)) refl))
  where
    m : Texts
    m = place ls ns ++ t ∷ []

    kept : take (length ls) us ≡ ls
    kept = ap (take (length ls)) put ∙ kept_more ls ((list_at ls p ++ t ∷ []) ∷ [])

    is : list_at us n ≡ place ls ns ++ t ∷ []
    is =
        let one : n ≡ suc (length ls) = omega (arith, number) in
        (λ i. list_at (put i) (one i)) ∙ get_or_push ls (list_at ls p ++ t ∷ []) [] (length ls) refl ∙ ap (λ k. list_at ls k ++ t ∷ []) at

pub agree_none : (a b : Texts) → Agree 0 a b
agree_none a b = record { ours = omega arith; theirs = omega arith; same = refl }

-- the topmost of a climb is the next of the line
module _ (ls : List Texts) (up rest ns : List ℕ) (l : Texts) (n : ℕ) (c : IsClimb ls up l (length ns)) (h : IsLine ls ns (take (length ns) l))
    (split : up ≡ rest ++ n ∷ []) where
  pub climb_less : IsClimb ls rest l (length (ns ++ n ∷ []))
  climb_less =
      let k = c.long in
      let one = length_push ns n in
      let two = length_push rest n in
      let e = ap length split in
      let same : (i : ℕ) → i < length rest → get_or up i 0 ≡ get_or rest i 0 = λ i b. ap (λ z. get_or z i 0) split ∙ get_or_append_left rest (n ∷ []) 0 i b in
      record {
        long = omega (arith, k, one, two, e);
        held = λ i b. let f = same i b in let g = c.held i (omega (arith, b, two, e)) in omega (arith, f, g);
        stands = λ i b. ap (list_at ls) (sym (same i b)) ∙ c.stands i (omega (arith, b, two, e));
      }

  pub climb_line : IsLine ls (ns ++ n ∷ []) (take (length (ns ++ n ∷ [])) l)
  climb_line =
      let k = c.long in
      let one = length_push ns n in
      let two = length_push rest n in
      let e = ap length split in
      let here : get_or up (length rest) 0 ≡ n = ap (λ z. get_or z (length rest) 0) split ∙ get_or_push rest n 0 (length rest) refl in
      let x = length-take-le (length ns) l (omega (arith, k)) in
      let y = length-take-le (length (ns ++ n ∷ [])) l (omega (arith, k, one, two, e)) in
      let at : length l - length rest ≡ length (ns ++ n ∷ []) = omega (arith, k, one, two, e) in
      line_more ls ns (take (length ns) l) h n (take (length (ns ++ n ∷ [])) l)
      (let f = c.held (length rest) (omega (arith, two, e)) in omega (arith, f, here))
      (ap (list_at ls) (sym here) ∙ c.stands (length rest) (omega (arith, two, e)) ∙ ap (λ j. take j l) at)
      (omega (arith, x, y, one))
      (ap (λ j. take j (take (length (ns ++ n ∷ [])) l)) x ∙ take-take (length ns) (length (ns ++ n ∷ [])) l (omega (arith, one)))

-- a line extended by the next text of a path
pub line_on : (us : List Texts) (ns ms : List ℕ) (l p : Texts) (t : Text) → IsLine us ms (place us ms) → place us ms ≡ l ++ t ∷ [] → l ≡ take (length ns) p
    → length ns ≡ length l → length ns < length p → t ≡ get_or p (length ns) [] → IsLine us ms (take (length ms) p)
line_on us ns ms l p t h is front long fits text = grind (arith, common_steps, take_more, length_push)

module _ (ls us : List Texts) (kept : take (length ls) us ≡ ls) (ns ms : List ℕ) (n : ℕ) (there : AreThere ls ns) (more : ms ≡ ns ++ n ∷ []) where
  pub put_there : n ≤ length us → AreThere us ms
  put_there h = subst (AreThere us) (sym more) (all_more (λ k. k ≤ length us) ns n (there_kept ls us kept ns there) h)

  pub put_lists : lists_at us ms ≡ lists_at ls ns ++ list_at us n ∷ []
  put_lists = ap (lists_at us) more ∙ map_more (list_at us) ns n ∙ ap (λ z. z ++ list_at us n ∷ []) (lists_kept ls us kept ns there)
