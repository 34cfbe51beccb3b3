-- The atoms at the places of what is left are those that are left, and their file is that of what is left.
use Rattle.cadf_erased.proofs.Common.{◌≡◌, ℕ, zero, suc, ◌+◌, Bool, true, false, cond, List, [], ◌∷◌, ◌++◌, drop, map, refl, sym, ap, ◌∙◌, append-nil, arith, Some, not, codes, slice_get, filter, filter_map, flat_map-append, encode_lower, sha256, rising, Texts, Contents, at_places, IsReplicaSet, ReplicaModel, in_order_retain, text_of_lines, with_line_feed, log_line, digest_line, with_digest_line, body_at, body_two, header_two, node_line, nodes_of_walk, no_empty, nodes_are_walked, Names, ListedModel, is_omitted, is_left, left, left_of, places_left}
use Rattle.cadf_erased.proofs.LeftSets.{left_has}

module _ {A : Type 0} where
  here : (ys : List A) (n : ℕ) (x : A) (xs : List A) → drop n ys ≡ x ∷ xs → slice_get ys n ≡ Some x
  here [] zero x xs e = absurd (cc)
  here [] (suc n) x xs e = absurd (cc)
  here (y ∷ ys) zero x xs e = cc
  here (y ∷ ys) (suc n) x xs e = here ys n x xs e

  after : (ys : List A) (n : ℕ) (x : A) (xs : List A) → drop n ys ≡ x ∷ xs → drop (n + 1) ys ≡ xs
  after [] zero x xs e = absurd (cc)
  after [] (suc n) x xs e = absurd (cc)
  after (y ∷ ys) zero x xs e = cc
  after (y ∷ ys) (suc n) x xs e =
      let one : suc n + 1 ≡ suc (n + 1) = omega arith in
      ap (λ k. drop k (y ∷ ys)) one ∙ after ys n x xs e

found : (names : Names) (ys : List Texts) (n : ℕ) (xs : List Texts) → drop n ys ≡ xs
    → filter_map (slice_get ys) (places_left n names xs) ≡ filter (is_left names) xs
found names ys n [] e = refl
found names ys n (x ∷ xs) e = by (found names ys (n + 1) xs (after ys n x xs e)) (is_omitted names x)
  where
    by : filter_map (slice_get ys) (places_left (n + 1) names xs) ≡ filter (is_left names) xs → (b : Bool)
        → filter_map (slice_get ys) (cond b [] (n ∷ []) ++ places_left (n + 1) names xs)
        ≡ cond (not b) (x ∷ filter (is_left names) xs) (filter (is_left names) xs)
    by more true = more
    by more false = rw (here ys n x xs e) (ap (λ zs. x ∷ zs) more)

pub left_at : (names : Names) (s : Contents) → at_places (places_left 0 names (rising s)) (rising s) ≡ rising (left names s)
left_at names s = found names (rising s) 0 (rising s) refl ∙ sym (in_order_retain s (is_left names))

pub file_at : (e : ListedModel) (h : ReplicaModel) (places : List ℕ) → IsReplicaSet h.atoms → places ≡ places_left 0 e.names (rising h.atoms)
    → body_at places h ≡ body_two (left_of e h)
file_at e h places kept is =
    ap (λ ps. body_at ps h) is
    ∙ ap (λ qs. header_two ∷ log_line h.log ∷ map node_line (nodes_of_walk [] qs)) (left_at e.names h.atoms)
    ∙ ap (λ ns. header_two ∷ log_line h.log ∷ map node_line ns)
    (sym (nodes_are_walked (left e.names h.atoms) (λ g. no_empty h.atoms kept (left_has e.names h.atoms [] g))))

pub file_pieces : (body file : List (List ℕ)) → body ≡ file
    → text_of_lines body ++ with_line_feed (codes "Z " ++ encode_lower (sha256 (text_of_lines body))) ≡ text_of_lines (with_digest_line file)
file_pieces body file is =
    ap (λ z. text_of_lines body ++ z) (sym (append-nil (with_line_feed (digest_line body))))
    ∙ sym (flat_map-append with_line_feed body (digest_line body ∷ []))
    ∙ ap (λ b. text_of_lines (with_digest_line b)) is
