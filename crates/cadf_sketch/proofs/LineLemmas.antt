-- Each line of a sketch's file decodes to the values that it encodes, and to no others.
use Rattle.cadf_sketch.proofs.Common.{common_steps, ◌≡◌, ℕ, ◌+◌, ◌*◌, ◌<◌, ◌⊎◌, inl, inr, List, [], ◌∷◌, ◌++◌, length, take, drop, Option, Some, None, refl, sym, ap, ◌∙◌, subst, arith, ◌^◌, decimal, nat_eq, codes, slice_index, option_map, w64, to_be_bytes, from_be_bytes, starts_with, from_be_bytes-to_be_bytes_8, be_bytes_8, take-append-drop, length-append, length-drop, length-take-le, take-append_seam, drop-append_seam, encode_lower, decode_sized, lower_digits, length-encode_with, Text, IsDigest, if_spelled, digest_of, digest-again, digest-only, spelled-again, spelled-only, LayoutModel, IsLayout, layout_of, spelled, head_line, counts_line, cell_line, AreWords64, IsHead, IsTally, IsCell, number_in, numbers_in, first_word, words_after, laid_out, headed, head_in_words, head_in, tally_in_numbers, counts_in_words, tally_in, cell_of_bytes, cell_in, Cell, Head, Tally, number-only, number-again, number_of_none, decimal_unblank, first_is, after_is, cut_cases, begins_with, chosen, high_fits, append_fits}
use Rattle.cadf_sketch.proofs.CountLemmas.{numbers-again, numbers-only}

-- ---- the line of a layout and a digest

laid : (l : LayoutModel) → IsLayout l → layout_of (3 * l.size) l.salt ≡ Some l
laid l h = grind (arith, common_steps)

pub head-again : (h : Head) → IsHead h → head_in (head_line h) ≡ Some h
unfolding head_in_words
head-again h is = grind (arith, common_steps, decimal_unblank, after_is, first_is, number-again, digest-again, laid)

pub record HasLayout (cells salt : Option ℕ) (l : LayoutModel) : Type 0 where
  pub layout : IsLayout l
  pub cells_are : cells ≡ Some (3 * l.size)
  pub salt_is : salt ≡ Some l.salt

pub laid-only : (o p : Option ℕ) (l : LayoutModel) → laid_out o p ≡ Some l → HasLayout o p l
laid-only o p l e = grind (arith, common_steps)

headed-only : (o : Option LayoutModel) (d : Option Text) (h : Head) → headed o d ≡ Some h → (o ≡ Some h.layout) × (d ≡ Some h.digest)
headed-only o d h e = grind (arith, common_steps)

pub head-only : (l : List ℕ) (h : Head) → head_in l ≡ Some h → (l ≡ head_line h) × IsHead h
unfolding head_in_words
head-only l h e =
    let c = chosen (starts_with nat_eq l (codes "S ")) (head_in_words (drop 2 l)) h e in
    let t = drop 2 l in
    let p = headed-only (laid_out (number_in (first_word t)) (number_in (first_word (words_after t)))) (digest_of (words_after (words_after t))) h c.1 in
    let y = laid-only (number_in (first_word t)) (number_in (first_word (words_after t))) h.layout p.0 in
    let n = number-only (first_word t) (3 * h.layout.size) y.cells_are in
    let a = number-only (first_word (words_after t)) h.layout.salt y.salt_is in
    let d = digest-only (words_after (words_after t)) h.digest p.1 in
    let inner = two (words_after t) (cut_cases (words_after t)) a.0 d.0 d.1 in
    let outer = one t (cut_cases t) n.0 inner y.salt_is in (
      begins_with 83 32 l c.0 ∙ ap (λ r. 83 ∷ 32 ∷ r) outer,
      record { layout = y.layout; salt = a.1; digest = d.1 },
    )
  where
    never : (a : ℕ) → number_in [] ≡ Some a → ⊥
    never a some = let q = sym number_of_none ∙ some in cc

    one : (t : List ℕ) → (t ≡ first_word t ++ 32 ∷ words_after t) ⊎ (words_after t ≡ []) → first_word t ≡ decimal (3 * h.layout.size)
        → words_after t ≡ decimal h.layout.salt ++ 32 ∷ encode_lower h.digest → number_in (first_word (words_after t)) ≡ Some h.layout.salt
        → t ≡ decimal (3 * h.layout.size) ++ 32 ∷ (decimal h.layout.salt ++ 32 ∷ encode_lower h.digest)
    one t (inl cut) word rest some = cut ∙ (λ i. word i ++ 32 ∷ rest i)
    one t (inr none) word rest some = absurd (never h.layout.salt (ap (λ w. number_in (first_word w)) (sym none) ∙ some))

    two : (t : List ℕ) → (t ≡ first_word t ++ 32 ∷ words_after t) ⊎ (words_after t ≡ []) → first_word t ≡ decimal h.layout.salt
        → words_after t ≡ encode_lower h.digest → IsDigest h.digest → t ≡ decimal h.layout.salt ++ 32 ∷ encode_lower h.digest
    two t (inl cut) word rest is = cut ∙ (λ i. word i ++ 32 ∷ rest i)
    two t (inr none) word rest is =
        let some : length (encode_lower h.digest) ≡ 2 * length h.digest = length-encode_with lower_digits h.digest in
        let p : 0 ≡ length (encode_lower h.digest) = ap length (sym none ∙ rest) in
        absurd (omega (arith, p, some, is.size))

-- ---- the line of the counts

pub tally-again : (t : Tally) → IsTally t → tally_in (counts_line t) ≡ Some t
unfolding counts_in_words
tally-again t is =
    ap (λ k. tally_in_numbers (numbers_in k (spelled t.digests t.ones))) (sym is.size) ∙ ap tally_in_numbers (numbers-again t.digests t.ones is.digests is.ones)

counted-only : (o : Option (List ℕ)) (t : Tally) → tally_in_numbers o ≡ Some t → o ≡ Some (t.digests ∷ t.ones)
counted-only o t e = grind (arith, common_steps)

pub tally-only : (l : List ℕ) (t : Tally) → tally_in l ≡ Some t → (l ≡ counts_line t) × IsTally t
unfolding counts_in_words
tally-only l t e =
    let c = chosen (starts_with nat_eq l (codes "C ")) (counts_in_words (drop 2 l)) t e in
    let n = numbers-only 64 (drop 2 l) (t.digests ∷ t.ones) (counted-only (numbers_in 64 (drop 2 l)) t c.1) in
    let first : n.first ≡ t.digests = cc in
    let more : n.more ≡ t.ones = cc in (
      begins_with 67 32 l c.0 ∙ ap (λ r. 67 ∷ 32 ∷ r) (n.text_is ∙ (λ i. spelled (first i) (more i))),
      record {
        digests = subst (λ m. m < 2 ^ 64) first n.first_fits;
        size = ap length (sym more) ∙ n.size;
        ones = subst AreWords64 more n.more_fit;
      },
    )

-- ---- the line of a cell

abbrev cell_bytes : Cell → List ℕ
cell_bytes c = c.digest ++ to_be_bytes w64 c.check

be_size : (n : ℕ) → length (to_be_bytes w64 n) ≡ 8
be_size n = refl

be_fits : (n i : ℕ) → slice_index (to_be_bytes w64 n) i < 256
be_fits n i = high_fits 8 n i

eight : (a b c d e f g h : ℕ) → a < 256 → b < 256 → c < 256 → d < 256 → e < 256 → f < 256 → g < 256 → h < 256
    → a * 72057594037927936 + b * 281474976710656 + c * 1099511627776 + d * 4294967296 + e * 16777216 + f * 65536 + g * 256 + h < 18446744073709551616
eight a b c d e f g h at_0 at_1 at_2 at_3 at_4 at_5 at_6 at_7 = omega arith

pub from_fits : (bytes : List ℕ) → ((i : ℕ) → slice_index bytes i < 256) → from_be_bytes w64 bytes < 2 ^ 64
from_fits bytes small = eight _ _ _ _ _ _ _ _ (small 0) (small 1) (small 2) (small 3) (small 4) (small 5) (small 6) (small 7)

take_back : (k : ℕ) (xs ys : List ℕ) → length xs ≡ k → take k (xs ++ ys) ≡ xs
take_back k xs ys e = ap (λ n. take n (xs ++ ys)) (sym e) ∙ take-append_seam xs ys

drop_back : (k : ℕ) (xs ys : List ℕ) → length xs ≡ k → drop k (xs ++ ys) ≡ ys
drop_back k xs ys e = ap (λ n. drop n (xs ++ ys)) (sym e) ∙ drop-append_seam xs ys

pub cell-again : (c : Cell) → IsCell c → cell_in (cell_line c) ≡ Some c
unfolding cell_in
cell-again c is =
    let check = to_be_bytes w64 c.check in
    let size : length (cell_bytes c) ≡ 40 = length-append c.digest check ∙ (λ i. is.digest.size i + be_size c.check i) in
    ap (option_map cell_of_bytes) (spelled-again 40 (cell_bytes c) size (append_fits c.digest check is.digest.bytes (be_fits c.check)))
    ∙ (λ i. Some (record {
      digest = take_back 32 c.digest check is.digest.size i;
      check = (ap (from_be_bytes w64) (drop_back 32 c.digest check is.digest.size) ∙ from_be_bytes-to_be_bytes_8 c.check is.check) i;
    }))

pub take_fits : (k : ℕ) (xs : List ℕ) → ((i : ℕ) → slice_index xs i < 256) → (i : ℕ) → slice_index (take k xs) i < 256
take_fits k xs f i = grind (arith, common_steps)

drop_fits : (k : ℕ) (xs : List ℕ) → ((i : ℕ) → slice_index xs i < 256) → (i : ℕ) → slice_index (drop k xs) i < 256
drop_fits k xs f i = grind (arith, common_steps)

mapped-only : (o : Option Text) (c : Cell) → option_map cell_of_bytes o ≡ Some c → (bytes : Text) × (o ≡ Some bytes) × (cell_of_bytes bytes ≡ c)
mapped-only None c e = absurd (cc)
mapped-only (Some bytes) c e = (bytes, refl, cc)

pub cell-only : (l : List ℕ) (c : Cell) → cell_in l ≡ Some c → (l ≡ cell_line c) × IsCell c
unfolding cell_in
cell-only l c e =
    let m = mapped-only (if_spelled l (decode_sized l 40)) c e in
    let bytes = m.0 in
    let s = spelled-only 40 l bytes m.1 in
    let front : length (take 32 bytes) ≡ 32 = length-take-le 32 bytes (omega (arith, s.1)) in
    let back : length (drop 32 bytes) ≡ 8 = omega (arith, length-drop 32 bytes, s.1) in
    let each = drop_fits 32 bytes s.2 in
    let check : to_be_bytes w64 (from_be_bytes w64 (drop 32 bytes)) ≡ drop 32 bytes = be_bytes_8 (drop 32 bytes) (from_be_bytes w64 (drop 32 bytes)) back each refl in (
      s.0
          ∙ ap encode_lower (sym (ap (λ t. take 32 bytes ++ t) check ∙ take-append-drop 32 bytes))
          ∙ ap cell_line m.2,
      subst IsCell m.2 (record {
        digest = record { size = front; bytes = take_fits 32 bytes s.2 };
        check = from_fits (drop 32 bytes) each;
      }),
    )

-- ---- intermediate results of the code

pub head_uncut : (t : List ℕ) → words_after t ≡ [] → head_in_words t ≡ None
unfolding head_in_words
head_uncut t e = grind (arith, common_steps)

unheaded : (o : Option LayoutModel) → headed o None ≡ None
unheaded o = grind (arith, common_steps)

pub head_uncut_twice : (t : List ℕ) → words_after (words_after t) ≡ [] → head_in_words t ≡ None
unfolding head_in_words
head_uncut_twice t e = grind (arith, common_steps)

module _ (t first rest second last : List ℕ) (a : first ≡ first_word t) (b : rest ≡ words_after t) (c : second ≡ first_word rest) (d : last ≡ words_after rest) where
  words : headed (laid_out (number_in first) (number_in second)) (digest_of last) ≡ head_in_words t
  unfolding head_in_words
  words =
      let e = c ∙ ap first_word b in
      let f = d ∙ ap words_after b in
      λ i. headed (laid_out (number_in (a i)) (number_in (e i))) (digest_of (f i))

  pub no_layout : None ≡ laid_out (number_in first) (number_in second) → None ≡ head_in_words t
  no_layout e = ap (λ l. headed l (digest_of last)) e ∙ words

  pub no_last : None ≡ digest_of last → None ≡ head_in_words t
  no_last e = sym (unheaded (laid_out (number_in first) (number_in second))) ∙ ap (headed (laid_out (number_in first) (number_in second))) e ∙ words

  pub head_read : (l : LayoutModel) (x : Text) → Some l ≡ laid_out (number_in first) (number_in second) → Some x ≡ digest_of last
      → Some (record { layout = l; digest = x }) ≡ head_in_words t
  head_read l x e f = (λ i. headed (e i) (f i)) ∙ words
