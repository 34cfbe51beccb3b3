-- Lines that differ in their digests alone, and the writing of them.
use Rattle.cadf_evidence.proofs.Common.{◌≡◌, ℕ, ◌+◌, ◌<◌, length, List, [], ◌∷◌, ◌++◌, drop, Option, sym, subst, ap, ◌∙◌, append_assoc, append-nil, get_or, flat_map-append, drop_more, Appends-trans, Appends, AppendsPrefix, front_after, front_more, Text, digest_text, alike_text, told_text, Alike}

-- ---- a line that is added

text_and : (ls : List Alike) (a : Alike) → told_text (ls ++ a ∷ []) ≡ told_text ls ++ alike_text a.head.items a.digests.items
text_and ls a = flat_map-append (λ l. alike_text l.head.items l.digests.items) ls (a ∷ []) ∙ ap (λ t. told_text ls ++ t) (append-nil _)

alike_and : (head : List ℕ) (ds : List Text) (d : Text) → alike_text head (ds ++ d ∷ []) ≡ alike_text head ds ++ (head ++ digest_text d)
alike_and head ds d = flat_map-append (λ x. head ++ digest_text x) ds (d ∷ []) ∙ ap (λ t. alike_text head ds ++ t) (append-nil _)

pub line_more : (ls : List Alike) (a b : Alike) (head : List ℕ) (d : Text) → a.head.items ≡ head → b.head.items ≡ a.head.items → b.digests.items ≡ a.digests.items ++ d ∷ []
    → told_text (ls ++ b ∷ []) ≡ told_text (ls ++ a ∷ []) ++ (head ++ digest_text d)
line_more ls a b head d e f g =
    text_and ls b
    ∙ ap (λ t. told_text ls ++ t) ((λ i. alike_text ((f ∙ e) i) (g i)) ∙ alike_and head a.digests.items d)
    ∙ sym (append_assoc (told_text ls) (alike_text head a.digests.items) (head ++ digest_text d))
    ∙ ap (λ t. t ++ (head ++ digest_text d)) ((λ i. told_text ls ++ alike_text (sym e i) a.digests.items) ∙ sym (text_and ls a))

-- ---- lines that are written

-- all but what is left was written
pub record IsLeft (old now : Option (List ℕ)) (all left : List ℕ) : Type 0 where
  pub done : List ℕ
  pub written : Appends old now done
  pub parts : done ++ left ≡ all

module _ (old now new : Option (List ℕ)) (all left line rest : List ℕ) (w : IsLeft old now all left) (e : left ≡ line ++ rest) where
  pub line_written : Appends now new line → IsLeft old new all rest
  line_written h = record {
    done = w.done ++ line;
    written = Appends-trans old now new w.done line w.written h;
    parts = append_assoc w.done line rest ∙ ap (λ t. w.done ++ t) (sym e) ∙ w.parts;
  }

  pub front_written : AppendsPrefix now new line → AppendsPrefix old new all
  front_written h = subst (AppendsPrefix old new) (ap (λ t. w.done ++ t) (sym e) ∙ w.parts)
      (front_after old now new w.done (line ++ rest) w.written (front_more now new line rest h))

-- the next of these lines, and those after it
pub line_next : (head : List ℕ) (ds : List Text) (k : ℕ) (none : Text) (rest : List ℕ) → k < length ds
    → alike_text head (drop k ds) ++ rest ≡ (head ++ digest_text (get_or ds k none)) ++ (alike_text head (drop (k + 1) ds) ++ rest)
line_next head ds k none rest h =
    ap (λ xs. alike_text head xs ++ rest) (drop_more ds k none h)
    ∙ append_assoc (head ++ digest_text (get_or ds k none)) (alike_text head (drop (k + 1) ds)) rest

-- a prefix of the next of these lines was written
module _ (old now new : Option (List ℕ)) (ls : List Alike) (all head h : List ℕ) (ds xs : List Text) (k : ℕ) (d none : Text) (rest : List ℕ) where
  pub front_line : IsLeft old now (told_text ls) (alike_text head (drop k ds) ++ rest) → told_text ls ≡ all → h ≡ head → xs ≡ ds → k < length xs → d ≡ get_or xs k none
      → AppendsPrefix now new (h ++ digest_text d) → AppendsPrefix old new all
  front_line w whole e f bound is front =
      let within : k < length ds = subst (λ ys. k < length ys) f bound in
      let item : d ≡ get_or ds k none = is ∙ ap (λ ys. get_or ys k none) f in
      let line : h ++ digest_text d ≡ head ++ digest_text (get_or ds k none) = λ i. e i ++ digest_text (item i) in
      subst (AppendsPrefix old new) whole
      (front_written old now new (told_text ls) (alike_text head (drop k ds) ++ rest) (head ++ digest_text (get_or ds k none)) (alike_text head (drop (k + 1) ds) ++ rest)
      w (line_next head ds k none rest within) (subst (AppendsPrefix now new) line front))
