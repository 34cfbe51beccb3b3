-- Parts that are gone through with the nodes among them.
use Rattle.cadf_tree.proofs.Common.{◌≡◌, ◌∙◌, ◌+◌, ◌<◌, ◌≤◌, ◌-◌, ℕ, take, drop, get_or, length, arith, Bool, true, false, List, [], ◌∷◌, Option, None, Some, refl, ap, sym, ◌&&◌, option_map, drop_more, take_rest, items, Read, read, read_all, whole, summaries, all_beside, sides, Text, all_asked, latest, walked, is_asked, whole_sides, Sides, Summary, Part, Node, Hash, Leaf}

abbrev pub after : Option Part → List Part → List Part
after None xs = xs
after (Some x) xs = x ∷ xs

module _ (fit : Part → Part → Bool) where
  one : (b : Option Part) → true ≡ all_beside fit (after b [])
  one None = refl
  one (Some b) = refl

  pub walk_items : (b : Option Part) (ps : List Part) → walked fit b ps ≡ all_beside fit (after b (items ps))
  walk_items b [] = one b
  walk_items None (Node ∷ ps) = walk_items None ps
  walk_items (Some b) (Node ∷ ps) = walk_items (Some b) ps
  walk_items None (Hash h ∷ ps) = walk_items (Some (Hash h)) ps
  walk_items (Some b) (Hash h ∷ ps) = ap (λ z. fit b (Hash h) && z) (walk_items (Some (Hash h)) ps)
  walk_items None (Leaf k d ∷ ps) = walk_items (Some (Leaf k d)) ps
  walk_items (Some b) (Leaf k d ∷ ps) = ap (λ z. fit b (Leaf k d) && z) (walk_items (Some (Leaf k d)) ps)

-- ---- leaves that are asked for

pub asked_next : (b : Option Part) (x : Part) (ps : List Part) (fs : List Text) → is_asked b x ps fs ≡ true
    → all_asked b (items (x ∷ ps)) fs ≡ all_asked (latest b x) (items ps) fs
asked_next b Node ps fs e = refl
asked_next b (Hash h) ps fs e = refl
asked_next b (Leaf k d) ps fs e = ap (λ z. z && all_asked (Some (Leaf k d)) (items ps) fs) e

pub asked_loop : (ps : List Part) (fs : List Text) (b n : Option Part) (i : ℕ) (d : Part) (all z : Bool) → i < length ps → all ≡ all_asked b (items (drop i ps)) fs
    → z ≡ is_asked b (get_or ps i d) (take (length ps - (i + 1)) (drop (i + 1) ps)) fs → z ≡ true → n ≡ latest b (get_or ps i d)
    → all ≡ all_asked n (items (drop (i + 1) ps)) fs
asked_loop ps fs b n i d all z low h e t f =
    h ∙ ap (λ l. all_asked b (items l) fs) (drop_more ps i d low)
    ∙ asked_next b (get_or ps i d) (drop (i + 1) ps) fs (ap (λ l. is_asked b (get_or ps i d) l fs) (sym (take_rest ps (i + 1))) ∙ sym e ∙ t)
    ∙ ap (λ m. all_asked m (items (drop (i + 1) ps)) fs) (sym f)

pub asked_end : (b : Option Part) (x : Part) (ps : List Part) (fs : List Text) → is_asked b x ps fs ≡ false → all_asked b (items (x ∷ ps)) fs ≡ false
asked_end b Node ps fs e = absurd (cc)
asked_end b (Hash h) ps fs e = absurd (cc)
asked_end b (Leaf k d) ps fs e = ap (λ z. z && all_asked (Some (Leaf k d)) (items ps) fs) e

-- ---- what is read

whole_read : (r : Read) → option_map sides (whole r) ≡ whole_sides (summaries r)
whole_read None = refl
whole_read (Some (p, [])) = refl
whole_read (Some (p, x ∷ xs)) = refl

pub sides_read : (ps : List Part) (r : Option (Summary × List Part)) (x : Option Sides) → 1 ≤ length ps → r ≡ summaries (read 257 ps) → x ≡ whole_sides r
    → x ≡ option_map sides (read_all ps)
sides_read [] r x some e f = absurd (omega (arith, some))
sides_read (p ∷ ps) r x some e f = f ∙ ap whole_sides e ∙ sym (whole_read (read 257 (p ∷ ps)))
