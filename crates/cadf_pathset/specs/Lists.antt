-- Lists of texts: their prefixes, and the last of some lists.
--     first_text l           the first text of a list
--     prefix_cmp l p         whether l is below the lists that begin with p, is one of them, or is above them
--     is_before p more l     whether l is below the lists that begin with p, or is one of them and `more` is set
--     strip p l              the suffix of l after the prefix p; none if l doesn't begin with p
--     last_of p ls           the last of the lists, or p if there is none
--     is_above_last ls q     whether q is above the last of the lists, or there is none
--     last_starts_with ls p  whether the last of the lists begins with p
--     last_list s            the last list of a set in its order; the empty list if there is none
--     chosen_of flags ls     the lists whose flags are set
--     at_places is ls        the members of ls at these indices, in the order of the indices; none for an index that is too great
use Rattle.std.specs.Prelude.{ℕ, Bool, true, false, cond, List, [], ◌∷◌, Option, Some, None, slice_get}
use Rattle.std.specs.List.{filter_map}
use Rattle.std.specs.declared.cmp.Ordering.{Ordering}
use Rattle.std.specs.declared.cmp.Ordering.TheVariants.{Less, Equal, Greater}
use Rattle.std.specs.Ordering.{is_eq, is_lt, match_ordering}
use Rattle.cadf_join.specs.Sets as set
use Rattle.cadf_join.specs.Contents.{Text, Texts, Contents, text_cmp, texts_cmp}

abbrev pub first_text : Texts → Option Text
first_text [] = None
first_text (t ∷ l) = Some t

abbrev pub prefix_cmp : Texts → Texts → Ordering
prefix_cmp l [] = Equal
prefix_cmp [] (t ∷ p) = Less
prefix_cmp (u ∷ l) (t ∷ p) = match_ordering (text_cmp u t) Less (prefix_cmp l p) Greater

abbrev pub is_before : Texts → Bool → Texts → Bool
is_before p more l = match_ordering (prefix_cmp l p) true more false

abbrev pub strip : Texts → Texts → Option Texts
strip [] l = Some l
strip (t ∷ p) [] = None
strip (t ∷ p) (u ∷ l) = match_ordering (text_cmp u t) None (strip p l) None

abbrev pub last_of : Texts → List Texts → Texts
last_of p [] = p
last_of p (l ∷ ls) = last_of l ls

abbrev pub is_above_last : List Texts → Texts → Bool
is_above_last [] q = true
is_above_last (l ∷ ls) q = is_lt (texts_cmp (last_of l ls) q)

abbrev pub last_starts_with : List Texts → Texts → Bool
last_starts_with [] p = false
last_starts_with (l ∷ ls) p = is_eq (prefix_cmp (last_of l ls) p)

abbrev pub last_list : Contents → Texts
last_list s = last_of [] (set.rising s)

abbrev pub chosen_of : List Bool → List Texts → List Texts
chosen_of [] ls = []
chosen_of (b ∷ bs) [] = []
chosen_of (b ∷ bs) (l ∷ ls) = cond b (l ∷ chosen_of bs ls) (chosen_of bs ls)

abbrev pub at_places : {A : Type 0} → List ℕ → List A → List A
at_places is ls = filter_map (slice_get ls) is
