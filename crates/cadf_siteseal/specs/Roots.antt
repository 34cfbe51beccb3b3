-- What a seal has of a part's atoms, in the words of a line: the number and the root of the facts, and of the keys.
--     roots_text r k   these words, with a space between them
--     roots_in text    the roots that the words encode
--     IsSealed r       the invariant of a root of some digests
use Rattle.std.specs.Prelude.{◌≡◌, ℕ, List, ◌∷◌, ◌++◌, nat_eq, decimal, false, if◌then◌else◌, Option, Some, None, option_and_then}
use Rattle.hex.specs.Hex.{encode_lower}
use Rattle.cadf_join.specs.Contents.{Text}
use Rattle.cadf_inventory.specs.InventoryVerdict.{digest_of}
use Rattle.cadf_linefile.specs.Numbers.{number_in, first_word, words_after}
use Rattle.cadf_tree.specs.declared.tree.Root.{Root}
use Rattle.cadf_evidence.specs.SealFile.{IsRoot}

abbrev pub root_text : Root → List ℕ
root_text r = decimal r.count ++ 32 ∷ encode_lower r.hash

abbrev pub roots_text : Root → Root → List ℕ
roots_text r k = decimal r.count ++ 32 ∷ (encode_lower r.hash ++ 32 ∷ root_text k)

-- a number from 1 on
abbrev pub unless_zero : ℕ → Option ℕ
unless_zero n = if nat_eq n 0 then None else Some n

abbrev pub positive_in : List ℕ → Option ℕ
positive_in word = option_and_then unless_zero (number_in word)

abbrev pub root_with : Option ℕ → Option Text → Option Root
root_with None d = None
root_with (Some n) None = None
root_with (Some n) (Some d) = Some (record { count = n; hash = d })

abbrev pub root_in : List ℕ → List ℕ → Option Root
root_in count hash = root_with (positive_in count) (digest_of hash)

abbrev pub both_roots : Option Root → Option Root → Option (Root × Root)
both_roots None k = None
both_roots (Some r) None = None
both_roots (Some r) (Some k) = Some (r, k)

-- of the words after the second one
abbrev pub last_root_in : List ℕ → Option Root
last_root_in text = root_in (first_word text) (words_after text)

abbrev pub first_root_in : List ℕ → Option Root
first_root_in text = root_in (first_word text) (first_word (words_after text))

abbrev pub roots_in : List ℕ → Option (Root × Root)
roots_in text = both_roots (first_root_in text) (last_root_in (words_after (words_after text)))

pub record IsSealed (r : Root) : Type 0 where
  pub some : nat_eq r.count 0 ≡ false
  pub root : IsRoot r
