-- A set of atoms in parts, each atom in the part of its key. A key is a list of numbers, and keys are ordered as texts are.
--     part_by of k s     the atoms of s whose key is k
--     keys_by of s       the keys of the atoms of s, each once, ascending
--     parts_by of s      the parts of these keys, in their order
--     IsOfCarrier of     an atom has the key of its carrier
--     HasValue, IsInTwoParts   a set has a value for a letter and a name, and two parts of it have one
use Rattle.std.specs.Prelude.{◌≡◌, ◌≢◌, List, [], ◌∷◌, map}
use Rattle.cadf_join.specs.Sets as set
use Rattle.cadf_join.specs.Contents.{Text, Texts, Contents, text_cmp, Has}
use Rattle.cadf_line.specs.Atoms.{is_text, carrier}

module _ (of : Texts → Text) where
  abbrev pub part_by : Text → Contents → Contents
  part_by k s = set.retain s (λ q. is_text (of q) k)

  abbrev pub keys_by : Contents → List Text
  keys_by s = set.rising (set.from_list {R = text_cmp} (map of (set.rising s)))

  abbrev pub parts_by : Contents → List Contents
  parts_by s = map (λ k. part_by k s) (keys_by s)

  abbrev pub IsOfCarrier : Type 0
  IsOfCarrier = (q : Texts) → of (carrier q) ≡ of q

-- ---- keys of values in two parts

-- the set has a value for the letter and the name
abbrev pub HasValue : Contents → (letter name : Text) → Type 0
HasValue s letter name = (v : Text) × Has s (letter ∷ name ∷ v ∷ [])

-- two different parts have a value for them
abbrev pub IsInTwoParts : (Texts → Text) → Contents → (letter name : Text) → Type 0
IsInTwoParts of s letter name =
    (k : Text) × ((l : Text) × ((k ≢ l) × (HasValue (part_by of k s) letter name × HasValue (part_by of l s) letter name)))
