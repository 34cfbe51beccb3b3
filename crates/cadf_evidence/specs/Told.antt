-- What is said of facts that are all as asked: a line of text for each.
--     subject q            what an atom is of; of a ruling, what it rules on
--     told_line word q     the line of a fact: the word, its letter, its subject and its digest
--     told absent qs       the lines of these facts
--     told_text ls         the text of lines of which those that differ in their digests alone have one head
--     Tells a t qs b u     telling of these facts appends what is said of them
use Rattle.std.specs.Prelude.{◌≡◌, ℕ, List, [], ◌∷◌, ◌++◌, flat_map, get_or, codes, Bool, true, false, if◌then◌else◌}
use Rattle.json.specs.Print.{quoted}
use Rattle.hex.specs.Hex.{encode_lower}
use Rattle.cadf_join.specs.Contents.{Text, Texts}
use Rattle.cadf_line.specs.Atoms.{is_text, ruling_letter}
use Rattle.cadf_line.specs.Digest.{atom_digest}
use Rattle.cadf_evidence.specs.declared.telling.Alike.{Alike}

abbrev pub word_for : Bool → List ℕ
word_for true = codes "absent "
word_for false = codes "present "

abbrev pub subject : Texts → Text
subject q = if is_text (get_or q 0 []) ruling_letter then get_or q 2 [] else get_or q 1 []

abbrev pub digest_text : Text → List ℕ
digest_text d = encode_lower d ++ 10 ∷ []

-- all of a line before its digest
abbrev pub told_head : List ℕ → Texts → List ℕ
told_head word q = word ++ (get_or q 0 [] ++ 32 ∷ (quoted (subject q) ++ 32 ∷ []))

abbrev pub told_line : List ℕ → Texts → List ℕ
told_line word q = told_head word q ++ digest_text (atom_digest q)

abbrev pub told : Bool → List Texts → List ℕ
told absent qs = flat_map (told_line (word_for absent)) qs

-- the lines with this head and these digests
abbrev pub alike_text : List ℕ → List Text → List ℕ
alike_text head ds = flat_map (λ d. head ++ digest_text d) ds

abbrev pub told_text : List Alike → List ℕ
told_text ls = flat_map (λ l. alike_text l.head.items l.digests.items) ls

abbrev pub Tells : Bool → List ℕ → List Texts → Bool → List ℕ → Type 0
Tells absent before qs same after = (same ≡ absent) × (after ≡ before ++ told absent qs)
