-- The key of an atom: the letter and the name under which its value is; and the digest of a key.
--     key_of q               the first two texts of an atom; of a ruling the letter and the key that it is of
--     key_length q           how many of the first texts of an atom decide its key
--     key_digest q           the SHA-256 of the line of its key
--     keys_of s              the digests of the keys of a set's atoms
--     Collects u qs v        v is the list u of digests with those of the keys of qs, some maybe once more
--     IsCollected u n q      if n of the first texts of q decide its key, then u has the digest of that
use Rattle.std.specs.Prelude.{◌≡◌, ◌≤◌, ℕ, Bool, true, cond, List, take, drop, map}
use Rattle.std.specs.List.{AllByRecursion}
use Rattle.cadf_join.specs.Sets as set
use Rattle.cadf_join.specs.Contents.{Text, Texts, Contents, text_cmp}
use Rattle.cadf_line.specs.Atoms.{begins_with, ruling_letter}
use Rattle.cadf_line.specs.Digest.{IsDigest, atom_digest}
use Rattle.cadf_line.specs.Missing.{Digests, digests_of}

abbrev pub is_ruling : Texts → Bool
is_ruling q = begins_with ruling_letter q

abbrev pub key_of : Texts → Texts
key_of q = cond (is_ruling q) (take 2 (drop 1 q)) (take 2 q)

abbrev pub key_length : Texts → ℕ
key_length q = cond (is_ruling q) 3 2

abbrev pub key_digest : Texts → Text
key_digest q = atom_digest (key_of q)

abbrev pub keys_of : Contents → Digests
keys_of s = digests_of key_digest s

-- ---- collected digests

abbrev pub digests_in : List Text → Digests
digests_in ds = set.from_list {R = text_cmp} ds

pub record Collects (u : List Text) (qs : List Texts) (v : List Text) : Type 0 where
  pub digests : digests_in v ≡ set.union (digests_in u) (digests_in (map key_digest qs))
  pub each : AllByRecursion IsDigest u → AllByRecursion IsDigest v

abbrev pub IsCollected : List Text → ℕ → Texts → Type 0
IsCollected u n q = key_length q ≤ n → set.contains (digests_in u) (key_digest q) ≡ true
