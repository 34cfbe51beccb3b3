-- The world after the turns so far, one turn further. The turns so far have the newest first.
use Rattle.cadf_rehearsal.proofs.Common.{common_steps, ◌≡◌, ℕ, ◌+◌, ◌<◌, ◌≤◌, List, [], ◌∷◌, ◌++◌, reverse, length, take, drop, get_or, sym, ap, ◌∙◌, arith, Ok, Err, reverse-append, length-reverse, length-take-le, take-append-drop, Text, Texts, Turn, RehearseFault, World, world_after_turn, next, after}

-- the turns so far, the newest first
abbrev pub played : List Turn → List Turn
played ts = reverse ts

pub played_more : (ts : List Turn) (i : ℕ) (t : Turn) → i < length ts → t ≡ get_or ts i t → played (take (i + 1) ts) ≡ t ∷ played (take i ts)
played_more ts i t h is = grind (arith, common_steps)

pub played_length : (ts : List Turn) (i : ℕ) → i ≤ length ts → length (played (take i ts)) ≡ i
played_length ts i h = length-reverse (take i ts) ∙ length-take-le i ts h

pub played_split : (ts : List Turn) (i : ℕ) → played ts ≡ played (drop i ts) ++ played (take i ts)
played_split ts i = ap played (sym (take-append-drop i ts)) ∙ reverse-append (take i ts) (drop i ts)

module _ (digest : Texts → Text) (log : Text) (sites : ℕ) where
  after_fault : (later earlier : List Turn) (fault : RehearseFault) → after digest log sites earlier ≡ Err fault
      → after digest log sites (later ++ earlier) ≡ Err fault
  after_fault [] earlier fault is = is
  after_fault (t ∷ later) earlier fault is =
      ap (next digest log sites (length (later ++ earlier) + 1) t) (after_fault later earlier fault is)

  pub after_more : (ts : List Turn) (i : ℕ) (t : Turn) (w v : World) → i < length ts → t ≡ get_or ts i t
      → after digest log sites (played (take i ts)) ≡ Ok w → world_after_turn digest log sites (i + 1) w t ≡ Ok v
      → after digest log sites (played (take (i + 1) ts)) ≡ Ok v
  after_more ts i t w v h at before step =
      let le : i ≤ length ts = omega arith in
      ap (after digest log sites) (played_more ts i t h at)
      ∙ ap (next digest log sites (length (played (take i ts)) + 1) t) before
      ∙ ap (λ k. world_after_turn digest log sites (k + 1) w t) (played_length ts i le)
      ∙ step

  pub after_refused : (ts : List Turn) (i : ℕ) (t : Turn) (w : World) (fault : RehearseFault) → i < length ts → t ≡ get_or ts i t
      → after digest log sites (played (take i ts)) ≡ Ok w → world_after_turn digest log sites (i + 1) w t ≡ Err fault
      → after digest log sites (played ts) ≡ Err fault
  after_refused ts i t w fault h at before step =
      let le : i ≤ length ts = omega arith in
      ap (after digest log sites) (played_split ts (i + 1))
      ∙ after_fault (played (drop (i + 1) ts)) (played (take (i + 1) ts)) fault (
      ap (after digest log sites) (played_more ts i t h at)
      ∙ ap (next digest log sites (length (played (take i ts)) + 1) t) before
      ∙ ap (λ k. world_after_turn digest log sites (k + 1) w t) (played_length ts i le)
      ∙ step)
