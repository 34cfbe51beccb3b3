-- The sketch that is asked for is a sketch.
use Rattle.cadf_sketch.proofs.Common.{common_steps, ◌≡◌, ◌<◌, ◌+◌, ◌*◌, ◌/◌, ◌%◌, ◌^◌, ℕ, true, arith, rules, slice_range, Option, None, Some, IfSome, IsDigest, InventoryModel, IsInventory, inventory_digest, inventory_text, word, IsLayout, are_cells, is_salt, layout_with, IsSketch, sketch_of, asked, sha_digest}
use Rattle.cadf_sketch.proofs.LineLemmas.{from_fits, take_fits}
use Rattle.cadf_sketch.proofs.SketchInvariant.{sketch_parts}

first_word_fits : (n : InventoryModel) → word (inventory_digest n) 0 < 2 ^ 64
unfolding word inventory_digest
first_word_fits n =
    let digest : IsDigest (inventory_digest n) = sha_digest (inventory_text n) in
    from_fits (slice_range (inventory_digest n) 0 8) (take_fits 8 (inventory_digest n) digest.bytes)

laid : (cells salt : ℕ) → are_cells cells ≡ true → salt % 2 ≡ 1 → IsLayout (layout_with cells salt)
laid cells salt h odd = grind (arith, common_steps)

with_salt : (n : InventoryModel) (cells salt : ℕ) → IsInventory n → are_cells cells ≡ true → salt % 2 ≡ 1 → salt < 2 ^ 64
    → IsSketch (sketch_of n (layout_with cells salt))
unfolding sketch_of
with_salt n cells salt is h odd small = record { log = is.log; parts = sketch_parts n (layout_with cells salt) is.digests (laid cells salt h odd) small }

odd_of : (w : ℕ) → (w / 2 * 2 + 1) % 2 ≡ 1
odd_of w = omega arith

small_of : (w : ℕ) → w < 2 ^ 64 → w / 2 * 2 + 1 < 2 ^ 64
small_of w h = omega (arith, h)

salt_odd : (a : ℕ) → is_salt a ≡ true → a % 2 ≡ 1
salt_odd a h = grind (arith, h)

pub asked_is : (n : InventoryModel) (cells : ℕ) (salt : Option ℕ) → IsInventory n → are_cells cells ≡ true
    → IfSome salt (λ a. (is_salt a ≡ true) × (a < 2 ^ 64)) → IsSketch (asked n cells salt)
asked_is n cells None is h given = search (rules, with_salt, odd_of, small_of, first_word_fits)
asked_is n cells (Some a) is h given = with_salt n cells a is h (salt_odd a given.0) given.1
