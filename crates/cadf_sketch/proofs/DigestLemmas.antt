-- The lines before the digest line determine an inventory's file.
use Rattle.cadf_sketch.proofs.Common.{common_steps, ◌≡◌, ◌∙◌, ℕ, List, [], ◌∷◌, ◌++◌, sym, ap, codes, arith, encode_lower, sha256, InventoryModel, with_line_feed, text_of_lines, digest_line, inventory_body, inventory_text, inventory_file, IsInventory, DoNotCollide, inventory-file-tells}

text_of_more : (ls : List (List ℕ)) (l : List ℕ) → text_of_lines (ls ++ l ∷ []) ≡ text_of_lines ls ++ with_line_feed l
text_of_more ls l = grind (arith, common_steps)

file_is : (n : InventoryModel) → inventory_file n ≡ inventory_text n ++ with_line_feed (codes "Z " ++ encode_lower (sha256 (inventory_text n)))
file_is n = text_of_more (inventory_body n) (digest_line (inventory_body n))

pub same_file : (m n : InventoryModel) → inventory_text m ≡ inventory_text n → inventory_file m ≡ inventory_file n
same_file m n e = file_is m ∙ ap (λ (t : List ℕ). t ++ with_line_feed (codes "Z " ++ encode_lower (sha256 t))) e ∙ sym (file_is n)

pub same_inventory : (m n : InventoryModel) → IsInventory m → IsInventory n → DoNotCollide m n → sha256 (inventory_text m) ≡ sha256 (inventory_text n) → m ≡ n
same_inventory m n im in_n share same = inventory-file-tells m n im in_n (same_file m n (share same))
