-- Lines that begin with a mark, a letter and a space.
--     rest_after mark line     what is after the mark. None: the line doesn't begin with it
--     number_after mark line   the number that is after it
--     digest_after mark line   the digest that is after it
use Rattle.std.specs.Prelude.{ℕ, List, length, take, drop, if◌then◌else◌, Option, Some, None, option_and_then}
use Rattle.std.specs.Str.{bytes_eq}
use Rattle.cadf_join.specs.Contents.{Text}
use Rattle.cadf_linefile.specs.Numbers.{number_in}
use Rattle.cadf_inventory.specs.InventoryVerdict.{digest_of}

unfoldable pub rest_after : List ℕ → List ℕ → Option (List ℕ)
rest_after mark line = if bytes_eq (take (length mark) line) mark then Some (drop (length mark) line) else None

unfoldable pub number_after : List ℕ → List ℕ → Option ℕ
number_after mark line = option_and_then number_in (rest_after mark line)

unfoldable pub digest_after : List ℕ → List ℕ → Option Text
digest_after mark line = option_and_then digest_of (rest_after mark line)
