-- Decimal numbers, and words separated by spaces.
--     number_in word            the number of 64 bits whose decimal digits are the word
--     first_word, words_after   the bytes before the first space, and those after it
use Rattle.std.specs.Prelude.{◌+◌, ◌^◌, ◌==◌, ℕ, nat_lt, List, take, drop, decimal, ◌&&◌, if◌then◌else◌, Option, Some, None}
use Rattle.std.specs.List.{position_or_len}
use Rattle.std.specs.Str.{bytes_eq}
use Rattle.std.specs.Str.Parse.{digits_value}

abbrev pub number_if : List ℕ → ℕ → Option ℕ
number_if word n = if bytes_eq word (decimal n) && nat_lt n (2 ^ 64) then Some n else None

unfoldable pub number_in : List ℕ → Option ℕ
number_in word = number_if word (digits_value 10 word)

abbrev pub first_word : List ℕ → List ℕ
first_word text = take (position_or_len (λ x. x == 32) text) text

abbrev pub words_after : List ℕ → List ℕ
words_after text = drop (position_or_len (λ x. x == 32) text + 1) text
