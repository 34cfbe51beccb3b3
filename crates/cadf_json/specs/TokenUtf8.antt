-- Tokens whose texts are UTF-8.
use Rattle.std.specs.Prelude.{List, IsUtf8, ⊤}
use Rattle.std.specs.List.{AllByRecursion}
use Rattle.json.specs.Token.{Token, begin_object, end_object, begin_array, end_array, key, string, number, boolean, null, bad}

-- a key and a string are UTF-8
abbrev pub HasUtf8 : Token → Type 0
HasUtf8 begin_object = ⊤
HasUtf8 end_object = ⊤
HasUtf8 begin_array = ⊤
HasUtf8 end_array = ⊤
HasUtf8 (key s) = IsUtf8 s
HasUtf8 (string s) = IsUtf8 s
HasUtf8 (number s) = ⊤
HasUtf8 (boolean b) = ⊤
HasUtf8 null = ⊤
HasUtf8 bad = ⊤

abbrev pub HaveUtf8 : List Token → Type 0
HaveUtf8 ts = AllByRecursion HasUtf8 ts
