-- Lists of texts as the nodes of an arena. A node is one text after its parent: another node, or the root, which has the number 0 and is the empty list.
--     lists ps ts                                   the lists of the nodes 1, 2, .. that have the parents ps and the texts ts
--     list_at ls n                                  the list of the node n, if ls has the lists of all nodes
--     rest_of ls d n                                the list of the node n without its first d texts
--     ParentsFirst n ps                             each parent's number is less than its child's, if the first child has the number n
--     AreNodes ps ts                                as many texts as parents, and each parent's number is less than its child's
--     last_text l                                   the last text of a list
--     IsLine ls ns l                                the nodes ns have as lists the first text, the first 2 texts, .. and all texts of l
--     last_node ns, place ls ns                     the last of the nodes, or the root if there is none, and its list
--     IsThere ls n, AreThere ls ns, lists_at ls ns  the node exists, the nodes exist, and the lists of the nodes
--     Agree n a b                                   both lists have n texts or more, and the same first n
--     IsClimb ls up l d                             the nodes up have as lists l, l without its last text, .. down to d + 1 texts
--     shared a b                                    the length of the longest common prefix of two lists
use Rattle.std.specs.Prelude.{◌≡◌, ℕ, ◌+◌, ◌-◌, ◌<◌, ◌≤◌, List, [], ◌∷◌, ◌++◌, length, take, drop, get_or, map}
use Rattle.std.specs.List.{AllByRecursion}
use Rattle.std.specs.Ordering.{match_ordering}
use Rattle.cadf_join.specs.Contents.{Text, Texts, text_cmp}

abbrev pub list_at : List Texts → ℕ → Texts
list_at ls n = get_or ([] ∷ ls) n []

abbrev pub rest_of : List Texts → ℕ → ℕ → Texts
rest_of ls d n = drop d (list_at ls n)

unfoldable pub lists_from : List Texts → List ℕ → Texts → List Texts
lists_from known [] ts = known
lists_from known (p ∷ ps) [] = known
lists_from known (p ∷ ps) (t ∷ ts) = lists_from (known ++ (list_at known p ++ t ∷ []) ∷ []) ps ts

abbrev pub lists : List ℕ → Texts → List Texts
lists ps ts = lists_from [] ps ts

unfoldable pub ParentsFirst : ℕ → List ℕ → Type 0
ParentsFirst n [] = Unit {0}
ParentsFirst n (p ∷ ps) = (p < n) × ParentsFirst (n + 1) ps

pub record AreNodes (ps : List ℕ) (ts : Texts) : Type 0 where
  pub as_many : length ps ≡ length ts
  pub parents_first : ParentsFirst 1 ps

abbrev pub last_text : Texts → Text
last_text l = get_or l (length l - 1) []

abbrev pub last_node : List ℕ → ℕ
last_node ns = get_or (0 ∷ ns) (length ns) 0

abbrev pub place : List Texts → List ℕ → Texts
place ls ns = list_at ls (last_node ns)

abbrev pub lists_at : List Texts → List ℕ → List Texts
lists_at ls ns = map (list_at ls) ns

abbrev pub IsThere : List Texts → ℕ → Type 0
IsThere ls n = n ≤ length ls

abbrev pub AreThere : List Texts → List ℕ → Type 0
AreThere ls ns = AllByRecursion (IsThere ls) ns

pub record IsLine (ls : List Texts) (ns : List ℕ) (l : Texts) : Type 0 where
  pub long : length ns ≡ length l
  pub held : (i : ℕ) → i < length ns → get_or ns i 0 ≤ length ls
  pub stands : (i : ℕ) → i < length ns → list_at ls (get_or ns i 0) ≡ take (i + 1) l

pub record Agree (n : ℕ) (a b : Texts) : Type 0 where
  pub ours : n ≤ length a
  pub theirs : n ≤ length b
  pub same : take n a ≡ take n b

pub record IsClimb (ls : List Texts) (up : List ℕ) (l : Texts) (d : ℕ) : Type 0 where
  pub long : length up + d ≡ length l
  pub held : (i : ℕ) → i < length up → get_or up i 0 ≤ length ls
  pub stands : (i : ℕ) → i < length up → list_at ls (get_or up i 0) ≡ take (length l - i) l

abbrev pub shared : Texts → Texts → ℕ
shared [] b = 0
shared (t ∷ a) [] = 0
shared (t ∷ a) (u ∷ b) = match_ordering (text_cmp t u) 0 (shared a b + 1) 0
