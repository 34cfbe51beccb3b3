-- Nodes in two numbers.
--     place_from start length    a text of so many bytes
--     extent_with size count     so many nodes in all, and so many items
--     node_of first rest         the node that the numbers are; plain_node if it's no text, list or object
--     numbers_of node            the numbers of a node
--     EndsBelow node             the text, if the node has one, ends below 2^32
--     IsPacked first rest        the numbers are those of their node, and its text ends below 2^32
--     Spans node                 the text, if the node has one, doesn't end before it begins
use Rattle.std.specs.Prelude.{◌≡◌, ℕ, zero, suc, ◌+◌, ◌*◌, ◌-◌, ◌/◌, ◌%◌, ◌<◌, ◌≤◌, ◌^◌, ◌==◌, true, false, cond, ⊤}
use Rattle.cadf_json.specs.declared.node.Place.{Place}
use Rattle.cadf_json.specs.declared.node.Extent.{Extent}
use Rattle.cadf_json.specs.declared.node.Node.{Node}
use Rattle.cadf_json.specs.declared.node.Node.TheVariants.{Null, Bool as Truth, Whole, Fraction, Text, Array, Object}

abbrev pub place_from : ℕ → ℕ → Place
place_from start length = record { start = start; end = start + length }

abbrev pub extent_with : ℕ → ℕ → Extent
extent_with size count = record { size = size; count = count }

abbrev pub plain_node : ℕ → ℕ → Node
plain_node first zero = Null
plain_node first (suc zero) = Truth false
plain_node first (suc (suc zero)) = Truth true
plain_node first (suc (suc (suc zero))) = Fraction
plain_node first (suc (suc (suc (suc n)))) = Whole (place_from first n)

abbrev pub node_of : ℕ → ℕ → Node
node_of first rest = cond (rest % 4 == 0) (plain_node first (rest / 4)) (cond (rest % 4 == 1) (Text (place_from first (rest / 4)))
    (cond (rest % 4 == 2) (Array (extent_with first (rest / 4))) (Object (extent_with first (rest / 4)))))

abbrev pub numbers_of : Node → ℕ × ℕ
numbers_of Null = (0, 0)
numbers_of (Truth false) = (0, 4)
numbers_of (Truth true) = (0, 8)
numbers_of Fraction = (0, 12)
numbers_of (Whole p) = (p.start, 4 * (4 + (p.end - p.start)))
numbers_of (Text p) = (p.start, 4 * (p.end - p.start) + 1)
numbers_of (Array e) = (e.size, 4 * e.count + 2)
numbers_of (Object e) = (e.size, 4 * e.count + 3)

abbrev pub EndsBelow : Node → Type 0
EndsBelow (Whole p) = p.end < 2 ^ 32
EndsBelow (Text p) = p.end < 2 ^ 32
EndsBelow _ = ⊤

pub record IsPacked (first rest : ℕ) : Type 0 where
  pub are : numbers_of (node_of first rest) ≡ (first, rest)
  pub fits : EndsBelow (node_of first rest)

abbrev pub Spans : Node → Type 0
Spans (Whole p) = p.start ≤ p.end
Spans (Text p) = p.start ≤ p.end
Spans _ = ⊤
