-- Items that are visited one after another as they are read.
use Rattle.cadf_json.proofs.Common.{common_steps, ◌≡◌, ℕ, ◌-◌, ◌<◌, ◌≤◌, List, [], ◌∷◌, ◌++◌, length, false, Option, Some, None, refl, sym, ap, ◌∙◌, subst, arith, or_parts, Token, Parse, parse_map, after_end_array, items, Data, Items, no_items, item, of_json, of_items, converted, has_float, items_have_float, to_list, AreTaken}
use Rattle.json.specs.Json as json
use Rattle.cadf_json.proofs.Turns.{item_read, items_over}

abbrev pub followed : Items → Items → Items
followed no_items rest = rest
followed (item d ds) rest = item d (followed ds rest)

pub followed-none : (ds : Items) → followed ds no_items ≡ ds
followed-none no_items = refl
followed-none (item d ds) = ap (item d) (followed-none ds)

-- the items followed by e
abbrev pub with_last : Data → Items → Items
with_last e no_items = item e no_items
with_last e (item d ds) = item d (with_last e ds)

pub followed-last : (ds : Items) (d : Data) (rest : Items) → followed ds (item d rest) ≡ followed (with_last d ds) rest
followed-last no_items d rest = refl
followed-last (item e ds) d rest = ap (item e) (followed-last ds d rest)

pub further : (ds : Items) (d : Data) (r : Option (Items × List Token)) → parse_map (followed ds) (parse_map (item d) r)
    ≡ parse_map (followed (with_last d ds)) r
further ds d r = grind (arith, common_steps, followed-last)

to_list-last : (ds : Items) (d : Data) → to_list (with_last d ds) ≡ to_list ds ++ d ∷ []
to_list-last no_items d = refl
to_list-last (item e ds) d = ap (λ es. e ∷ es) (to_list-last ds d)

float-last : (ds : Items) (d : Data) → items_have_float ds ≡ false → has_float d ≡ false → items_have_float (with_last d ds) ≡ false
float-last no_items d h k = rw k refl
float-last (item e ds) d h k =
    let both = or_parts (has_float e) (items_have_float ds) h in
    rw (both.0, float-last ds d both.1 k) refl

pub parsed_none : (r : Option (Items × List Token)) → r ≡ parse_map (followed no_items) r
parsed_none r = grind (arith, common_steps)

-- the items that were taken so far
pub record Passing {T : Type 0} (took : T → List Data → Type 0) (t : T) (p : Parse json.Json) (start now : List Token) : Type 0 where
  pub bound : ℕ
  pub enough : length now ≤ bound
  pub taken : Items
  pub are_taken : AreTaken took t taken
  pub left : converted of_items (items p (length start) start) ≡ parse_map (followed taken) (converted of_items (items p bound now))
  pub shorter : length now ≤ length start

module _ {T : Type 0} (took : T → List Data → Type 0) (p : Parse json.Json) (start : List Token) where
  pub passing_start : (t : T) → took t [] → Passing took t p start start
  passing_start t none = record {
    bound = length start;
    enough = omega arith;
    taken = no_items;
    are_taken = (refl, none);
    left = parsed_none _;
    shorter = omega arith;
  }

  pub passing_more : (old new : T) (now r : List Token) (d : Data) → Passing took old p start now → after_end_array now ≡ None
      → converted of_json (p now) ≡ Some (d, r)
      → has_float d ≡ false → length r < length now → ((ds : List Data) → took old ds → took new (ds ++ d ∷ [])) → Passing took new p start r
  passing_more old new now r d h going read whole less step =
      let enough = h.enough in
      let shorter = h.shorter in
      record {
        bound = h.bound - 1;
        enough = omega (arith, enough, less);
        taken = with_last d h.taken;
        are_taken = (float-last h.taken d h.are_taken.0 whole, subst (took new) (sym (to_list-last h.taken d)) (step (to_list h.taken) h.are_taken.1));
        left = h.left ∙ ap (parse_map (followed h.taken)) (item_read p h.bound now r d (omega (arith, enough, less)) going read) ∙ further h.taken d _;
        shorter = omega (arith, shorter, less);
      }

  pub passing_over : (t : T) (now r : List Token) → Passing took t p start now → after_end_array now ≡ Some r
      → (ds : Items) × (AreTaken took t ds × (converted of_items (items p (length start) start) ≡ Some (ds, r)))
  passing_over t now r h over = (
    h.taken,
    (h.are_taken, h.left ∙ ap (parse_map (followed h.taken)) (items_over p h.bound now r h.enough over) ∙ ap (λ es. Some (es, r)) (followed-none h.taken)),
  )
