use Rattle.cadf_sketch.proofs.Common.{◌≡◌, ◌<◌, ℕ, true, vec_len, nat_eq, list_any, ArePlaces}
use Rattle.cadf_sketch.proofs.peel.all_places.Given as goal

abbrev pub invariant-loop-place : goal.invariant-loop-place
invariant-loop-place l = ArePlaces l.count l.places.items × (vec_len l.places ≡ l.place) × ((q : ℕ) → q < l.place → list_any (nat_eq q) l.places.items ≡ true)
