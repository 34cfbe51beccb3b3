-- The lines that describe each site.
use Rattle.cadf_tool.proofs.Common.{common_steps, arith, ◌≡◌, Bool, true, refl, ◌&&◌, ◌↔◌, IsTrue, Contents, subset-from_IsWithin, IsWithin-from_subset, texts_total, contents_same, is_text, ReplicaModel, bytes_decides, is_same}
use Rattle.cadf_join.specs.Sets as set

all_three : (a b c : Bool) → (a && (b && c)) ≡ true → (a ≡ true) × (b ≡ true) × (c ≡ true)
all_three a b c e = grind (arith, common_steps)

one_value : (a b : Bool) → (a ≡ true → b ≡ true) → (b ≡ true → a ≡ true) → a ≡ b
one_value a b f g = grind (arith, common_steps)

one_set : (s t : Contents) → set.is_subset s t ≡ true → set.is_subset t s ≡ true → s ≡ t
one_set s t h k =
    contents_same s t (λ q. one_value (set.contains s q) (set.contains t q) (IsWithin-from_subset texts_total s t h q)
    (IsWithin-from_subset texts_total t s k q))

same_is : (h k : ReplicaModel) → is_same h k ≡ true → h ≡ k
same_is h k e =
    let p = all_three (is_text h.log k.log) (set.is_subset h.atoms k.atoms) (set.is_subset k.atoms h.atoms) e in
    let logs = (bytes_decides h.log k.log).0 p.0 in
    let sets = one_set h.atoms k.atoms p.1 p.2 in
    λ i. record { log = logs i; atoms = sets i }

same_itself : (h : ReplicaModel) → is_same h h ≡ true
same_itself h =
    (λ i. (bytes_decides h.log h.log).1 refl i && (within i && within i))
  where
    within : set.is_subset h.atoms h.atoms ≡ true
    within = subset-from_IsWithin texts_total h.atoms h.atoms (λ q w. w)

-- the test of whether two sites are the same decides the definition
pub decided : (r : Bool) (h k : ReplicaModel) → (IsTrue r ↔ (h ≡ k)) → r ≡ is_same h k
decided r h k w = grind (arith, common_steps, same_itself, same_is)
