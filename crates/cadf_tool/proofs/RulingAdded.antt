-- A further ruling: the result of `rule` for a set of atoms.
use Rattle.cadf_tool.proofs.Common.{common_steps, ◌≡◌, ◌≤◌, ◌<◌, ◌-◌, ℕ, zero, suc, Bool, true, false, inl, inr, List, [], ◌∷◌, map, length, get_or, slice_get, String, Global, string_bytes, Option, Some, Result, Ok, Err, refl, sym, ap, ◌∙◌, subst, arith, true≢false, IsTrue, is_some, filter, filter_map, Listed, rising, Text, Texts, Contents, Has, IsWithin, texts_total, texts_same, atom_rules, IsRuling, is_name_text, IsAtom, ruling_letter, IsReplicaSet, ARuling, one_atom, taken, ReplicaModel, ruling_of, RulingParts, ruling_atom, is_value_letter, is_digest_text, value_digest, strip, only, values, in_order_retain, listed_value, kept_union, ruling_kept, Some-same, hex_is_digest, sha256, ToolFault, FaultStage, Working, fault_stage, IsWorkFaultBy, IsWorked, under_log, value_at, ruling_on, ruling_for, ruling_at, with_ruling, ruled_in, sha_digest}
use Rattle.cadf_join.specs.Sets as set
use Rattle.cadf_join.specs.laws.Sets as laws
use Rattle.cadf_join.proofs.Members as members

-- ---- the value at a place

got_listed : (vs : List Text) (n : ℕ) (v : Text) → slice_get vs n ≡ Some v → Listed v vs
got_listed [] n v e = cc
got_listed (x ∷ vs) zero v e = inl (sym (Some-same x v e))
got_listed (x ∷ vs) (suc n) v e = inr (got_listed vs n v e)

at_listed : (vs : List Text) (place : ℕ) (v : Text) → value_at vs place ≡ Some v → Listed v vs
at_listed vs place v e = grind (arith, common_steps, got_listed)

-- ---- the ruling for a value in the set

-- a property of every atom of three texts
pub held_passes : (letter key v : Text) → IsAtom atom_rules (letter ∷ key ∷ v ∷ []) → IsTrue (is_value_letter letter) × IsTrue (is_name_text key)
held_passes _ key _' given = grind (arith, common_steps)

digest_is : (value : Text) → is_digest_text (value_digest value) ≡ true
digest_is value = let d = sha_digest value in hex_is_digest (sha256 value) d.size d.bytes

pub ruling_is : (letter key value : Text) → IsAtom atom_rules (letter ∷ key ∷ value ∷ []) → IsRuling (ruling_on letter key value)
ruling_is letter key value atom = grind (arith, common_steps, held_passes, digest_is)

-- ---- the result of `rule`

-- the value that is ruled, and the set with its ruling
pub record IsRuled (letter key : Text) (place : ℕ) (named : Option Text) (s : Contents) (h : ReplicaModel) : Type 0 where
  pub value : Text
  pub at_place : value_at (values s letter key) place ≡ Some value
  pub held : Has s (letter ∷ key ∷ value ∷ [])
  pub log : named ≡ Some h.log
  pub atoms : h.atoms ≡ taken s (ARuling (ruling_on letter key value))

same_held : (h k : ReplicaModel) → ◌≡◌ {A = Result ReplicaModel ToolFault} (Ok h) (Ok k) → h ≡ k
same_held h k e = cc

pub ruled_is : (letter key : Text) (place : ℕ) (named : Option Text) (s : Contents) (h : ReplicaModel)
    → ruled_in letter key place (under_log named s) ≡ Ok h → IsRuled letter key place named s h
ruled_is letter key place named s h e = grind (arith, common_steps, same_held, listed_value, at_listed)

pub ruled_kept : (letter key : Text) (place : ℕ) (named : Option Text) (s : Contents) (h : ReplicaModel) → IsReplicaSet s
    → IsRuled letter key place named s h → IsReplicaSet h.atoms
ruled_kept letter key place named s h kept r =
    let rule = ruling_on letter key r.value in
    subst IsReplicaSet (sym r.atoms)
    (kept_union s (one_atom (ruling_atom rule)) kept (ruling_kept rule (ruling_is letter key r.value (kept.are_atoms (letter ∷ key ∷ r.value ∷ []) r.held))))

-- ---- the values of every key stay the same

-- four texts are no value of a key
no_value : (l k a b c d : Text) → is_some (only (strip (l ∷ k ∷ []) (a ∷ b ∷ c ∷ d ∷ []))) ≡ false
no_value l k a b c d = grind (arith, common_steps)

kept_by : {A B : Type 0} (f : A → Option B) (xs : List A) → filter_map f (filter (λ x. is_some (f x)) xs) ≡ filter_map f xs
kept_by f [] = refl
kept_by {A} {B} f (x ∷ xs) = grind (arith, common_steps, (kept_by f xs))

-- adding what is no value of a key changes no values
module _ (s t : Contents) (l k : Text) where
  abbrev is_value : Texts → Bool
  is_value q = is_some (only (strip (l ∷ k ∷ []) q))

  same_values : ((q : Texts) → is_value q ≡ true → Has t q → Has s q) → set.retain (set.union s t) is_value ≡ set.retain s is_value
  same_values none = laws.same_from_within texts_total texts_same _ _ there back
    where
      there : IsWithin (set.retain (set.union s t) is_value) (set.retain s is_value)
      there q h =
          let passes = members.retain_passes texts_total texts_same (set.union s t) is_value q h in
          elim (members.of_union texts_total texts_same s t q (members.retain_has texts_total texts_same (set.union s t) is_value q h)) [
            | inl a ↦ members.in_retain texts_total texts_same s is_value q a passes
            | inr b ↦ members.in_retain texts_total texts_same s is_value q (none q passes b) passes
          ]

      back : IsWithin (set.retain s is_value) (set.retain (set.union s t) is_value)
      back q h =
          members.in_retain texts_total texts_same (set.union s t) is_value q
          (members.in_union_left texts_total texts_same s t q (members.retain_has texts_total texts_same s is_value q h))
          (members.retain_passes texts_total texts_same s is_value q h)

  values_of : (u : Contents) → filter_map (λ q. only (strip (l ∷ k ∷ []) q)) (rising (set.retain u is_value)) ≡ values u l k
  values_of u =
      ap (filter_map (λ q. only (strip (l ∷ k ∷ []) q))) (in_order_retain u is_value)
      ∙ kept_by (λ q. only (strip (l ∷ k ∷ []) q)) (rising u)

  values_stay : ((q : Texts) → is_value q ≡ true → Has t q → Has s q) → values (set.union s t) l k ≡ values s l k
  values_stay none =
      sym (values_of (set.union s t))
      ∙ ap (λ u. filter_map (λ q. only (strip (l ∷ k ∷ []) q)) (rising u)) (same_values none)
      ∙ values_of s

of_one : (q r : Texts) → Has (one_atom q) r → r ≡ q
of_one q r h = elim (members.from_list_has texts_total texts_same (q ∷ []) r h) [ inl is ↦ is | inr none ↦ absurd none ]

pub values_beside_rulings : (s : Contents) (r : RulingParts) (l k : Text) → values (taken s (ARuling r)) l k ≡ values s l k
values_beside_rulings s r l k =
    values_stay s (one_atom (ruling_atom r)) l k
    (λ q passes h. absurd (true≢false (sym passes ∙ ap (is_value s s l k) (of_one (ruling_atom r) q h) ∙ no_value l k ruling_letter r.letter r.key r.digest)))

-- ---- the same again

taken_twice : (s : Contents) (r : RulingParts) → taken (taken s (ARuling r)) (ARuling r) ≡ taken s (ARuling r)
taken_twice s r = laws.same_from_within texts_total texts_same _ _
    (λ q h. elim (members.of_union texts_total texts_same (taken s (ARuling r)) (one_atom (ruling_atom r)) q h) [
      | inl a ↦ a
      | inr b ↦ members.in_union_right texts_total texts_same s (one_atom (ruling_atom r)) q b
    ])
    (λ q h. members.in_union_left texts_total texts_same (taken s (ARuling r)) (one_atom (ruling_atom r)) q h)

pub ruled_again : (letter key : Text) (place : ℕ) (named : Option Text) (s : Contents) (h : ReplicaModel)
    → IsRuled letter key place named s h → ruled_in letter key place (Ok h) ≡ Ok h
ruled_again letter key place named s h r =
    let rule = ruling_on letter key r.value in
    let stay : values h.atoms letter key ≡ values s letter key = ap (λ t. values t letter key) r.atoms ∙ values_beside_rulings s rule letter key in
    let twice : taken h.atoms (ARuling rule) ≡ h.atoms = ap (λ t. taken t (ARuling rule)) r.atoms ∙ taken_twice s rule ∙ sym r.atoms in
    ap (λ vs. with_ruling h (ruling_for letter key (value_at vs place))) stay
    ∙ ap (λ found. with_ruling h (ruling_for letter key found)) r.at_place
    ∙ ap (λ t. Ok (record { log = h.log; atoms = t })) twice

-- ---- for the code

-- making the ruling of a value in the set returns it
read_is : (letter key value : Text) (r : RulingParts) → ruling_of letter key (value_digest value) ≡ Ok r → ruling_on letter key value ≡ r
read_is letter key value r e = grind (arith, common_steps)

some_at : (xs : List (String Global)) (place : ℕ) (x : String Global) → 1 ≤ place → place - 1 < length xs → x ≡ get_or xs (place - 1) x
    → value_at (map string_bytes xs) place ≡ Some (string_bytes x)
some_at xs zero x one lt at = absurd (omega (arith, one))
some_at xs (suc n) x one lt at =
    let e : suc n - 1 ≡ n = omega arith in
    there xs n (subst (λ m. m < length xs) e lt) (subst (λ m. x ≡ get_or xs m x) e at)
  where
    there : (ys : List (String Global)) (m : ℕ) → m < length ys → x ≡ get_or ys m x → slice_get (map string_bytes ys) m ≡ Some (string_bytes x)
    there [] m lt at = absurd (omega (arith, lt))
    there (y ∷ ys) zero lt at = ap (λ z. Some (string_bytes z)) (sym at)
    there (y ∷ ys) (suc m) lt at = there ys m (omega (arith, lt)) at

pub ruling_there : (s : Contents) (letter key : Text) (place : ℕ) (xs : List (String Global)) (x : String Global) (r : RulingParts)
    → map string_bytes xs ≡ values s letter key → 1 ≤ place → place - 1 < length xs → x ≡ get_or xs (place - 1) x
    → ruling_of letter key (value_digest (string_bytes x)) ≡ Ok r → ruling_at s letter key place ≡ Ok r
ruling_there s letter key place xs x r are one lt at read = grind (arith, common_steps, some_at, read_is, string_bytes)

-- a replica without such a value is refused with `NoValue`
pub ruling_refused : (h : ReplicaModel) (letter key text : Text) (place : ℕ) (fault : ToolFault) → text ≡ key
    → IsWorked (ruling_at h.atoms letter text place) (Err fault) → IsWorked (ruled_in letter key place (Ok h)) (Err fault)
ruling_refused h letter key text place fault same worked =
    at (fault_stage fault) (subst (λ (k : Text). IsWorked (ruling_at h.atoms letter k place) (Err fault)) same worked)
  where
    at : (s : FaultStage) → IsWorkFaultBy {M = RulingParts} (λ r. ruling_at h.atoms letter key place ≡ r) fault s
        → IsWorkFaultBy {M = ReplicaModel} (λ r. with_ruling h (ruling_at h.atoms letter key place) ≡ r) fault s
    at Working w = ap (with_ruling h) w
    at _ w = w
