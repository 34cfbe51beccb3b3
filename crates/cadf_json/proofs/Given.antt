-- Properties of an optional value, if there is one.
use Rattle.cadf_json.proofs.Common.{common_steps, Option, Some, None, option_map, option_and_then, arith, ⊤}

-- the value, if there is one, has the property
abbrev pub Given : {A : Type 0} → (A → Type 0) → Option A → Type 0
Given P None = ⊤
Given P (Some a) = P a

pub Given-same : {A : Type 0} (P Q : A → Type 0) → ((a : A) → P a → Q a) → (o : Option A) → Given P o → Given Q o
Given-same P Q step o h = grind (arith, common_steps)

pub Given-map : {A B : Type 0} (P : A → Type 0) (Q : B → Type 0) (f : A → B) → ((a : A) → P a → Q (f a)) → (o : Option A) → Given P o → Given Q (option_map f o)
Given-map P Q f step o h = grind (arith, common_steps)

pub Given-and_then : {A B : Type 0} (P : A → Type 0) (Q : B → Type 0) (f : A → Option B) → ((a : A) → P a → Given Q (f a)) → (o : Option A) → Given P o
    → Given Q (option_and_then f o)
Given-and_then P Q f step o h = grind (arith, common_steps)
