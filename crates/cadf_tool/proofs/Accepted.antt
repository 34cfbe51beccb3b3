-- Bytes that a run accepted.
use Rattle.cadf_tool.proofs.Common.{◌≡◌, ℕ, List, [], ◌∷◌, map, take, drop, length, ◌-◌, Some, IfSome, refl, subst, Consumes-whole, Loaded, Request, IsInput, SourceState, input_spec, IsReadAs, AreLoaded, task, AreOutside, AreAccepted, externals, AreSources}
use Rattle.cadf_tool.specs.declared.request.Request.TheVariants as ask
use Rattle.cadf_tool.proofs.LoadedLists.{head_same, tail_same, no_tail, no_head}

input_read : (o n : SourceState) (bytes : List ℕ) (l : Loaded) → o.left ≡ Some bytes → IsReadAs input_spec (record { old = o; new = n }) l → IsInput bytes l
input_read o n bytes l left ((given, (consumed, at_end, encodes)), failures) =
    subst (λ x. IfSome x (λ b. IsInput b l)) left (Consumes-whole o.left n.left given (λ b. IsInput b l) consumed at_end encodes)

outside : (os ns : List SourceState) (files : List (List ℕ)) (ls : List Loaded) → map (λ (s : SourceState). s.left) os ≡ map Some files
    → AreLoaded os ns ls → AreSources (externals files ls) os
outside [] [] [] [] e h = tt
outside [] [] (b ∷ bs) ls e h = absurd (no_tail (Some b) (map Some bs) e)
outside (o ∷ os) (n ∷ ns) [] (l ∷ ls) e h = absurd (no_head o.left (map (λ (s : SourceState). s.left) os) e)
outside (o ∷ os) (n ∷ ns) (b ∷ bs) (l ∷ ls) e h =
    let lefts = map (λ (s : SourceState). s.left) os in
    let left = head_same o.left (Some b) lefts (map Some bs) e in
    ((b, left, (refl, input_read o n b l left h.0)), outside os ns bs ls (tail_same o.left (Some b) lefts (map Some bs) e) h.1)
outside _ _ _ _ e h = absurd h

all_outside : (os ns : List SourceState) (ls : List Loaded) → AreLoaded os ns ls → AreOutside os
all_outside os ns ls are given left = (ls, outside os ns given ls left are)

pub accepted : (q : Request) (old new : List SourceState) (value : (task q).Read) → ((task q).sources old new).are value → AreAccepted q old
accepted (ask.Join log) old new ls are = all_outside old new ls are
accepted (ask.Split unit log) old new ls are = all_outside old new ls are
accepted (ask.Missing from) old new (ls, ks) are =
    (all_outside (take from old) (take from new) ls are.0, all_outside (drop from old) (drop from new) ks are.1)
accepted ask.MissingBy old new (ls, noted) are = let n = length old - 1 in all_outside (take n old) (take n new) ls are.0
accepted ask.Inventory old new ls are = all_outside old new ls are
accepted (ask.Sketch cells salt) old new ls are = all_outside old new ls are
accepted ask.MissingBySketch old new (ls, sketch) are = let n = length old - 1 in all_outside (take n old) (take n new) ls are.0
accepted ask.Sealed old new ls are = all_outside old new ls are
accepted ask.Omit old new (list, ls) are = all_outside (drop 1 old) (drop 1 new) ls are.1
accepted ask.Seal old new ls are = all_outside old new ls are
accepted (ask.Rule letter key place) old new ls are = all_outside old new ls are
accepted (ask.Show conflicts) old new ls are = all_outside old new ls are
accepted ask.Check old new ls are = all_outside old new ls are
accepted _ old new value are = tt
