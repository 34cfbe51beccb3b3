use Rattle.cadf_c.proofs.Common.{refl, rules, sym, subst, ◌∷◌, Ok, w32, to_z-of_z, IsCall, [], ◌≡◌, ◌∙◌, ℕ, List, true, false, length, nat_eq, arith, true≢false, eqb-true, is_given, if_given}
use Rattle.cadf_tool.specs.declared.request.Request.TheVariants as ask
use Rattle.cadf_c.proofs.cadf_grew.Goals as goal

none_given : (bs : List ℕ) → nat_eq (length bs) 0 ≡ true → bs ≡ []
none_given [] e = refl
none_given (b ∷ bs) e = let none : length (b ∷ bs) ≡ 0 = eqb-true (length (b ∷ bs)) 0 e in absurd (omega (arith, none))

some_given : (bs : List ℕ) → nat_eq (length bs) 0 ≡ false → (is_given bs ≡ true) × (if_given bs ≡ bs ∷ [])
some_given [] e = absurd (true≢false e)
some_given (b ∷ bs) e = (refl, refl)

pub returns-then-is_empty : goal.returns-then-is_empty
returns-then-is_empty c =
    let front = λ (l : List (List ℕ)). c.args.earlier.now.bytes.now ∷ c.args.later.now.bytes.now ∷ c.args.proof.now.bytes.now ∷ l in
    subst (λ s. IsCall (Ok (ask.Grew (is_given c.args.erased.now.bytes.now))) (front (if_given c.args.erased.now.bytes.now)) s c.args.output.now c.grew.new.output c.grew.new.length)
    (sym (to_z-of_z w32 c.grew.result (search rules)))
    (subst (λ e. IsCall (Ok (ask.Grew (is_given e))) (front (if_given e)) c.grew.result c.args.output.now c.grew.new.output c.grew.new.length)
    (sym (none_given c.args.erased.now.bytes.now (sym c.is_empty.ensures ∙ c.if-is_empty.true))) c.grew.ensures)

pub returns : goal.returns
returns c =
    let front = λ (l : List (List ℕ)). c.args.earlier.now.bytes.now ∷ c.args.later.now.bytes.now ∷ c.args.proof.now.bytes.now ∷ l in
    let given = some_given c.args.erased.now.bytes.now (sym c.is_empty.ensures ∙ c.if-is_empty.false) in
    subst (λ s. IsCall (Ok (ask.Grew (is_given c.args.erased.now.bytes.now))) (front (if_given c.args.erased.now.bytes.now)) s c.args.output.now c.grew_but.new.output c.grew_but.new.length)
    (sym (to_z-of_z w32 c.grew_but.result (search rules)))
    (subst (λ b. IsCall (Ok (ask.Grew b)) (front (if_given c.args.erased.now.bytes.now)) c.grew_but.result c.args.output.now c.grew_but.new.output c.grew_but.new.length)
    (sym given.0)
    (subst (λ l. IsCall (Ok (ask.Grew true)) (front l) c.grew_but.result c.args.output.now c.grew_but.new.output c.grew_but.new.length)
    (sym given.1) c.grew_but.ensures))
