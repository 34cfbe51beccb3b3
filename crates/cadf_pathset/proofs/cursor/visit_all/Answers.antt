use Rattle.cadf_pathset.proofs.Common.{common_steps, ◌≡◌, ◌++◌, ◌∷◌, [], Some, ap, sym, subst, ◌∙◌, take, length, arith, append-nil, length-map, take_all, continued, texts_at, shown_at_first, shown_more, shown_stops_in, Agree, Advances}
use Rattle.cadf_join.proofs.Outcome as outcome
use Rattle.cadf_pathset.proofs.Replaced.{agrees_next, fits_path, front_is, keeps_behind, keeps_first, keeps_whole, reaches, shares_front}
use Rattle.cadf_pathset.proofs.cursor.visit_all.Goals as goal

pub loop-cursor-init : goal.loop-cursor-init
loop-cursor-init g c = grind (arith, common_steps, take_all, append-nil, shown_at_first, keeps_first)

pub replace_after-requires-clause-within : goal.replace_after-requires-clause-within
replace_after-requires-clause-within g c =
    let p = texts_at c.args.path.now.items in
    let all = texts_at c.loop-cursor.path.items in
    let n = c.in-Some.shared in
    let moved : Advances (Some n) c.loop-cursor.cursor c.advance.new.self =
    subst (λ o. Advances o c.loop-cursor.cursor c.advance.new.self) c.in-Some.is c.in_ok-shared.ensures in
    let long = c.len-before.ensures ∙ c.args.path.now.ok.0 in
    let before : c.len-before.result ≡ length p = long ∙ sym (length-map c.args.path.now.items (λ t. t.now)) in
    let agree = subst (λ z. Agree n z c.loop-cursor.cursor.0) (sym c.path.ensures) (agrees_next n c.loop-cursor.cursor c.advance.new.self moved) in
    let fits = agree.ours in
    let m = length-map c.path.result.now (λ t. t.now) in
    omega (arith, fits, m)

pub replace_after-requires-clause-there : goal.replace_after-requires-clause-there
replace_after-requires-clause-there g c =
    let p = texts_at c.args.path.now.items in
    let all = texts_at c.loop-cursor.path.items in
    let n = c.in-Some.shared in
    let moved : Advances (Some n) c.loop-cursor.cursor c.advance.new.self =
    subst (λ o. Advances o c.loop-cursor.cursor c.advance.new.self) c.in-Some.is c.in_ok-shared.ensures in
    let long = c.len-before.ensures ∙ c.args.path.now.ok.0 in
    let before : c.len-before.result ≡ length p = long ∙ sym (length-map c.args.path.now.items (λ t. t.now)) in
    let agree = subst (λ z. Agree n z c.loop-cursor.cursor.0) (sym c.path.ensures) (agrees_next n c.loop-cursor.cursor c.advance.new.self moved) in
    let fits = reaches all p c.loop-cursor.cursor.0 (texts_at c.path.result.now) c.len-before.result n before c.loop-cursor.invariant.list agree in
    let m = length-map c.loop-cursor.path.items (λ t. t.now) in
    omega (arith, fits, m)

pub replace_after-requires-clause-same : goal.replace_after-requires-clause-same
replace_after-requires-clause-same g c = grind (arith, common_steps, length-map, agrees_next, shares_front, front_is)

pub overflow_add-common : goal.overflow_add-common
overflow_add-common g c =
    let p = texts_at c.args.path.now.items in
    let n = c.in-Some.shared in
    let moved : Advances (Some n) c.loop-cursor.cursor c.advance.new.self =
    subst (λ o. Advances o c.loop-cursor.cursor c.advance.new.self) c.in-Some.is c.in_ok-shared.ensures in
    let long = c.len-before.ensures ∙ c.args.path.now.ok.0 in
    let before : c.len-before.result ≡ length p = long ∙ sym (length-map c.args.path.now.items (λ t. t.now)) in
    let front = front_is (texts_at c.loop-cursor.path.items) p c.loop-cursor.cursor.0 c.len-before.result before c.loop-cursor.invariant.list in
    let longer = c.in_ok-replace_after.ensures.list ∙ (λ i. front i ++ c.path.ensures i) in
    let fits = fits_path c.as_slice.result.now p c.advance.new.self.0 c.loop-cursor.cursor.0 c.len-before.result c.loop-cursor.common n before
    c.loop-cursor.invariant.common (ap texts_at c.as_slice.ensures.value ∙ longer) (agrees_next n c.loop-cursor.cursor c.advance.new.self moved) in
    let same = ap length c.as_slice.ensures.value in
    omega (arith, fits, same, c.replace_after.new.path.ok.0, c.replace_after.new.path.ok.1, c.replace_after.new.path.small)

pub visit-requires-clause-within : goal.visit-requires-clause-within
visit-requires-clause-within g c =
    let p = texts_at c.args.path.now.items in
    let n = c.in-Some.shared in
    let moved : Advances (Some n) c.loop-cursor.cursor c.advance.new.self =
    subst (λ o. Advances o c.loop-cursor.cursor c.advance.new.self) c.in-Some.is c.in_ok-shared.ensures in
    let long = c.len-before.ensures ∙ c.args.path.now.ok.0 in
    let before : c.len-before.result ≡ length p = long ∙ sym (length-map c.args.path.now.items (λ t. t.now)) in
    let front = front_is (texts_at c.loop-cursor.path.items) p c.loop-cursor.cursor.0 c.len-before.result before c.loop-cursor.invariant.list in
    let longer = c.in_ok-replace_after.ensures.list ∙ (λ i. front i ++ c.path.ensures i) in
    fits_path c.as_slice.result.now p c.advance.new.self.0 c.loop-cursor.cursor.0 c.len-before.result c.loop-cursor.common n before
    c.loop-cursor.invariant.common (ap texts_at c.as_slice.ensures.value ∙ longer) (agrees_next n c.loop-cursor.cursor c.advance.new.self moved)

pub visit-requires-clause-keeps : goal.visit-requires-clause-keeps
visit-requires-clause-keeps g c = grind (arith, common_steps, length-map, front_is, agrees_next)

pub loop-cursor-preserved : goal.loop-cursor-preserved
loop-cursor-preserved g c =
    let p = texts_at c.args.path.now.items in
    let all = texts_at c.loop-cursor.path.items in
    let n = c.in-Some.shared in
    let moved : Advances (Some n) c.loop-cursor.cursor c.advance.new.self =
    subst (λ o. Advances o c.loop-cursor.cursor c.advance.new.self) c.in-Some.is c.in_ok-shared.ensures in
    let long = c.len-before.ensures ∙ c.args.path.now.ok.0 in
    let before : c.len-before.result ≡ length p = long ∙ sym (length-map c.args.path.now.items (λ t. t.now)) in
    let front = front_is all p c.loop-cursor.cursor.0 c.len-before.result before c.loop-cursor.invariant.list in
    let longer = c.in_ok-replace_after.ensures.list ∙ (λ i. front i ++ c.path.ensures i) in
    record {
      path = ap (λ k. take k c.replace_after.new.path.items) (sym long) ∙ c.in_ok-replace_after.ensures.kept
          ∙ ap (λ k. take k c.loop-cursor.path.items) long ∙ c.loop-cursor.invariant.path;
      list = longer;
      shown = shown_more g.S.Visitor.takes g.met.S.Visitor.takes_more c.args.visitor.now c.loop-cursor.visitor c.visit.new.self
          (continued p c.loop-cursor.cursor.1) ((p ++ c.advance.new.self.0) ∷ []) (continued p c.advance.new.self.1) _
          (ap (continued p) moved.0) c.loop-cursor.invariant.shown
          (subst (λ x. g.S.Visitor.takes c.loop-cursor.visitor (x ∷ []) c.visit.new.self) (ap texts_at c.as_slice.ensures.value ∙ longer)
          c.in_ok-visit.ensures.ok);
      common = omega arith;
      keeps = λ list n next. keeps_behind (g.S.Visitor.keeps c.visit.new.self) p c.advance.new.self.0 c.len-before.result before
          (g.met.S.Visitor.keeps_shared c.visit.new.self (p ++ c.advance.new.self.0))
          (keeps_whole (g.S.Visitor.keeps c.visit.new.self) c.as_slice.result.now (p ++ c.advance.new.self.0)
          (ap texts_at c.as_slice.ensures.value ∙ longer) c.in_ok-visit.ensures.keeps) list n next;
    }

pub returns-in_err-visit-clause-stopped : goal.returns-in_err-visit-clause-stopped
returns-in_err-visit-clause-stopped g c =
    let p = texts_at c.args.path.now.items in
    let all = texts_at c.loop-cursor.path.items in
    let n = c.in-Some.shared in
    let moved : Advances (Some n) c.loop-cursor.cursor c.advance.new.self =
    subst (λ o. Advances o c.loop-cursor.cursor c.advance.new.self) c.in-Some.is c.in_ok-shared.ensures in
    let long = c.len-before.ensures ∙ c.args.path.now.ok.0 in
    let before : c.len-before.result ≡ length p = long ∙ sym (length-map c.args.path.now.items (λ t. t.now)) in
    let front = front_is all p c.loop-cursor.cursor.0 c.len-before.result before c.loop-cursor.invariant.list in
    let longer = c.in_ok-replace_after.ensures.list ∙ (λ i. front i ++ c.path.ensures i) in
    outcome.if_err_from c.from_residual-in_err-visit.result _
    (λ f is. shown_stops_in g.S.Visitor.takes g.S.Visitor.stops g.met.S.Visitor.stops_later g.met.S.Visitor.stops_before
    c.args.visitor.now c.loop-cursor.visitor c.visit.new.self
    (continued p c.loop-cursor.cursor.1) ((p ++ c.advance.new.self.0) ∷ []) (continued p c.advance.new.self.1) _ f
    (ap (continued p) moved.0) c.loop-cursor.invariant.shown
    (subst (λ x. g.S.Visitor.stops c.loop-cursor.visitor (x ∷ []) f c.visit.new.self) (ap texts_at c.as_slice.ensures.value ∙ longer)
    (subst (λ e. g.S.Visitor.stops c.loop-cursor.visitor (texts_at c.as_slice.result.now ∷ []) e c.visit.new.self) (sym is) c.in_err-visit.ensures.err)))
    c.from_residual-in_err-visit.ensures.1

pub returns-clause-path : goal.returns-clause-path
returns-clause-path g c = grind (arith, common_steps)

pub returns-clause-shown : goal.returns-clause-shown
returns-clause-shown g c = grind (arith, common_steps)
