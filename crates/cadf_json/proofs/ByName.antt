-- Members that are put in the order of their names: the entry of each.
use Rattle.cadf_json.proofs.Common.{◌≡◌, ℕ, ◌≤◌, List, [], ◌∷◌, ◌++◌, length, refl, sym, ap, ◌∙◌, subst, arith, Ordering, Less, Equal, Greater, nat_cmp, match_ordering, slice_cmp, Data, Members, no_members, member, put, Node, Named, FirstMember, MembersStand, put_all, Entry, AreNamed, put_named, IsFirstMember}
use Rattle.std.specs.FinMap.Entries as entries
use Rattle.cadf_json.proofs.Firsts.{no_member}
use Rattle.cadf_json.proofs.Splits.{same_name}

abbrev pub name_cmp : List ℕ → List ℕ → Ordering
name_cmp = slice_cmp nat_cmp

pub put_named_push : (ps : List Named) (p : Named) (es : List Entry) → put_named (ps ++ p ∷ []) es ≡ entries.put name_cmp p.name p (put_named ps es)
put_named_push [] p es = refl
put_named_push (q ∷ ps) p es = put_named_push ps p (entries.put name_cmp q.name q es)

module _ (t : List ℕ) (n : ℕ) where
  named_either : (o : Ordering) (es fs gs : List Entry) (ms ns os : Members) → (o ≡ Less → AreNamed t n es ms) → (o ≡ Equal → AreNamed t n fs ns)
      → (o ≡ Greater → AreNamed t n gs os) → AreNamed t n (entries.by_order o es fs gs) (match_ordering o ms ns os)
  named_either Less es fs gs ms ns os a b c = a refl
  named_either Equal es fs gs ms ns os a b c = b refl
  named_either Greater es fs gs ms ns os a b c = c refl

  named_put : (es : List Entry) (ms : Members) (k : List ℕ) (p : Named) (d : Data) → AreNamed t n es ms
      → MembersStand t (member k d no_members) p.nodes.now → length p.nodes.now ≤ n → AreNamed t n (entries.put name_cmp k p es) (put k d ms)
  named_put [] no_members k p d h at within = (refl, at, within, tt)
  named_put [] (member l f ms) k p d h at within = absurd h
  named_put (e ∷ es) no_members k p d h at within = absurd h
  named_put (e ∷ es) (member l f ms) k p d h at within =
      let here = subst (λ m. MembersStand t (member m f no_members) e.1.nodes.now) (sym h.0) h.1 in
      subst (λ name. AreNamed t n (entries.put name_cmp k p (e ∷ es)) (put k d (member name f ms))) h.0
      (named_either (name_cmp k e.0) _ _ _ _ _ _ (λ o. (refl, at, within, (refl, here, h.2, h.3)))
      (λ o. (refl, subst (λ m. MembersStand t (member m d no_members) p.nodes.now) (same_name k e.0 o) at, within, h.3))
      (λ o. (refl, here, h.2, named_put es ms k p d h.3 at within)))

  -- ---- one after another

  pub record Naming (es : List Entry) (rest : List Node) (ms : Members) : Type 0 where
    pub left : Members
    pub before : Members
    pub named : AreNamed t n es before
    pub puts : put_all left before ≡ put_all ms no_members
    pub stands : MembersStand t left rest
    pub within : length rest ≤ n

  pub naming_start : (es : List Entry) (nodes : List Node) (ms : Members) → es ≡ [] → MembersStand t ms nodes → length nodes ≤ n → Naming es nodes ms
  naming_start es nodes ms none h within =
      record { left = ms; before = no_members; named = subst (λ fs. AreNamed t n fs no_members) (sym none) tt; puts = refl; stands = h; within = within }

  pub naming_more : (es : List Entry) (rest : List Node) (ms : Members) (k : List ℕ) (d : Data) (later : Members) (f : FirstMember) (p : Named)
      → (g : Naming es rest ms) → g.left ≡ member k d later → IsFirstMember t rest k d later f → p.nodes.now ≡ f.nodes.now
      → Naming (entries.put name_cmp f.name.now p es) f.rest.now ms
  naming_more es rest ms k d later f p g is m same =
      let bound = g.within in
      let within = m.within in
      let shorter = m.shorter in
      let long = ap length same in
      record {
        left = later;
        before = put f.name.now d g.before;
        named = named_put es g.before f.name.now p d g.named
            (subst (λ l. MembersStand t (member l d no_members) p.nodes.now) (sym m.name_is) (subst (MembersStand t (member k d no_members)) (sym same) m.one))
            (omega (arith, bound, within, long));
        puts = ap (λ l. put_all later (put l d g.before)) m.name_is ∙ ap (λ ns. put_all ns g.before) (sym is) ∙ g.puts;
        stands = m.rest;
        within = omega (arith, bound, shorter);
      }

  pub naming_over : (es : List Entry) (rest : List Node) (ms : Members) → length rest ≡ 0 → Naming es rest ms → AreNamed t n es (put_all ms no_members)
  naming_over es rest ms none g =
      subst (AreNamed t n es) (ap (λ ns. put_all ns g.before) (sym (no_member t rest g.left none g.stands)) ∙ g.puts) g.named
