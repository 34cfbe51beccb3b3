-- Parts of sets as files of a folder.
use Rattle.cadf_tool.proofs.Common.{flat_map-append, ◌≡◌, ◌↔◌, Bool, false, cond, List, [], ◌∷◌, ◌++◌, Option, None, Ok, append-nil, refl, sym, ap, ◌∙◌, subst, inl, inr, flat_map, Text, Texts, Contents, Has, IsWithin, texts_total, texts_same, event_letter, begins_with, is_text, text_of_lines, with_line_feed, digest_line, body_instant, ReplicaModel, Unit, split_head, part_line, part_lines, noted_lines, replica_of_part, split_text, window, window_of, shared_key, key, part, part_keys, key_of_carrier, in_part, part_has, part_key, part-union, key_listed, written_file, Loaded, IsInput, replica_model_of, join_of, Joined, Kept, Delta, Files, End, File, is_in_part, IsByCarrier, IsResult, IsDerived, brought, brought_by, Folder, and_files, all_files, IsFolderOf, HasParts, IsTaken, IsSent, IsExchanged, Begun, Took, Exchanged, arrived, IsFolderAfter, AreFilesAfter}
use Rattle.cadf_tool.specs.Folders.{History}
use Rattle.cadf_join.specs.Sets as set
use Rattle.cadf_join.specs.laws.Sets as laws
use Rattle.cadf_join.proofs.Members as members
use Rattle.cadf_tool.proofs.Unions.{join_one}
use Rattle.cadf_tool.proofs.InputUnions.{loaded_file}
use Rattle.cadf_tool.proofs.ExchangeWithin.{result_kept}

-- ---- the text of a split

parts_text : (unit : Unit) (h : ReplicaModel) (ks : List Text) → text_of_lines (flat_map (part_lines unit h) ks)
    ≡ flat_map (λ k. with_line_feed (part_line unit k) ++ written_file (replica_of_part unit h k)) ks
parts_text unit h [] = refl
parts_text unit h (k ∷ ks) =
    flat_map-append with_line_feed (part_lines unit h k) (flat_map (part_lines unit h) ks)
    ∙ ap (λ t. text_of_lines (part_lines unit h k) ++ t) (parts_text unit h ks)

pub split_is : (unit : Unit) (h : ReplicaModel) → split_text unit h ≡ text_of_lines (split_head unit h.log)
    ++ (flat_map (λ k. with_line_feed (part_line unit k) ++ written_file (replica_of_part unit h k)) (part_keys unit h.atoms)
    ++ with_line_feed (digest_line (split_head unit h.log ++ flat_map (noted_lines unit h) (part_keys unit h.atoms))))
split_is unit h =
    let ks = part_keys unit h.atoms in
    let last = digest_line (split_head unit h.log ++ flat_map (noted_lines unit h) ks) in
    flat_map-append with_line_feed (split_head unit h.log) (flat_map (part_lines unit h) ks ++ last ∷ [])
    ∙ ap (λ t. text_of_lines (split_head unit h.log) ++ t)
    (flat_map-append with_line_feed (flat_map (part_lines unit h) ks) (last ∷ [])
    ∙ (λ i. parts_text unit h ks i ++ append-nil (with_line_feed last) i))

-- ---- a part's file

pub cut_by_carrier : (unit : Unit) (k : Text) → IsByCarrier (is_in_part unit k)
cut_by_carrier unit k q = ap (λ x. is_text x k) (key_of_carrier unit q)

pub part_derived : (unit : Unit) (log : Option Text) (files : Files) (h : ReplicaModel) (k : Text) → IsResult (Joined log files) h
    → IsDerived (Kept (is_in_part unit k) log files) (written_file (replica_of_part unit h k))
part_derived unit log files h k (ls, read, joined) = (replica_of_part unit h k, (cut_by_carrier unit k, ls, h, read, joined, refl), refl)

-- joined alone, it is the same file
pub part_joined : (cut : Texts → Bool) (log : Option Text) (files : Files) (h : ReplicaModel) (l : Loaded) → IsResult (Kept cut log files) h
    → IsInput (written_file h) l → join_of None (l ∷ []) ≡ Ok h
part_joined cut log files h l made input =
    join_one 1 l ∙ ap replica_model_of (loaded_file (written_file h) h l (result_kept (Kept cut log files) h made) refl input)

-- ---- windows

pub in_window : (unit : Unit) (k id body : Text) (rest : Texts) (s : Contents) → Has (part unit k s) (event_letter ∷ id ∷ body ∷ rest)
    ↔ (Has s (event_letter ∷ id ∷ body ∷ rest) × (window unit (body_instant body) ≡ k))
in_window unit k id body rest s =
    let q : Texts = event_letter ∷ id ∷ body ∷ rest in
    let same : key unit q ≡ window unit (body_instant body) = refl in (
      λ h. (part_has (key unit) k s q h, sym same ∙ part_key (key unit) k s q h),
      λ g. in_part (key unit) k s q g.0 (same ∙ g.1),
    )

pub in_shared : (unit : Unit) (q : Texts) (s : Contents) → begins_with event_letter q ≡ false → Has (part unit shared_key s) q ↔ Has s q
in_shared unit q s none =
    let same : key unit q ≡ shared_key = ap (λ b. cond b (window_of unit q) shared_key) none in
    (part_has (key unit) shared_key s q, λ h. in_part (key unit) shared_key s q h same)

-- ---- folders

same_sets : (s t : Contents) → IsWithin s t → IsWithin t s → s ≡ t
same_sets = laws.same_from_within texts_total texts_same

pub empty_folder : (unit : Unit) → IsFolderOf unit (λ k. End) set.empty
empty_folder unit k = same_sets _ _ (laws.IsWithin-empty _) (part_has (key unit) k set.empty)

pub split_folder : (unit : Unit) (log : Option Text) (files : Files) → IsFolderOf unit (λ k. File (Kept (is_in_part unit k) log files) End) (brought_by files)
split_folder unit log files k = laws.union-empty texts_total texts_same (part unit k (brought_by files))

module _ (unit : Unit) (log : Option Text) (files : Files) (s : Contents) (k : Text) where
  abbrev both : Contents
  both = set.union (part unit k (brought_by files)) (part unit k s)

  brought_part : (old new : Files) → brought_by old ≡ part unit k s → IsTaken unit log files old new k → brought_by new ≡ both
  brought_part old new is (inl (given, e)) =
      ap brought_by e ∙ laws.union-empty texts_total texts_same _ ∙ ap (set.union (part unit k (brought_by files))) is
  brought_part old new is (inr (inl (none, e))) =
      let empty : set.empty ≡ part unit k s = ap brought_by (sym none) ∙ is in
      ap brought_by e ∙ ap (set.union (part unit k (brought_by files))) empty
  brought_part old new is (inr (inr (none, e))) =
      ap brought_by e ∙ is ∙ sym (ap (λ t. set.union t (part unit k s)) none ∙ laws.empty-union texts_total texts_same (part unit k s))

pub taken_folder : (unit : Unit) (log : Option Text) (files : Files) (old new : Folder) (s : Contents) → IsFolderOf unit old s
    → ((k : Text) → IsTaken unit log files (old k) (new k) k) → IsFolderOf unit new (set.union (brought_by files) s)
taken_folder unit log files old new s is taken k =
    brought_part unit log files s k (old k) (new k) (is k) (taken k) ∙ sym (part-union (key unit) k (brought_by files) s)

-- ---- all files of a folder

of_both : (files more : Files) → brought_by (and_files files more) ≡ set.union (brought_by files) (brought_by more)
of_both End more = sym (laws.empty-union texts_total texts_same (brought_by more))
of_both (File m files) more =
    ap (set.union (brought m)) (of_both files more) ∙ sym (laws.union-assoc texts_total texts_same (brought m) (brought_by files) (brought_by more))

module _ (unit : Unit) (at : Folder) (s : Contents) (is : IsFolderOf unit at s) where
  in_all_files : (ks : List Text) (q : Texts) → set.Listed (key unit q) ks → Has s q → Has (brought_by (all_files at ks)) q
  in_all_files [] q l h = absurd l
  in_all_files (k ∷ ks) q (inl e) h = subst (λ t. Has t q) (sym (of_both (at k) (all_files at ks)))
      (members.in_union_left texts_total texts_same _ _ q (subst (λ t. Has t q) (sym (is k)) (in_part (key unit) k s q h e)))
  in_all_files (k ∷ ks) q (inr l) h = subst (λ t. Has t q) (sym (of_both (at k) (all_files at ks)))
      (members.in_union_right texts_total texts_same _ _ q (in_all_files ks q l h))

  of_all_files : (ks : List Text) → IsWithin (brought_by (all_files at ks)) s
  of_all_files [] q h = absurd (members.not_in_empty texts_total texts_same q h)
  of_all_files (k ∷ ks) q h =
      elim (members.of_union texts_total texts_same (brought_by (at k)) (brought_by (all_files at ks)) q (subst (λ t. Has t q) (of_both (at k) (all_files at ks)) h)) [
        | inl g ↦ part_has (key unit) k s q (subst (λ t. Has t q) (is k) g)
        | inr g ↦ of_all_files ks q g
      ]

  pub folder_together : (ks : List Text) → HasParts unit ks s → brought_by (all_files at ks) ≡ s
  folder_together ks all = same_sets _ _ (of_all_files ks) (λ q h. in_all_files ks q (all (key unit q) (key_listed (key unit) s q h)) h)

-- ---- exchanges

-- a set that is within another adds nothing to it
adds_nothing : (s t : Contents) → IsWithin s t → t ≡ set.union s t
adds_nothing s t within =
    same_sets t (set.union s t) (λ q h. members.in_union_right texts_total texts_same s t q h)
    (λ q h. elim (members.of_union texts_total texts_same s t q h) [
      | inl g ↦ within q g
      | inr g ↦ g
    ])

joined_alone : (given : Option Text) (files : Files) → brought_by (File (Joined given files) End) ≡ brought_by files
joined_alone given files = laws.union-empty texts_total texts_same (brought_by files)

joined_both : (given : Option Text) (files more : Files) → brought_by (File (Joined given (and_files files more)) End)
    ≡ set.union (brought_by files) (brought_by more)
joined_both given files more = joined_alone given (and_files files more) ∙ of_both files more

sent_brings : (theirs sent : Files) → IsSent theirs sent → brought_by sent ≡ brought_by theirs
sent_brings theirs sent (inl e) = ap brought_by e
sent_brings theirs sent (inr (means, to, e)) = ap brought_by e ∙ laws.union-empty texts_total texts_same (brought_by theirs)

exchange_brings : (theirs old new : Files) → IsExchanged theirs old new → brought_by new ≡ set.union (brought_by theirs) (brought_by old)
exchange_brings theirs old new (inl (sent, is, inl (given, e))) =
    ap brought_by e ∙ joined_both given sent old ∙ ap (λ t. set.union t (brought_by old)) (sent_brings theirs sent is)
exchange_brings theirs old new (inl (sent, is, inr (none, e))) =
    ap brought_by e ∙ sent_brings theirs sent is ∙ sym (laws.union-empty texts_total texts_same (brought_by theirs))
    ∙ ap (set.union (brought_by theirs)) (ap brought_by (sym none))
exchange_brings theirs old new (inr (within, e)) = ap brought_by e ∙ adds_nothing (brought_by theirs) (brought_by old) within

pub exchanged_folder : (unit : Unit) (theirs old new : Folder) (t s : Contents) → IsFolderOf unit theirs t → IsFolderOf unit old s
    → ((k : Text) → IsExchanged (theirs k) (old k) (new k)) → IsFolderOf unit new (set.union t s)
exchanged_folder unit theirs old new t s is was exchanged k =
    exchange_brings (theirs k) (old k) (new k) (exchanged k)
    ∙ ap (λ u. set.union u (brought_by (old k))) (is k)
    ∙ ap (set.union (part unit k t)) (was k)
    ∙ sym (part-union (key unit) k t s)

-- ---- histories

pub folder_after : (unit : Unit) (h : History) (at : Folder) → IsFolderAfter unit h at → IsFolderOf unit at (arrived h)
folder_after unit Begun at none = λ k. ap brought_by (none k) ∙ empty_folder unit k
folder_after unit (Took log files own) at (old, was, taken) = taken_folder unit log files old at (arrived own) (folder_after unit own old was) taken
folder_after unit (Exchanged other own) at (theirs, old, is, was, exchanged) =
    exchanged_folder unit theirs old at (arrived other) (arrived own) (folder_after unit other theirs is) (folder_after unit own old was) exchanged

pub files_after : (h : History) (files : Files) → AreFilesAfter h files → brought_by files ≡ arrived h
files_after Begun files none = ap brought_by none
files_after (Took log more own) files (old, was, e) =
    ap brought_by e ∙ joined_both log more old ∙ ap (set.union (brought_by more)) (files_after own old was)
files_after (Exchanged other own) files (theirs, old, is, was, given, e) =
    ap brought_by e ∙ joined_both given theirs old ∙ ap (λ t. set.union t (brought_by old)) (files_after other theirs is)
    ∙ ap (set.union (arrived other)) (files_after own old was)
