-- A folder: the files of the parts of one set, at most one for each window of time and one for the atoms that are in none.
--     all_files at keys        the files of a folder, in the order of the keys of their parts
--     IsFolderOf unit at s     the file of each part brought that part of s
--     IsTaken unit log files old new k    a take of files has made these of the part's files: its split joined with them
--     IsExchanged theirs old new          an exchange has made these of a part's files: what the other site sent of its part, joined with them
--     arrived h                all that came to a site in the history h, or to the sites that it heard of that from
--     IsFolderAfter unit h at  the folder of the site after it, if each take is split, and each exchange goes part by part
--     AreFilesAfter h files    its file after it, if the site has one, which whole files are joined with
use Rattle.std.specs.Prelude.{◌≡◌, ◌⊎◌, List, [], ◌∷◌, Option}
use Rattle.cadf_join.specs.Sets as set
use Rattle.cadf_join.specs.Sets.{Listed}
use Rattle.cadf_join.specs.Contents.{Text, Contents, IsWithin}
use Rattle.cadf_split.specs.declared.unit.Unit.{Unit}
use Rattle.cadf_split.specs.Windows.{part, part_keys}
use Rattle.cadf_tool.specs.Exchange.{Means, Joined, Kept, Delta, Files, End, File, is_in_part, brought_by}

-- the files of each part, by its key: one, or none
abbrev pub Folder : Type 0
Folder = Text → Files

abbrev pub and_files : Files → Files → Files
and_files End more = more
and_files (File m files) more = File m (and_files files more)

abbrev pub all_files : Folder → List Text → Files
all_files at [] = End
all_files at (k ∷ ks) = and_files (at k) (all_files at ks)

abbrev pub IsFolderOf : Unit → Folder → Contents → Type 0
IsFolderOf unit at s = (k : Text) → brought_by (at k) ≡ part unit k s

-- each part with an atom is among the keys
abbrev pub HasParts : Unit → List Text → Contents → Type 0
HasParts unit keys s = (k : Text) → Listed k (part_keys unit s) → Listed k keys

-- the part of the new files' split is joined with the part's file, or becomes that, or there is none
abbrev pub IsTaken : Unit → Option Text → Files → (old new : Files) → Text → Type 0
IsTaken unit log files old new k =
    ((given : Option Text) × (new ≡ File (Joined given (File (Kept (is_in_part unit k) log files) old)) End))
    ⊎ ((old ≡ End) × (new ≡ File (Kept (is_in_part unit k) log files) End))
    ⊎ ((part unit k (brought_by files) ≡ set.empty) × (new ≡ old))

-- ---- exchanges

-- the files are sent themselves, or a delta of them, whatever it was computed against
abbrev pub IsSent : (theirs sent : Files) → Type 0
IsSent theirs sent = (sent ≡ theirs) ⊎ ((means : Means) × (to : Files) × (sent ≡ File (Delta means theirs to) End))

-- what was sent is joined with the part's file, or becomes that, or nothing is, since the other site has no more
abbrev pub IsExchanged : (theirs old new : Files) → Type 0
IsExchanged theirs old new =
    ((sent : Files) × IsSent theirs sent × (((given : Option Text) × (new ≡ File (Joined given (and_files sent old)) End)) ⊎ ((old ≡ End) × (new ≡ sent))))
    ⊎ (IsWithin (brought_by theirs) (brought_by old) × (new ≡ old))

-- the last comes first: the other site of an exchange has its own history till then
pub data History : Type 0 where
  Begun : History
  Took : Option Text → Files → History → History
  Exchanged : (other own : History) → History

abbrev pub arrived : History → Contents
arrived Begun = set.empty
arrived (Took log files own) = set.union (brought_by files) (arrived own)
arrived (Exchanged other own) = set.union (arrived other) (arrived own)

abbrev pub IsFolderAfter : Unit → History → Folder → Type 0
IsFolderAfter unit Begun at = (k : Text) → at k ≡ End
IsFolderAfter unit (Took log files own) at = (old : Folder) × IsFolderAfter unit own old × ((k : Text) → IsTaken unit log files (old k) (at k) k)
IsFolderAfter unit (Exchanged other own) at = (theirs : Folder) × (old : Folder) × IsFolderAfter unit other theirs × IsFolderAfter unit own old
    × ((k : Text) → IsExchanged (theirs k) (old k) (at k))

abbrev pub AreFilesAfter : History → Files → Type 0
AreFilesAfter Begun files = files ≡ End
AreFilesAfter (Took log more own) files = (old : Files) × AreFilesAfter own old × (files ≡ File (Joined log (and_files more old)) End)
AreFilesAfter (Exchanged other own) files = (theirs : Files) × (old : Files) × AreFilesAfter other theirs × AreFilesAfter own old
    × (given : Option Text) × (files ≡ File (Joined given (and_files theirs old)) End)
