-- What a C program's arguments ask for, or which of them is refused: the first in this order.
--     log_given, number_given              what stands for none: no bytes, and 0
--     is_given, if_given                   whether a list is given, and the inputs that it is
--     join_asked log                       what is asked of `join`
--     split_asked by log                   of `split`
--     ruling_asked letter key place        of `rule`
--     rehearsal_asked log sites            of `rehearse`
--     sketch_asked cells salt              of `sketch`
--     proof_asked keys                     of `prove`, for facts or for keys
--     verdict_asked keys absent            of `verify`
--     IsAsked asked given                  this is given, or there was no memory for it
use Rattle.std.specs.Prelude.{◌≡◌, ◌⊎◌, ℕ, nat_eq, Bool, true, false, ◌&&◌, ◌||◌, if◌then◌else◌, List, [], ◌∷◌, Option, Some, None, Result, Ok, Err, encode_utf8}
use Rattle.std.specs.Str.{is_utf8}
use Rattle.cadf_event.specs.Names.{is_name}
use Rattle.cadf_line.specs.RulingTexts.{is_value_letter}
use Rattle.cadf_sketch.specs.Layouts.{are_cells, is_salt}
use Rattle.cadf_split.specs.declared.unit.Unit as time
use Rattle.cadf_arguments.specs.Arguments.{is_place, is_site_count, unit_named}
use Rattle.cadf_arguments.specs.declared.fault.ArgumentFault.{ArgumentFault}
use Rattle.cadf_arguments.specs.declared.fault.ArgumentFault.TheVariants.{LogName, Sites, Letter, Key, Place, Cells, Salt, Unit, Memory}
use Rattle.cadf_tool.specs.declared.request.Request.{Request}
use Rattle.cadf_tool.specs.declared.request.Request.TheVariants as ask

-- no bytes are no log, since no name is empty
abbrev pub log_given : List ℕ → Option (List ℕ)
log_given [] = None
log_given (b ∷ bs) = Some (b ∷ bs)

-- 0 is no number of cells and no salt: a sketch has some cells, and its salt is odd
abbrev pub number_given : ℕ → Option ℕ
number_given n = if nat_eq n 0 then None else Some n

-- no bytes are no list
abbrev pub is_given : List ℕ → Bool
is_given [] = false
is_given (b ∷ bs) = true

abbrev pub if_given : List ℕ → List (List ℕ)
if_given [] = []
if_given (b ∷ bs) = (b ∷ bs) ∷ []

-- the bytes are UTF-8, and a name
abbrev pub spells_name : List ℕ → Bool
spells_name bytes = is_utf8 bytes && is_name bytes

abbrev pub is_log : List ℕ → Bool
is_log [] = true
is_log (b ∷ bs) = spells_name (b ∷ bs)

-- refused for that fault if the test fails, else what the others ask
abbrev pub unless : {A : Type 0} → Bool → ArgumentFault → Result A ArgumentFault → Result A ArgumentFault
unless accepts fault others = if accepts then others else Err fault

abbrev pub join_asked : List ℕ → Result Request ArgumentFault
join_asked log = unless (is_log log) LogName (Ok (ask.Join (log_given log)))

abbrev pub split_by : Option time.Unit → List ℕ → Result Request ArgumentFault
split_by None log = Err Unit
split_by (Some unit) log = unless (is_log log) LogName (Ok (ask.Split unit (log_given log)))

abbrev pub split_asked : List ℕ → List ℕ → Result Request ArgumentFault
split_asked by log = split_by (unit_named by) log

abbrev pub ruling_asked : ℕ → List ℕ → ℕ → Result Request ArgumentFault
ruling_asked letter key place =
    unless (is_value_letter (encode_utf8 letter)) Letter (unless (spells_name key) Key (unless (is_place place) Place (Ok (ask.Rule letter key place))))

abbrev pub rehearsal_asked : List ℕ → ℕ → Result Request ArgumentFault
rehearsal_asked log sites = unless (spells_name log) LogName (unless (is_site_count sites) Sites (Ok (ask.Rehearse log sites)))

abbrev pub sketch_asked : ℕ → ℕ → Result Request ArgumentFault
sketch_asked cells salt =
    unless (nat_eq cells 0 || are_cells cells) Cells
    (unless (nat_eq salt 0 || is_salt salt) Salt (Ok (ask.Sketch (number_given cells) (number_given salt))))

abbrev pub proof_asked : Bool → Request
proof_asked keys = if keys then ask.ProveKeys else ask.Prove

abbrev pub verdict_asked : Bool → Bool → Request
verdict_asked keys absent = if keys then ask.VerifyKeys absent else ask.Verify absent

abbrev pub IsAsked : {A : Type 0} → Result A ArgumentFault → Result A ArgumentFault → Type 0
IsAsked asked given = (given ≡ Err Memory) ⊎ (given ≡ asked)
