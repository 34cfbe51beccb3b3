-- Which files are opened, and in which order.
--     OpenerState                   the names that an opener was asked for, and the bytes that it knows files to have
--     and_asked o calls             after these names were asked for, too
--     unread bytes                  a source that has all these bytes left, and was not read
--     AreOpened o after names ss    the files of all these names were opened, each once and in this order
--     IsUnopened o after names f    one can't be opened, and the fault has its number; or memory ran out
use Rattle.std.specs.Prelude.{◌≡◌, ◌+◌, ℕ, Bool, true, false, List, [], ◌∷◌, ◌++◌, map, length, Option, option_map}
use Rattle.cadf_tool.specs.Inputs.{SourceState}
use Rattle.cadf_tool.specs.declared.fault.ToolFault.{ToolFault}
use Rattle.cadf_tool.specs.declared.fault.ToolFault.TheVariants.{ReadFault, Memory}
use Rattle.cadf.specs.Asked.{Word}

pub record OpenerState : Type 0 where
  -- the names, each with whether its file was opened, if they are known
  pub asked : Option (List (Word × Bool))
  -- the bytes of the file of a name, if they are known
  pub bytes : Word → Option (List ℕ)

abbrev pub and_asked : OpenerState → List (Word × Bool) → OpenerState
and_asked o calls = record { asked = option_map (λ earlier. earlier ++ calls) o.asked; bytes = o.bytes }

abbrev pub each_opened : List Word → List (Word × Bool)
each_opened = map (λ name. (name, true))

abbrev pub unread : Option (List ℕ) → SourceState
unread bytes = record { left = bytes; failures = 0; reads = 0 }

abbrev pub AreOpened : OpenerState → OpenerState → List Word → List SourceState → Type 0
AreOpened o after names sources =
    (after ≡ and_asked o (each_opened names)) × (sources ≡ map (λ name. unread (o.bytes name)) names)

-- files are counted from 1, and none after that one is asked for
abbrev pub IsUnopened : OpenerState → OpenerState → List Word → ToolFault → Type 0
IsUnopened o after names (ReadFault n) = (opened left : List Word) × (name : Word) × (names ≡ opened ++ name ∷ left)
    × (n ≡ length opened + 1) × (after ≡ and_asked o (each_opened opened ++ (name, false) ∷ []))
IsUnopened o after names Memory =
    (opened left : List Word) × (names ≡ opened ++ left) × (after ≡ and_asked o (each_opened opened))
IsUnopened o after names _ = ⊥
