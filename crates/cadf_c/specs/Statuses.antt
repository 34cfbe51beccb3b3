-- What a call answers, and what it tells.
--     IsCall asked inputs status old new count   the status, the caller's buffer before and after, and the length that the call sets
--     IsRefused P                                an input is refused by a fault of which P holds
use Rattle.std.specs.Prelude.{◌≡◌, ◌≤◌, ◌⊎◌, ℕ, List, ℤ, pos, Result, IsOkAnd, IsErrAnd}
use Rattle.cadf_arguments.specs.Arguments.{argument_text_of}
use Rattle.cadf_arguments.specs.declared.fault.ArgumentFault.{ArgumentFault}
use Rattle.cadf_tool.specs.declared.fault.ToolFault.{ToolFault}
use Rattle.cadf_tool.specs.declared.request.Request.{Request}
use Rattle.cadf_tool.specs.Faults.{status_of}
use Rattle.cadf_memory.specs.Handed.{IsHandedOut}
use Rattle.cadf_memory.specs.Made.{IsMadeFor, IsFirstFor}

pub record IsRefused (P : ToolFault → Type 0) : Type 0 where
  pub fault : ToolFault
  pub first : P fault
  pub status : status_of fault ≡ 1

-- `asked` is the request, or the argument that is refused
pub record IsCall (asked : Result Request ArgumentFault) (inputs : List (List ℕ)) (status : ℤ) (old new : List ℕ) (count : ℕ) : Type 0 where
  -- the text is handed out
  pub written : status ≡ pos 0 → IsOkAnd asked (λ q. IsHandedOut (IsMadeFor q inputs) old new count)
  -- an input is refused
  pub refused : status ≡ pos 1 → IsOkAnd asked (λ q. IsRefused (IsFirstFor q inputs))
  -- an argument is refused, and the text of that is handed out
  pub argument : status ≡ pos 2 → IsErrAnd asked (λ fault. IsHandedOut (λ text. text ≡ argument_text_of fault) old new count)
  -- or an allocation failed
  pub only : (status ≡ pos 0) ⊎ (status ≡ pos 1) ⊎ (status ≡ pos 2) ⊎ (status ≡ pos 4)
  -- the text of a refusal has at most 128 bytes
  pub short : (status ≡ pos 0) ⊎ (count ≤ 128)
