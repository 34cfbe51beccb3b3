-- A federation in the code, whose model is the world of its schedule.
--     world_of f           the sets of its sites, and its messages
--     IsOneLog log f       each site and each message is of that log
--     TurnsTo f n t g      the turn t of number n leads from the federation f to the federation g
--     IsTurnFault f n t e  the fault e is why that turn fails, or memory ran out
--     IsFaultDue fault r   the fault is r's, or memory ran out
--     left_by log count w  the replicas of the sites 0 to count - 1 in the world
use Rattle.std.specs.Prelude.{◌≡◌, ℕ, zero, suc, ◌∷◌, List, [], map, length, Result, Ok, Err, ◌⊎◌}
use Rattle.std.specs.List.{range_with_len}
use Rattle.cadf_join.specs.Sets as set
use Rattle.cadf_join.specs.Contents.{Text, Contents}
use Rattle.cadf_set.specs.Replica.{ReplicaModel}
use Rattle.cadf_line.specs.Digest.{atom_digest}
use Rattle.cadf_rehearsal.specs.Schedule as schedule
use Rattle.cadf_rehearsal.specs.declared.turn.Turn.{Turn}
use Rattle.cadf_rehearsal.specs.declared.fault.RehearseFault.{RehearseFault}
use Rattle.cadf_rehearsal.specs.declared.fault.RehearseFault.TheVariants.{Memory}
use Rattle.cadf_rehearsal.specs.declared.federation.Message.{Message}
use Rattle.cadf_rehearsal.specs.declared.federation.Message.TheVariants.{Asked, PartFor, Whole}
use Rattle.cadf_rehearsal.specs.declared.federation.Federation.{Federation}

-- the element at the place, or d past the end
abbrev pub at_or : {A : Type 0} → A → List A → ℕ → A
at_or d [] k = d
at_or d (x ∷ xs) zero = x
at_or d (x ∷ xs) (suc k) = at_or d xs k

-- the same, by a number from 1
abbrev pub at_number : {A : Type 0} → A → List A → ℕ → A
at_number d xs zero = d
at_number d xs (suc k) = at_or d xs k

abbrev pub held_at : ReplicaModel → Contents
held_at h = h.atoms

abbrev pub log_at : ReplicaModel → Text
log_at h = h.log

abbrev pub message_of : Message → schedule.Message
message_of (Asked site i) = schedule.Inventory site i.digests
message_of (PartFor site h) = schedule.PartFor site h.atoms
message_of (Whole h) = schedule.Whole h.atoms

abbrev pub log_of_message : Message → Text
log_of_message (Asked site i) = i.log
log_of_message (PartFor site h) = h.log
log_of_message (Whole h) = h.log

abbrev pub world_of : Federation → schedule.World
world_of f = record {
  sites = at_or set.empty (map held_at f.sites.items);
  made = length f.messages.items;
  messages = at_number (schedule.Whole set.empty) (map message_of f.messages.items);
}

pub record IsOneLog (log : Text) (f : Federation) : Type 0 where
  pub sites : (j : ℕ) → at_or log (map log_at f.sites.items) j ≡ log
  pub messages : (m : ℕ) → at_number log (map log_of_message f.messages.items) m ≡ log

abbrev pub HasOneLog : Federation → Type 0
HasOneLog f = (log : Text) × IsOneLog log f

-- the federation after a turn that succeeded: of the same log, and with as many sites
pub record IsLater (old new : Federation) : Type 0 where
  pub count : length new.sites.items ≡ length old.sites.items
  pub one_log : (log : Text) → IsOneLog log old → IsOneLog log new

-- the result of the turn of that number in a federation of that log
abbrev pub turned_from : Text → Federation → ℕ → Turn → Result schedule.World RehearseFault
turned_from log f turn t = schedule.world_after_turn atom_digest log (length f.sites.items) turn (world_of f) t

abbrev pub IsFaultDue : {A : Type 0} → RehearseFault → Result A RehearseFault → Type 0
IsFaultDue fault r = (fault ≡ Memory) ⊎ (r ≡ Err fault)

abbrev pub TurnsTo : Federation → ℕ → Turn → Federation → Type 0
TurnsTo old turn t new = (log : Text) → IsOneLog log old → turned_from log old turn t ≡ Ok (world_of new)

abbrev pub IsTurnFault : Federation → ℕ → Turn → RehearseFault → Type 0
IsTurnFault old turn t fault = (log : Text) → IsOneLog log old → IsFaultDue fault (turned_from log old turn t)

abbrev pub left_by : Text → ℕ → schedule.World → List ReplicaModel
left_by log count w = map (λ j. record { log = log; atoms = w.sites j }) (range_with_len 0 count)
