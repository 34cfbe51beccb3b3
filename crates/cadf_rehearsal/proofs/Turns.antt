-- The effect of one turn on a federation: a site gets a set, or a message is added.
use Rattle.cadf_rehearsal.proofs.Common.{rules, common_steps, arith, ◌≡◌, ℕ, zero, suc, replicate, ◌-◌, ◌<◌, ◌≤◌, true, false, cond, length, map, get_or, ◌++◌, ◌∷◌, [], List, refl, sym, ap, ◌∙◌, lt-ltb, Result, Err, Option, Some, None, nat_lt, with_item, length-set, Text, Contents, ReplicaModel, IsOfLog, bytes_decides, at_or, at_number, held_at, log_at, message_of, log_of_message, world_of, IsOneLog, IsLater, Federation, RehearseFault, Asked, atom_digest, InventoryModel, NoSite, NoMessage, NotInventory}
use Rattle.cadf_rehearsal.specs.declared.federation.Message.{Message}
use Rattle.cadf_join.specs.Sets as sets
use Rattle.cadf_rehearsal.specs.Schedule as schedule
use Rattle.cadf_rehearsal.proofs.Seen.{seen_adds, at_or_read, at_number_read, all_set, all_push, made_is}

abbrev pub none : schedule.Message
none = schedule.Whole sets.empty

-- the federation after one of its sites changed
abbrev pub with_site : Federation → ℕ → ReplicaModel → Federation
with_site f k h = record { sites = with_item f.sites k h; messages = f.messages }

-- ---- the site and the message of a turn

pub at_site : (f : Federation) (j turn : ℕ) (r v : Result schedule.World RehearseFault) → j < length f.sites.items → r ≡ v
    → cond (nat_lt j (length f.sites.items)) r (Err (NoSite turn)) ≡ v
at_site f j turn r v there is = ap (λ t. cond t r (Err (NoSite turn))) (lt-ltb j (length f.sites.items) there) ∙ is

pub at_message : (f : Federation) (m turn : ℕ) (x : Message) (F : schedule.Message → Result schedule.World RehearseFault)
    (v : Result schedule.World RehearseFault) → 0 < m → m ≤ length f.messages.items
    → x ≡ get_or f.messages.items (m - 1) x → F (message_of x) ≡ v
    → cond (schedule.is_message (world_of f) m) (F ((world_of f).messages m)) (Err (NoMessage turn)) ≡ v
at_message f m turn x F v pos le at is = grind (arith, common_steps, made_is, at_number_read)

-- ---- one log

pub site_log : (log : Text) (f : Federation) (k : ℕ) (x : ReplicaModel) → IsOneLog log f → k < length f.sites.items → x ≡ get_or f.sites.items k x → x.log ≡ log
site_log log f k x one h at = sym (at_or_read log_at log f.sites.items k x h at) ∙ one.sites k

pub message_log : (log : Text) (f : Federation) (m : ℕ) (x : Message) → IsOneLog log f → 0 < m → m ≤ length f.messages.items
    → x ≡ get_or f.messages.items (m - 1) x → log_of_message x ≡ log
message_log log f m x one pos le at = sym (at_number_read log_of_message log f.messages.items m x pos le at) ∙ one.messages m

-- ---- a site gets the set s

pub site_takes : (f : Federation) (k : ℕ) (old new : ReplicaModel) (s : Contents) → k < length f.sites.items → old ≡ get_or f.sites.items k old
    → new.atoms ≡ sets.union old.atoms s → schedule.adds (world_of f) k s ≡ world_of (with_site f k new)
site_takes f k old new s h at is = seen_adds held_at message_of none f.sites.items f.messages.items k old new s h at is

pub site_later : (f : Federation) (k : ℕ) (new : ReplicaModel) → k < length f.sites.items → ((log : Text) → IsOneLog log f → new.log ≡ log)
    → IsLater f (with_site f k new)
site_later f k new h same = grind (arith, common_steps, length-set, all_set)

-- ---- a message is added

pub kept_later : (f g : Federation) (m : Message) → g.sites ≡ f.sites → g.messages.items ≡ f.messages.items ++ m ∷ []
    → ((log : Text) → IsOneLog log f → log_of_message m ≡ log) → IsLater f g
kept_later f g m sites messages same = grind (arith, common_steps, all_push)

-- ---- the log that a document names

pub of_log : (log : Text) (named : Option Text) → IsOfLog log named → schedule.is_of_log log named ≡ true
of_log log None is = refl
of_log log (Some n) is = (bytes_decides n log).1 (sym is)

pub of_other_log : (log : Text) (named : Option Text) → ¬ IsOfLog log named → schedule.is_of_log log named ≡ false
of_other_log log None other = absurd (other tt)
of_other_log log (Some n) other = search rules

-- ---- sites that have nothing yet

pub all_empty : (log : Text) (n j : ℕ) → at_or sets.empty (map held_at (replicate n (record { log = log; atoms = sets.empty }))) j ≡ sets.empty
all_empty log zero j = refl
all_empty log (suc n) zero = refl
all_empty log (suc n) (suc j) = all_empty log n j

pub all_named : (log : Text) (n j : ℕ) → at_or log (map log_at (replicate n (record { log = log; atoms = sets.empty }))) j ≡ log
all_named log zero j = refl
all_named log (suc n) zero = refl
all_named log (suc n) (suc j) = all_named log n j

-- a federation of such sites, which has no message
abbrev pub fresh : Text → ℕ → List ReplicaModel
fresh log n = replicate n (record { log = log; atoms = sets.empty })

pub starts : (log : Text) (n : ℕ) (xs : List ReplicaModel) (ms : List Message) → xs ≡ fresh log n → ms ≡ []
    → ◌≡◌ {A = schedule.World}
    (record { sites = at_or sets.empty (map held_at xs); made = length ms; messages = at_number none (map message_of ms) }) schedule.start
starts log n xs ms sites messages = grind (arith, common_steps, all_empty)

pub begins : (log : Text) (n : ℕ) (f : Federation) → f.sites.items ≡ fresh log n → f.messages.items ≡ [] → IsOneLog log f
begins log n f sites messages = grind (arith, common_steps, all_named)

-- ---- an answer to a message that is no inventory

pub not_answered : (log : Text) (f : Federation) (turn j : ℕ) (x : Message) → ((a : ℕ) (i : InventoryModel) → x ≡ Asked a i → ⊥)
    → schedule.answered atom_digest log (length f.sites.items) turn (world_of f) j (message_of x) ≡ Err (NotInventory turn)
not_answered log f turn j x other = grind (arith, common_steps)
