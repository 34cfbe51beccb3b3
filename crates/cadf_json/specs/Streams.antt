-- How reads and writes change the bytes and the counts of a source or a sink.
use Rattle.std.specs.Prelude.{◌≡◌, ℕ, ◌+◌, ◌-◌, ◌^◌, ◌<◌, ◌≤◌, ◌==◌, ◌&&◌, nat_lt, min, List, ◌++◌, length, take, Bool, true, false, if◌then◌else◌}
use Rattle.std.specs.Prelude.{Option, Some, None, Result, Ok, Err}
use Rattle.std.specs.Borrow.{Bor}
use Rattle.std.specs.Io.KnownBytes.{Appends, Consumes, IsAtEnd}
use Rattle.cadf_json.specs.declared.transfer.ReadLimitFault.{ReadLimitFault}
use Rattle.cadf_json.specs.declared.transfer.ReadLimitFault.TheVariants.{TooLarge, ReadFault, Memory}
use Rattle.cadf_json.specs.declared.transfer.OutFault.{OutFault}
use Rattle.cadf_json.specs.declared.transfer.OutFault.TheVariants.{WriteFault, Memory as OutOfMemory}

-- a count of 64 bits, at most its greatest value
abbrev pub one_more : ℕ → ℕ
one_more n = min (n + 1) (2 ^ 64 - 1)

-- a count of failures after a call that failed or not
abbrev pub counted : Bool → ℕ → ℕ
counted failed n = if failed then one_more n else n

-- the write returned an error, or wrote nothing of a piece that has bytes
abbrev pub write_fails : {E : Type 0} → Result ℕ E → List ℕ → Bool
write_fails (Ok n) bytes = (n == 0) && nat_lt 0 (length bytes)
write_fails (Err e) bytes = true

-- the next bytes were borrowed, `limit` of them or all that were left; or none were, and nothing changed
abbrev pub Borrows : Option (List ℕ) → Option (List ℕ) → ℕ → Option (Bor (List ℕ)) → Type 0
Borrows old new limit None = new ≡ old
Borrows old new limit (Some bytes) = Consumes old new bytes.now × (length bytes.now < limit → IsAtEnd new)

-- some bytes were read, at most n of them
abbrev pub ConsumesAtMost : Option (List ℕ) → Option (List ℕ) → ℕ → Type 0
ConsumesAtMost old new n = (bytes : List ℕ) × Consumes old new bytes × (length bytes ≤ n)

-- n bytes were read
abbrev pub ConsumesExactly : Option (List ℕ) → Option (List ℕ) → ℕ → Type 0
ConsumesExactly old new n = (bytes : List ℕ) × Consumes old new bytes × (length bytes ≡ n)

-- the bytes that were read follow the start
abbrev pub ConsumesAfter : Option (List ℕ) → Option (List ℕ) → List ℕ → List ℕ → Type 0
ConsumesAfter old new start whole = (bytes : List ℕ) × Consumes old new bytes × (whole ≡ start ++ bytes)

-- with those at the start, at most n bytes were read
abbrev pub ConsumesWithin : Option (List ℕ) → Option (List ℕ) → ℕ → ℕ → Type 0
ConsumesWithin old new start n = (bytes : List ℕ) × Consumes old new bytes × (start + length bytes ≤ n)

-- a prefix of the bytes was written
abbrev pub AppendsPrefix : Option (List ℕ) → Option (List ℕ) → List ℕ → Type 0
AppendsPrefix old new bytes = (n : ℕ) × Appends old new (take n bytes)

-- the source was not read to its end, since a read failed
abbrev pub is_read_fault : {T : Type 0} → Result T ReadLimitFault → Bool
is_read_fault (Ok v) = false
is_read_fault (Err TooLarge) = false
is_read_fault (Err ReadFault) = true
is_read_fault (Err Memory) = false

-- the text was not written in full, since a write failed
abbrev pub is_write_fault : {T : Type 0} → Result T OutFault → Bool
is_write_fault (Ok v) = false
is_write_fault (Err WriteFault) = true
is_write_fault (Err OutOfMemory) = false
