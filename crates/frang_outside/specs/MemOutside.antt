-- The outside in memory is its record: its sectors are those that the record leaves, and no call has failed.
use Rattle.std.specs.Prelude.{◌≡◌, ℕ, ◌<◌, ◌≤◌, List, [], ◌∷◌, ◌++◌, Some, Result, Ok, Err}
use Rattle.std.specs.Option.{unwrap_or}
use Rattle.std.proofs.Common.{ap}
use Rattle.frang_outside.specs.declared.act.Act.{Act}
use Rattle.frang_outside.specs.declared.act.Act.TheVariants.{Put as Acted, Said}
use Rattle.frang_outside.specs.declared.act.Put.{Put}
use Rattle.frang_outside.specs.declared.act.Taken.{Taken}
use Rattle.frang_outside.specs.declared.act.Taken.TheVariants.{Written, Late}
use Rattle.frang_outside.specs.declared.outside.PutFault.{PutFault}
use Rattle.frang_outside.specs.declared.outside.PutFault.TheVariants.{Failed as PutFailed, NoMemory as PutNoMemory}
use Rattle.frang_outside.specs.declared.outside.SayFault.{SayFault}
use Rattle.frang_outside.specs.declared.outside.SayFault.TheVariants.{Failed as SayFailed, NoMemory as SayNoMemory}
use Rattle.frang_outside.specs.Disk.{disk_after}
use Rattle.frang_outside.specs.Outside.{State, Accounts}

-- what an outside in memory means by its record
abbrev pub memory_state : List Act → State
memory_state acts = record { sectors = disk_after acts; acts = Some acts; faults = λ party. 0; say_faults = 0; mark = [] }

-- that record accounts for the sectors
pub memory_accounts : (acts : List Act) → Accounts (memory_state acts)
memory_accounts acts told e s = ap (λ r. disk_after (unwrap_or r told) s) e

-- a put is late exactly where its stamp is less than its now, is added to the record, and never fails
abbrev pub MemoryPut : List Act → List Act → Put → Result Taken PutFault → Type 0
MemoryPut old new put (Ok Written) = (put.now ≤ put.stamp) × (new ≡ old ++ Acted put Written ∷ [])
MemoryPut old new put (Ok Late) = (put.stamp < put.now) × (new ≡ old ++ Acted put Late ∷ [])
MemoryPut old new put (Err PutFailed) = ⊥
MemoryPut old new put (Err PutNoMemory) = new ≡ old

-- a line said is added to the record, and a say never fails
abbrev pub MemorySay : List Act → List Act → List ℕ → Result (Unit {0}) SayFault → Type 0
MemorySay old new line (Ok done) = new ≡ old ++ Said line ∷ []
MemorySay old new line (Err SayFailed) = ⊥
MemorySay old new line (Err SayNoMemory) = new ≡ old
