-- What each answer of a call on a ring says of the ring before and after it.
use Rattle.std.specs.Prelude.{◌≡◌, ℕ, Some, None, Result, Ok, Err, List, IsOk}
use Rattle.frang_base.specs.declared.sector.Sector.{Sector}
use Rattle.frang_base.specs.declared.change.Redo.{Redo}
use Rattle.ring_definitions.specs.declared.ring.RingFault.{RingFault}
use Rattle.ring_definitions.specs.declared.ring.RingFault.TheVariants.{Full, NoMemory}
use Rattle.ring_definitions.specs.declared.ring.Unwritten.{Unwritten}
use Rattle.ring_definitions.specs.Rings.{Ring, append_answer, appended, unwritten, reclaimed}
use Rattle.wal_ring.specs.SpaciousRings.{SpaciousRing, HasRoom}

-- a record is appended, or there is too little free and the ring is as it was; want of memory comes only where there is enough free and no room
abbrev pub AppendOutcome : Redo → SpaciousRing → SpaciousRing → Result ℕ RingFault → Type 0
AppendOutcome redo old new (Ok number) = (append_answer old.ring redo ≡ Ok number) × (new.ring ≡ appended old.ring redo)
AppendOutcome redo old new (Err (Full need free)) = (append_answer old.ring redo ≡ Err (Full need free)) × (new.ring ≡ old.ring)
AppendOutcome redo old new (Err NoMemory) = IsOk (append_answer old.ring redo) × ¬ (HasRoom old redo) × (new.ring ≡ old.ring)

-- there is room for a record that would be appended, or too little is free; want of memory comes only where there is enough free and no room
abbrev pub ReserveOutcome : Redo → SpaciousRing → SpaciousRing → Result (Unit {0}) RingFault → Type 0
ReserveOutcome redo old new (Ok done) = IsOk (append_answer old.ring redo) × HasRoom new redo
ReserveOutcome redo old new (Err (Full need free)) = append_answer old.ring redo ≡ Err (Full need free)
ReserveOutcome redo old new (Err NoMemory) = IsOk (append_answer old.ring redo) × ¬ (HasRoom old redo)

-- the reclaimable records are given up, or the first sector that isn't known to be written is named and the ring is as it was
abbrev pub ReclaimOutcome : List (Sector × ℕ) → Ring → Ring → Result (Unit {0}) Unwritten → Type 0
ReclaimOutcome disk old new (Ok done) = (unwritten old disk ≡ None) × (new ≡ reclaimed old)
ReclaimOutcome disk old new (Err fault) = (unwritten old disk ≡ Some fault) × (new ≡ old)
