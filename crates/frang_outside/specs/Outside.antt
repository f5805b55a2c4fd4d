-- What an outside means, and what its calls answer and change.
use Rattle.std.specs.Prelude.{◌≡◌, ◌⊎◌, ℕ, nat_lt, if◌then◌else◌, ◌+◌, ◌-◌, ◌^◌, ◌<◌, ◌≤◌, min, List, [], ◌∷◌, ◌++◌, Option, Some, None, Result, Ok, Err}
use Rattle.frang_outside.specs.declared.act.Act.{Act}
use Rattle.frang_outside.specs.declared.act.Act.TheVariants.{Put as Acted, Said}
use Rattle.frang_outside.specs.declared.act.Put.{Put}
use Rattle.frang_outside.specs.declared.act.Taken.{Taken}
use Rattle.frang_outside.specs.declared.act.Taken.TheVariants.{Written, Late}
use Rattle.frang_outside.specs.declared.outside.Failed.{Failed}
use Rattle.frang_outside.specs.declared.outside.PutFault.{PutFault}
use Rattle.frang_outside.specs.declared.outside.PutFault.TheVariants.{Failed as PutFailed, NoMemory as PutNoMemory}
use Rattle.frang_outside.specs.declared.outside.SayFault.{SayFault}
use Rattle.frang_outside.specs.declared.outside.SayFault.TheVariants.{Failed as SayFailed, NoMemory as SayNoMemory}
use Rattle.frang_outside.specs.Disk.{written, disk_after}
use Rattle.sector_bytes.specs.Sectors.{Sectors, SameSectors}

-- the bytes of each sector; the acts so far, where they are told; how many gets and puts have failed that named a party, and how many says; and a mark that
-- no call changes, by which an outside that stands on another one says what it was made with
pub record State : Type 0 where
  pub sectors : Sectors
  pub acts : Option (List Act)
  pub faults : ℕ → ℕ
  pub say_faults : ℕ
  pub mark : List ℕ

-- a count of faults rose, or stands at its last value
abbrev pub Rose : ℕ → ℕ → Type 0
Rose before now = min (before + 1) (2 ^ 64 - 1) ≤ now

-- a count of faults with one more, which stands still at its type's end
abbrev pub one_more : ℕ → ℕ
one_more count = if nat_lt count (2 ^ 64 - 1) then count + 1 else count

-- what any calls leave: no count fell, and the mark is the same
pub record Follows (old new : State) : Type 0 where
  pub faults : (party : ℕ) → old.faults party ≤ new.faults party
  pub says : old.say_faults ≤ new.say_faults
  pub mark : new.mark ≡ old.mark

-- no count changed
pub record NoneRose (old new : State) : Type 0 where
  pub faults : (party : ℕ) → new.faults party ≡ old.faults party
  pub says : new.say_faults ≡ old.say_faults

-- only the count of this party rose
pub record OneRose (old new : State) (party : ℕ) : Type 0 where
  pub own : Rose (old.faults party) (new.faults party)
  pub others : (other : ℕ) → (other ≡ party → ⊥) → new.faults other ≡ old.faults other
  pub says : new.say_faults ≡ old.say_faults

-- only the count of failed says rose
pub record SayRose (old new : State) : Type 0 where
  pub own : Rose old.say_faults new.say_faults
  pub faults : (party : ℕ) → new.faults party ≡ old.faults party

-- a record with one act more, where it is told
abbrev pub told_more : Option (List Act) → Act → Option (List Act)
told_more None act = None
told_more (Some acts) act = Some (acts ++ act ∷ [])

-- a record that is told accounts for the sectors
abbrev pub Accounts : State → Type 0
Accounts s = (acts : List Act) → s.acts ≡ Some acts → SameSectors s.sectors (disk_after acts)

-- an answered get gives the sector's bytes; a failed one is counted for the server
abbrev pub GetOutcome : State → State → ℕ → ℕ → Result (List ℕ) Failed → Type 0
GetOutcome old new server sector (Ok bytes) = (bytes ≡ old.sectors sector) × NoneRose old new
GetOutcome old new server sector (Err fault) = OneRose old new server

-- the sector is old or new, and all others stay
pub record OldOrNew (old new : Sectors) (put : Put) : Type 0 where
  pub own : (new put.sector.0 ≡ old put.sector.0) ⊎ (new put.sector.0 ≡ put.bytes)
  pub others : (s : ℕ) → (s ≡ put.sector.0 → ⊥) → new s ≡ old s

-- a put is late exactly where its stamp is below the present moment, also where the call would have failed, and then it changes
-- no sector; the record has each answered put; a failed one leaves the old sector or the new one
abbrev pub PutOutcome : State → State → Put → Result Taken PutFault → Type 0
PutOutcome old new put (Ok Written) = (put.now ≤ put.stamp) × SameSectors new.sectors (written old.sectors put.sector.0 put.bytes) × (new.acts ≡ told_more old.acts (Acted put Written)) × NoneRose old new
PutOutcome old new put (Ok Late) = (put.stamp < put.now) × SameSectors new.sectors old.sectors × (new.acts ≡ told_more old.acts (Acted put Late)) × NoneRose old new
PutOutcome old new put (Err PutFailed) = (put.now ≤ put.stamp) × OldOrNew old.sectors new.sectors put × (new.acts ≡ old.acts) × OneRose old new put.server.0
PutOutcome old new put (Err PutNoMemory) = SameSectors new.sectors old.sectors × (new.acts ≡ old.acts) × NoneRose old new

-- the record has the line that was said; a refused one adds nothing
abbrev pub SayOutcome : State → State → List ℕ → Result (Unit {0}) SayFault → Type 0
SayOutcome old new line (Ok done) = (new.acts ≡ told_more old.acts (Said line)) × NoneRose old new
SayOutcome old new line (Err SayFailed) = (new.acts ≡ old.acts) × SayRose old new
SayOutcome old new line (Err SayNoMemory) = (new.acts ≡ old.acts) × NoneRose old new
