-- The events of the core, and what the outside may answer to the call of one.
use Rattle.std.specs.Prelude.{ℕ, Bool}
use Rattle.frang_base.specs.declared.lock.LockId.{LockId}
use Rattle.frang_base.specs.declared.lock.Mode.{Mode}
use Rattle.sector_bytes.specs.Blocks.{Block}

-- in the order of the table
pub data Event : Type 0 where
  Begin : (server : ℕ) → Event
  Ask : (server : ℕ) (lock : LockId) (mode : Mode) → Event
  Fetch : (server sector : ℕ) → Event
  Again : (server : ℕ) → Event
  Clear : (server block : ℕ) → Event
  Commit : (server : ℕ) → Event
  Answer : (server : ℕ) → Event
  Give : (server : ℕ) (lock : LockId) → Event
  Issue : (server sector : ℕ) → Event
  Doom : (server : ℕ) → Event
  Resume : (server : ℕ) → Event
  Arrive : (ticket : ℕ) → Event
  Lose : (ticket : ℕ) → Event
  Die : (server : ℕ) → Event
  Renew : (server : ℕ) → Event
  Tick : Event
  Recover : (dead by : ℕ) → Event
  Load : (by slot : ℕ) → Event
  Look : (by sector : ℕ) → Event
  Finish : (by : ℕ) → Event
  HostLine : (line : ℕ) → Event
  Close : (server : ℕ) → Event
  Read : (sector : ℕ) → Event
  Show : (place : ℕ) → Event
  End : Event

-- nothing, where no call is made or something was said; a sector's block, or that the get failed; that a put was written or came late, or that it failed and left the new block or
-- the old one
pub data Heard : Type 0 where
  Nothing : Heard
  Got : (block : Block) → Heard
  GetFailed : Heard
  Written : Heard
  Late : Heard
  PutFailed : (new : Bool) → Heard
