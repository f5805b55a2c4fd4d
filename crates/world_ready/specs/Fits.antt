-- What is ready for an event fits a world: it is what the call asks by which the world makes the event. Facts of the core are said of a core, which is that of the world; facts of room
-- are the world's.
use Rattle.std.specs.Prelude.{◌≡◌, ◌<◌, ℕ, true, false, is_some, IsTrue, Option, Some, []}
use Rattle.frang_base.specs.declared.limits.TheConstants.{LAST_TICK, SERVERS}
use Rattle.frang_base.specs.declared.lock.LockId.{LockId}
use Rattle.lock_table.specs.Table.{HasRoom}
use Rattle.sector_bytes.specs.SectorMaps.{value_at}
use Rattle.cache_definitions.specs.Caches.{is_dirty_at}
use Rattle.core_definitions.specs.Cores.{Core, due_at, stage, writes}
use Rattle.core_definitions.specs.EndGuards.{CanLoad, CanLook, may_close, may_finish, may_host, may_recover}
use Rattle.core_definitions.specs.LineEffects.{cover_needed}
use Rattle.core_definitions.specs.Lines.{Finishing}
use Rattle.core_definitions.specs.Plans.{Outcome}
use Rattle.core_definitions.specs.Recoveries.{recovery_of}
use Rattle.core_definitions.specs.Servers.{is_in_mount, is_off}
use Rattle.core_definitions.specs.WriteEffects as effects
use Rattle.core_definitions.specs.WriteGuards.{IsIssuable, may_die, may_give, may_resume}
use Rattle.host_tree.specs.Reading.{HostReading}
use Rattle.line_stages.specs.Agains.{IsAgain, IsFirstWhereAnew}
use Rattle.line_stages.specs.Stages.{ComesTo}
use Rattle.line_stages.specs.declared.again.Again.{Again}
use Rattle.recovery_demon.specs.Recovering.{Recovering}
use Rattle.server_core.specs.Effects.{IsSlot}
use Rattle.server_core.specs.Phases.{fate_of, reply_of}
use Rattle.server_core.specs.States.{UnderState}
use Rattle.server_core.specs.declared.answers.PlainAnswer.{PlainAnswer}
use Rattle.server_core.specs.declared.phase.Fate.{Fate}
use Rattle.server_issues.specs.Issuing.{write_of}
use Rattle.server_issues.specs.declared.writes.WantedWrite.{WantedWrite}
use Rattle.wal_ring.specs.SpaciousRings.{SpaciousRing}
use Rattle.world_parties.specs.States.{IsReady, plan_at}
use Rattle.world_state.specs.Begins.{Begins}
use Rattle.world_state.specs.Rooms.{HasArriveRoom, HasClearRoom, HasCommitRoom, HasFetchRoom, HasIssueRoom, HasLossRoom, HasSlotRoom, IsMountRing, IsNextLine}
use Rattle.world_state.specs.States.{State}
use Rattle.world_ready.specs.declared.kinds.Ready.{Ready}
use Rattle.world_ready.specs.declared.kinds.Ready.TheVariants as ready

-- ---- lines

-- the next line of a server, as it will be under way
pub record FitsBegin (s : State) (a : ℕ) (under : UnderState) : Type 0 where
  pub server : a < SERVERS
  pub begins : Begins s a under.under

-- there is room for a server's want of a lock
pub record FitsAsk (s : State) (a : ℕ) (lock : LockId) : Type 0 where
  pub server : a < SERVERS
  pub room : HasRoom s.locks a lock

-- a sector that isn't dirty, which the line of a server that isn't off needs under this cover, and there is room for it
pub record FitsSector (c : Core) (s : State) (a sector : ℕ) (lock : LockId) : Type 0 where
  pub server : a < SERVERS
  pub on : is_off (c.servers a).phase ≡ false
  pub cover : cover_needed (stage c a) sector ≡ Some lock
  pub clean : is_dirty_at (c.servers a).cache sector ≡ false
  pub room : HasFetchRoom s a

-- a slot of the log of a server that is off, and there is room for it
pub record FitsSlot (c : Core) (s : State) (a sector : ℕ) : Type 0 where
  pub server : a < SERVERS
  pub off : is_off (c.servers a).phase ≡ true
  pub slot : IsSlot a sector
  pub room : HasSlotRoom s a

-- what the stage of the line makes of it
pub record FitsAgain (c : Core) (a : ℕ) (again : Again) : Type 0 where
  pub server : a < SERVERS
  pub first : IsFirstWhereAnew again
  pub is : IsAgain (c.servers a) (stage c a) again

pub record FitsClear (s : State) (a : ℕ) : Type 0 where
  pub server : a < SERVERS
  pub room : HasClearRoom s a

-- the line is finished, and its kept plan comes to the same
pub record FitsCommit (c : Core) (s : State) (a : ℕ) : Type 0 where
  pub server : a < SERVERS
  pub room : HasCommitRoom s a
  pub outcome : Outcome
  pub finishes : stage c a ≡ Some (Finishing outcome)
  pub comes : ComesTo (plan_at s.parties a) outcome

-- the answer that is due, with the ring of a mount that begins; the line under way is its server's next
pub record FitsAnswer (c : Core) (s : State) (a : ℕ) (answer : PlainAnswer) (begun : Option SpaciousRing) : Type 0 where
  pub server : a < SERVERS
  pub due : due_at c a ≡ Some (reply_of answer)
  pub ring : IsMountRing s a answer begun
  pub next : IsNextLine s a

-- ---- writes and lives

-- a write that may be issued, its arming left aside
pub record FitsIssue (c : Core) (s : State) (a sector : ℕ) (wanted : WantedWrite) : Type 0 where
  pub issuable : IsIssuable c a sector (writes c a)
  pub write : value_at (writes c a) sector ≡ Some (write_of wanted)
  pub room : HasIssueRoom s a

-- a write in flight that may land
pub record FitsArrive (c : Core) (s : State) (ticket : ℕ) : Type 0 where
  pub flies : is_some (value_at c.flights ticket) ≡ true
  pub room : HasArriveRoom s ticket

-- a write in flight, and room for what becomes of it where it is lost
pub record FitsLose (c : Core) (s : State) (ticket : ℕ) : Type 0 where
  pub flies : is_some (value_at c.flights ticket) ≡ true
  pub room : HasLossRoom s ticket

-- what the core settles for a mounted server
pub record FitsDoom (c : Core) (a : ℕ) (settled : Fate) : Type 0 where
  pub server : a < SERVERS
  pub mounted : is_in_mount (c.servers a).phase ≡ true
  pub fate : fate_of settled ≡ effects.fate_of c a

-- ---- recoveries

-- a recovery as it begins, of the world's disk
pub record FitsRecover (c : Core) (s : State) (dead by : ℕ) (demon : Recovering) : Type 0 where
  pub may : IsTrue (may_recover c dead by)
  pub recovery : demon.recovery ≡ recovery_of dead
  pub disk : demon.segments ≡ s.parties.segments
  pub issued : demon.issued ≡ []

-- a slot that a recovery reads, and a sector that it looks at, and there is room
pub record FitsLoad (c : Core) (s : State) (by slot : ℕ) : Type 0 where
  pub can : CanLoad c by slot
  pub room : IsReady s.parties by

pub record FitsLook (c : Core) (s : State) (by sector : ℕ) : Type 0 where
  pub can : CanLook c by sector
  pub room : IsReady s.parties by

-- ---- all of it

-- what the call asks by which the world makes the event; of the tree, what the host's reading of it asks
abbrev pub MayMake : Core → State → HostReading → Ready → Type 0
MayMake c s tree (ready.Begin a under) = FitsBegin s a.0 under
MayMake c s tree (ready.Ask a lock mode) = FitsAsk s a.0 lock
MayMake c s tree (ready.FetchSector a sector cover) = FitsSector c s a.0 sector.0 cover
MayMake c s tree (ready.FetchSlot a sector) = FitsSlot c s a.0 sector.0
MayMake c s tree (ready.Again a again) = FitsAgain c a.0 again
MayMake c s tree (ready.Clear a block) = FitsClear s a.0
MayMake c s tree (ready.Commit a) = FitsCommit c s a.0
MayMake c s tree (ready.Answer a answer ring) = FitsAnswer c s a.0 answer ring
MayMake c s tree (ready.Give a lock) = IsTrue (may_give c a.0 lock)
MayMake c s tree (ready.Issue a sector write) = FitsIssue c s a.0 sector.0 write
MayMake c s tree (ready.Doom a fate) = FitsDoom c a.0 fate
MayMake c s tree (ready.Resume a) = IsTrue (may_resume c a.0)
MayMake c s tree (ready.Arrive ticket) = FitsArrive c s ticket.0
MayMake c s tree (ready.Lose ticket) = FitsLose c s ticket.0
MayMake c s tree (ready.Die a) = IsTrue (may_die c a.0)
MayMake c s tree (ready.Renew a) = a.0 < SERVERS
MayMake c s tree ready.Tick = s.tick < LAST_TICK
MayMake c s tree (ready.Recover dead by demon) = FitsRecover c s dead.0 by.0 demon
MayMake c s tree (ready.Load by slot) = FitsLoad c s by.0 slot
MayMake c s tree (ready.Look by sector) = FitsLook c s by.0 sector.0
MayMake c s tree (ready.Finish by) = IsTrue (may_finish c by.0)
MayMake c s tree (ready.HostLine number) = IsTrue (may_host c number)
MayMake c s tree (ready.Close a) = IsTrue (may_close c a.0)
MayMake c s tree (ready.Read sector) = tree.has_room ≡ true
MayMake c s tree (ready.Show place) = tree.is_made ≡ true
MayMake c s tree ready.End = Unit {0}
