-- What the events of a world need of room.
use Rattle.std.specs.Prelude.{◌≡◌, ◌≤◌, ◌<◌, ◌||◌, ◌==◌, ℕ, true, IfSome, IsSome, IsSomeAnd, IsTrue, Option, Some, None}
use Rattle.std.specs.List.{slice_get}
use Rattle.frang_base.specs.declared.limits.TheConstants.{SMALL_BLOCK_SECTORS}
use Rattle.ring_definitions.specs.Rings.{ring_at}
use Rattle.sector_bytes.specs.SectorMaps.{value_at}
use Rattle.core_definitions.specs.Cores.{next_of}
use Rattle.core_definitions.specs.LineEffects.{number_under}
use Rattle.core_definitions.specs.LineGuards.{is_server}
use Rattle.core_definitions.specs.Logs.{end_of}
use Rattle.core_definitions.specs.Scripts.{host_party}
use Rattle.core_definitions.specs.Settings.{disk_logs}
use Rattle.petal_disk.specs.declared.flying.Flying.{Flying}
use Rattle.petal_disk.specs.declared.flying.Purpose.TheVariants.{OfRecovery}
use Rattle.petal_disk.specs.Flights.{write_at}
use Rattle.kept_plans.specs.declared.kept.KeptEnd.{KeptEnd}
use Rattle.kept_plans.specs.declared.kept.KeptEnd.TheVariants as ends
use Rattle.kept_plans.specs.declared.kept.KeptPlan.{KeptPlan}
use Rattle.kept_plans.specs.declared.kept.KeptPlan.TheVariants as kept
use Rattle.server_core.specs.Outcomes.{MayCommit}
use Rattle.server_core.specs.declared.answers.PlainAnswer.{PlainAnswer}
use Rattle.server_core.specs.declared.answers.PlainAnswer.TheVariants.{Mounted}
use Rattle.server_core.specs.States as server
use Rattle.wal_ring.specs.SpaciousRings.{SpaciousRing}
use Rattle.world_parties.specs.declared.party.Party.{Party}
use Rattle.world_parties.specs.States.{IsReady, State as Parties, recovering_by}
use Rattle.world_state.specs.States.{State, core_at}

-- a server has this
abbrev pub OfParty : State → ℕ → (Party → Type 0) → Type 0
OfParty s a Has = IfSome (slice_get s.parties.parties a) Has

-- its cache has room for one more sector
abbrev pub HasFetchRoom : State → ℕ → Type 0
HasFetchRoom s a = OfParty s a (λ party. 1 ≤ party.server.spare)

-- its mount has room for one more slot
abbrev pub HasSlotRoom : State → ℕ → Type 0
HasSlotRoom s a = OfParty s a (λ party. 0 < party.server.slots)

-- it has room for one more block that is cleared
abbrev pub HasClearRoom : State → ℕ → Type 0
HasClearRoom s a = OfParty s a (λ party. (SMALL_BLOCK_SECTORS ≤ party.server.spare) × (SMALL_BLOCK_SECTORS ≤ party.server.zeros))

-- the recovery of the party of a write, where it carries out one, has room for its next change
abbrev pub HasLossRoom : State → ℕ → Type 0
HasLossRoom s ticket = IfSome (value_at (core_at s).flights ticket) (λ flight. IsReady s.parties flight.server)

-- a kept plan is of a finished line that the server may commit
abbrev pub MayCommitEnd : server.State → KeptEnd → Type 0
MayCommitEnd state (ends.Done done) = MayCommit state done.outcome
MayCommitEnd state end = ⊥

abbrev pub MayCommitPlan : server.State → Option KeptPlan → Type 0
MayCommitPlan state (Some (kept.Planned plan)) = MayCommitEnd state plan.end
MayCommitPlan state plan = ⊥

-- the line under way of a server is its next
abbrev pub IsNextLine : State → ℕ → Type 0
IsNextLine s a = IsSomeAnd (next_of (core_at s) a) (λ line. line.number ≡ number_under ((core_at s).servers a).under)

-- its kept plan may be committed, and its line under way is its next
pub record HasCommitRoom (s : State) (a : ℕ) : Type 0 where
  pub plan : OfParty s a (λ party. MayCommitPlan party.server party.plan)
  pub next : IsNextLine s a

-- ---- writes

-- one more write may be put in flight, and a party's recovery, if it has one, has room for its next change
pub record HasIssueRoom (s : State) (by : ℕ) : Type 0 where
  pub flights : 0 < s.flights.room
  pub recovery : IsReady s.parties by

-- its party is a server or the host, whose recovery has room for its next change; and where it is of the recovery of the present mount, that recovery, if there is one, has issued it
pub record MayLand (parties : Parties) (flying : Flying) : Type 0 where
  pub party : IsTrue (is_server flying.put.server.0 || flying.put.server.0 == host_party)
  pub ready : IsReady parties flying.put.server.0
  pub issued : flying.present ≡ true → flying.purpose ≡ OfRecovery → IfSome (recovering_by parties flying.put.server.0) (λ r. IsSome (value_at r.issued flying.put.sector.0))

-- a write in flight may land
abbrev pub HasArriveRoom : State → ℕ → Type 0
HasArriveRoom s ticket = IfSome (write_at s.flights.flying ticket) (MayLand s.parties)

-- ---- answers

-- the ring of a mount that is answered `mounted` goes on behind the end of the log that the line under way has read; for other answers there is none
abbrev pub IsMountRing : State → ℕ → PlainAnswer → Option SpaciousRing → Type 0
IsMountRing s a Mounted ring = IsSomeAnd ((core_at s).servers a).under (λ under. IsSomeAnd ring (λ r. r.ring ≡ ring_at (end_of disk_logs under.slots)))
IsMountRing s a answer ring = ring ≡ None
