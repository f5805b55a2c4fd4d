-- What contracts see of the parties, and the servers of the core that they are.
use Rattle.std.specs.Prelude.{◌≡◌, ◌⊎◌, ◌≤◌, ◌<◌, ℕ, Bool, true, IfSome, IsTrue, if◌then◌else◌, nat_eq, Option, Some, None, is_some, List, [], length, map, slice_index_or}
use Rattle.std.specs.List.{All, slice_get}
use Rattle.std.specs.Option.{option_map}
use Rattle.frang_base.specs.Functions.{member, put}
use Rattle.frang_base.specs.declared.limits.TheConstants.{SEGMENTS_MAX, SERVERS}
use Rattle.core_definitions.specs.Cores.{server_numbers}
use Rattle.core_definitions.specs.Recoveries.{Recovery}
use Rattle.core_definitions.specs.Scripts.{Marks, host_party}
use Rattle.core_definitions.specs.Servers.{Server}
use Rattle.recovery_demon.specs.Recovering.{Recovering}
use Rattle.world_definitions.specs.Worlds.{marks_of, servers_of}
use Rattle.sector_bytes.specs.Blocks.{Block}
use Rattle.sector_bytes.specs.SectorMaps.{Ascend, value_at}
use Rattle.clerk_cache.specs.Dropping.{numbers_of}
use Rattle.kept_plans.specs.Keeping.{SameBeside}
use Rattle.kept_plans.specs.declared.kept.KeptPlan.{KeptPlan}
use Rattle.world_parties.specs.declared.party.Party.{Party}

-- ---- a party

abbrev pub recovery_in : Option Recovering → Option Recovery
recovery_in recovering = option_map (λ r. r.recovery) recovering

-- the server of the core that it is
abbrev pub server_of : Party → Server
server_of party = record party.server.server { recovery = recovery_in party.recovery }

-- ---- all of them

-- the segments of the disk; the servers by their numbers, the host's recovery, and by the numbers of servers which are held
pub record State : Type 0 where
  pub segments : ℕ
  pub parties : List Party
  pub host : Option Recovering
  pub held : List Bool

-- the servers of the core, and the host as one of them
abbrev pub servers_at : State → ℕ → Server
servers_at s = servers_of (map server_of s.parties) (recovery_in s.host)

abbrev pub held_at : State → Marks
held_at s = marks_of s.held

-- the recovery that a server or the host carries out
abbrev pub recovering_by : State → ℕ → Option Recovering
recovering_by s by = if nat_eq by host_party then s.host else slice_index_or (map (λ party. party.recovery) s.parties) by None

-- ---- what becomes of them

-- the disk is the same, and the same servers are held
pub record Stays (old new : State) : Type 0 where
  pub segments : new.segments ≡ old.segments
  pub held : new.held ≡ old.held

-- nothing has changed that the core knows
pub record IsSame (old new : State) : Type 0 where
  pub servers : servers_at new ≡ servers_at old
  pub stays : Stays old new

-- the party of a number is this server from then on, and nothing else has changed
pub record Becomes (old new : State) (a : ℕ) (server : Server) : Type 0 where
  pub servers : servers_at new ≡ put (servers_at old) a server
  pub stays : Stays old new

-- each party is what this makes of it, and nothing else has changed
pub record EachBecomes (old new : State) (change : Server → Server) : Type 0 where
  pub servers : servers_at new ≡ (λ a. change (servers_at old a))
  pub stays : Stays old new

-- ---- how they are kept

-- a recovery that a party carries out is of a disk of so many segments, and of the log of another server; the sectors of its issued writes ascend
pub record IsOfOther (segments by : ℕ) (r : Recovering) : Type 0 where
  pub disk : r.segments ≡ segments
  pub server : r.recovery.dead < SERVERS
  pub other : r.recovery.dead ≡ by → ⊥
  pub issued : Ascend r.issued

abbrev pub IsRecovery : ℕ → ℕ → Option Recovering → Type 0
IsRecovery segments by recovery = IfSome recovery (IsOfOther segments by)

-- sixteen servers, each in the place of its number, with a mark each whether it is held; the disk has so many segments as a disk may have, and each recovery is of it
pub record AreKept (s : State) : Type 0 where
  pub long : length s.parties ≡ SERVERS
  pub marked : length s.held ≡ SERVERS
  pub placed : map (λ party. party.server.id) s.parties ≡ server_numbers
  pub most : s.segments ≤ SEGMENTS_MAX
  pub each : All (λ party. IsRecovery s.segments party.server.id party.recovery) s.parties
  pub own : IsRecovery s.segments host_party s.host

-- ---- recoveries

-- what its slots say is read off them
abbrev pub IsFresh : State → ℕ → Type 0
IsFresh s by = IfSome (recovering_by s by) (λ r. IsTrue r.is_fresh)

-- and there is room for its next change
abbrev pub IsReady : State → ℕ → Type 0
IsReady s by = IfSome (recovering_by s by) (λ r. IsTrue r.is_ready)

-- ---- what is kept beside the servers

-- the sectors of a server that are flagged as in flight
abbrev pub flags_at : State → ℕ → List ℕ
flags_at s a = slice_index_or (map (λ party. party.server.flying) s.parties) a []

-- the writes for a recovery that are issued and not acknowledged
abbrev pub issued_in : Option Recovering → List (ℕ × Block)
issued_in None = []
issued_in (Some r) = r.issued

abbrev pub issued_at : State → ℕ → List (ℕ × Block)
issued_at s by = issued_in (recovering_by s by)

-- the plan of a server's line that is kept
abbrev pub plan_at : State → ℕ → Option KeptPlan
plan_at s a = slice_index_or (map (λ party. party.plan) s.parties) a None

-- the sectors that the oldest records of a log name, where they are kept
abbrev pub oldest_of : Party → Option (List ℕ)
oldest_of party = option_map (λ sectors. numbers_of sectors.items) party.oldest

abbrev pub oldest_at : State → ℕ → Option (List ℕ)
oldest_at s a = slice_index_or (map oldest_of s.parties) a None

-- nothing is kept, flagged or issued
pub record IsBare (s : State) (a : ℕ) : Type 0 where
  pub flags : flags_at s a ≡ []
  pub issued : issued_at s a ≡ []
  pub plan : plan_at s a ≡ None
  pub oldest : oldest_at s a ≡ None

-- each of these sectors was among those
abbrev pub AreAmong : List ℕ → List ℕ → Type 0
AreAmong new old = (sector : ℕ) → member sector new ≡ true → member sector old ≡ true

abbrev pub AreIssuedAmong : List (ℕ × Block) → List (ℕ × Block) → Type 0
AreIssuedAmong new old = (sector : ℕ) → is_some (value_at new sector) ≡ true → is_some (value_at old sector) ≡ true

-- a plan that is kept was kept before, and the line and what it may use of the cache are the same
abbrev pub PlanStays : Option KeptPlan → Server → Option KeptPlan → Server → Type 0
PlanStays old before None after = Unit {0}
PlanStays old before (Some plan) after = (old ≡ Some plan) × SameBeside before after

-- sectors of the oldest records that are kept were kept before, and the log is the same
abbrev pub OldestStay : Option (List ℕ) → Server → Option (List ℕ) → Server → Type 0
OldestStay old before None after = Unit {0}
OldestStay old before (Some sectors) after = (old ≡ Some sectors) × (after.ring ≡ before.ring)

-- of one party: no flag and no issued write is new, and what is kept of its line stays only where it is still of the server
pub record PartyKeeps (old new : Party) : Type 0 where
  pub flags : AreAmong new.server.flying old.server.flying
  pub issued : AreIssuedAmong (issued_in new.recovery) (issued_in old.recovery)
  pub plan : PlanStays old.plan (server_of old) new.plan (server_of new)
  pub oldest : OldestStay (oldest_of old) (server_of old) (oldest_of new) (server_of new)

-- of all parties
pub record Keeps (old new : State) : Type 0 where
  pub flags : (a : ℕ) → AreAmong (flags_at new a) (flags_at old a)
  pub issued : (by : ℕ) → AreIssuedAmong (issued_at new by) (issued_at old by)
  pub plans : (a : ℕ) → PlanStays (plan_at old a) (servers_at old a) (plan_at new a) (servers_at new a)
  pub oldest : (a : ℕ) → OldestStay (oldest_at old a) (servers_at old a) (oldest_at new a) (servers_at new a)

-- nothing that is kept of a party has changed but the recovery of this one
pub record RestStays (old new : State) (by : ℕ) : Type 0 where
  pub flags : (a : ℕ) → flags_at new a ≡ flags_at old a
  pub plans : (a : ℕ) → plan_at new a ≡ plan_at old a
  pub oldest : (a : ℕ) → oldest_at new a ≡ oldest_at old a
  pub recoveries : (a : ℕ) → (a ≡ by → ⊥) → recovering_by new a ≡ recovering_by old a

-- ---- a party out of its place

-- all others are as before, and so is the host's recovery
pub record OthersStay (old new : State) (a : ℕ) : Type 0 where
  pub others : (b : ℕ) → (b ≡ a → ⊥) → slice_get new.parties b ≡ slice_get old.parties b
  pub host : new.host ≡ old.host
  pub stays : Stays old new

-- and this one stands in the place
pub record IsPut (old new : State) (a : ℕ) (party : Party) : Type 0 where
  pub at : slice_get new.parties a ≡ Some party
  pub others : OthersStay old new a

-- of all parties, but that this sector may be flagged or issued at one of them
pub record KeepsBut (old new : State) (by sector : ℕ) : Type 0 where
  pub flags : (a x : ℕ) → member x (flags_at new a) ≡ true → (member x (flags_at old a) ≡ true) ⊎ ((a ≡ by) × (x ≡ sector))
  pub issued : (a x : ℕ) → is_some (value_at (issued_at new a) x) ≡ true → (is_some (value_at (issued_at old a) x) ≡ true) ⊎ ((a ≡ by) × (x ≡ sector))
  pub plans : (a : ℕ) → PlanStays (plan_at old a) (servers_at old a) (plan_at new a) (servers_at new a)
  pub oldest : (a : ℕ) → OldestStay (oldest_at old a) (servers_at old a) (oldest_at new a) (servers_at new a)
