-- The first moment, and what Renew, Tick, Ask, Give and Die are in the theorem on sectors. What an event rests on beside the ties is a premise here: of the core alone, to
-- be shown of every run.
use Rattle.std.specs.Prelude.{◌≡◌, ◌≤◌, ◌<◌, ℕ, Bool, true}
use Rattle.std.specs.List.{Contains}
use Rattle.frang_base.specs.declared.limits.TheConstants.{SERVERS}
use Rattle.frang_base.specs.declared.lock.LockId.{LockId}
use Rattle.frang_base.specs.declared.lock.Mode.{Mode}
use Rattle.sector_bytes.specs.Sectors.{Sectors}
use Rattle.core_definitions.specs.Cores.{Core}
use Rattle.core_definitions.specs.Events.{Ask, Die, Give, Nothing, Renew, Tick}
use Rattle.core_definitions.specs.Flights.{Flight}
use Rattle.core_definitions.specs.Runs.{State as RunMoment, Makes, first_state, next}
use Rattle.core_definitions.specs.Scripts.{host_party}
use Rattle.core_definitions.specs.Servers.{Doomed, Fate, Off}
use Rattle.core_definitions.specs.Settings.{Setting}
use Rattle.sector_world.specs.Kinds.{Good}
use Rattle.sector_world.specs.Steps as sectors
use Rattle.sector_world.specs.World.{World, start}
use Rattle.core_world.specs.Journals.{AreZero, Journal}
use Rattle.core_world.specs.Quiet.{AllQuiet}
use Rattle.core_world.specs.Steps.{IsReached, IsWorldOf, Leads}

-- ---- the first moment

-- sixteen servers over the disk, and the host, which recovers and whose lease is renewed at each moment
abbrev pub first_world : Sectors → (ℕ → Bool) → (ℕ → Bool) → (ℕ → LockId) → World
first_world disk logged of_files home = sectors.after (start SERVERS disk logged of_files home) (sectors.Renew host_party)

-- over zero logs of its servers the first moment has it, whichever sectors have versions, are of files, and are under which locks
abbrev pub FirstMomentsAreWorlds : Type 0
FirstMomentsAreWorlds =
    (setting : Setting) (disk : Sectors) (logged of_files : ℕ → Bool) (home : ℕ → LockId) (journal : ℕ → Journal) →
    AreZero disk → IsWorldOf (first_state setting disk) (first_world disk logged of_files home) journal

-- and it keeps what every event of the theorem on sectors keeps
abbrev pub FirstMomentsAreGood : Type 0
FirstMomentsAreGood = (disk : Sectors) (logged of_files : ℕ → Bool) (home : ℕ → LockId) → Good (first_world disk logged of_files home)

-- ---- events

-- so does what a step leads to
abbrev pub LeadsStayGood : Type 0
LeadsStayGood = (w : World) (v : RunMoment) (journal : ℕ → Journal) → Good w → (leads : Leads w v journal) → Good leads.world

-- the history is the same, and what it began with
pub record IsSameStory (w u : World) : Type 0 where
  pub servers : u.servers ≡ w.servers
  pub opening : u.opening ≡ w.opening
  pub logged : u.logged ≡ w.logged
  pub first : u.first ≡ w.first
  pub home : u.home ≡ w.home
  pub history : u.history ≡ w.history

-- events that lead to the next moment with these journals, and of which there is nothing to tell
pub record LeadsUntold (w : World) (v : RunMoment) (journal : ℕ → Journal) : Type 0 where
  pub leads : Leads w v journal
  pub story : IsSameStory w leads.world

-- quiet ones
pub record LeadsQuietly (w : World) (v : RunMoment) (journal : ℕ → Journal) : Type 0 where
  pub leads : Leads w v journal
  pub story : IsSameStory w leads.world
  pub quiet : AllQuiet v.core.setting.segments w leads.events

-- a Renew leads quietly on
abbrev pub RenewsAreEvents : Type 0
RenewsAreEvents =
    (s : RunMoment) (w : World) (journal : ℕ → Journal) (a : ℕ) → IsReached s → IsWorldOf s w journal → Makes s (Renew a) Nothing → LeadsQuietly w (next s (Renew a) Nothing) journal

-- the host is never mounted
abbrev pub HostsAreOff : Type 0
HostsAreOff = (s : RunMoment) → IsReached s → (s.core.servers host_party).phase ≡ Off

-- so does a Tick
abbrev pub TicksAreEvents : Type 0
TicksAreEvents =
    (s : RunMoment) (w : World) (journal : ℕ → Journal) → IsReached s → IsWorldOf s w journal → Makes s Tick Nothing → LeadsQuietly w (next s Tick Nothing) journal

-- an Ask, whether the lock is granted or the wish is noted
abbrev pub AsksAreEvents : Type 0
AsksAreEvents =
    (s : RunMoment) (w : World) (journal : ℕ → Journal) (a : ℕ) (lock : LockId) (mode : Mode) → IsReached s → IsWorldOf s w journal → Makes s (Ask a lock mode) Nothing →
    LeadsQuietly w (next s (Ask a lock mode) Nothing) journal

-- what is in time of a server is of its present mount
abbrev pub OwnAreFresh : Core → ℕ → Type 0
OwnAreFresh c a = (one : ℕ × Flight) → Contains c.flights one → one.1.server ≡ a → c.now ≤ one.1.stamp → one.1.present ≡ true

-- a Give
abbrev pub GivesAreEvents : Type 0
GivesAreEvents =
    (s : RunMoment) (w : World) (journal : ℕ → Journal) (a : ℕ) (lock : LockId) → IsReached s → IsWorldOf s w journal → Good w → OwnAreFresh s.core a →
    Makes s (Give a lock) Nothing → LeadsQuietly w (next s (Give a lock) Nothing) journal

-- a Die, whether what is in flight goes with the server or not
abbrev pub DeathsAreEvents : Type 0
DeathsAreEvents =
    (s : RunMoment) (w : World) (journal : ℕ → Journal) (a : ℕ) (fate : Fate) → IsReached s → IsWorldOf s w journal → (s.core.servers a).phase ≡ Doomed fate →
    Makes s (Die a) Nothing → LeadsQuietly w (next s (Die a) Nothing) journal
