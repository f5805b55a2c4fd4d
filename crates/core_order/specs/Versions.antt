-- Each record that stands in a log names versions from 1 on: from step to step, beside worlds and journals that go on.
use Rattle.std.specs.Prelude.{◌≡◌, ◌≤◌, ◌<◌, ◌⊎◌, ℕ, Bool, false, true, IsTrue, List}
use Rattle.std.specs.List.{Contains}
use Rattle.frang_base.specs.declared.change.Redo.{Redo}
use Rattle.disk_definitions.specs.Logs.{log_records}
use Rattle.disk_definitions.specs.Replay.{slots_of}
use Rattle.ring_definitions.specs.RingRuns.{Placed, all_records}
use Rattle.sector_bytes.specs.Sectors.{Sectors}
use Rattle.sector_world.specs.Histories.{Named}
use Rattle.sector_world.specs.Kinds.{Good}
use Rattle.sector_world.specs.World.{World}
use Rattle.core_definitions.specs.LineGuards.{is_server}
use Rattle.core_definitions.specs.Runs.{State as RunMoment, Step, first_state}
use Rattle.core_definitions.specs.Servers.{is_off}
use Rattle.core_world.specs.Journals.{Journal, journal_at}
use Rattle.core_world.specs.Steps.{IsReached, IsWorldOf}
use Rattle.core_readings.specs.Logs.{AreLogs}
use Rattle.headline_definitions.specs.Beginning.{Beginning, IsOpening}
use Rattle.headline_definitions.specs.Laws.{setting_by}

-- each of these records does
abbrev pub NameFromOne : List Redo → Type 0
NameFromOne records = (x v : ℕ) → Named records x v → 1 ≤ v

-- those of the log of a server that is off, as it stands on the disk; of another those that its journal begins with and those that were appended since
abbrev pub records_beside : Bool → RunMoment → ℕ → Journal → List Redo
records_beside true s a j = log_records (slots_of s.disk a)
records_beside false s a j = all_records j.before j.log

abbrev pub AreVersioned : RunMoment → (ℕ → Journal) → Type 0
AreVersioned s journal = (a : ℕ) → IsTrue (is_server a) → NameFromOne (records_beside (is_off (s.core.servers a).phase) s a (journal a))

-- each record that stands in a server's log on the disk does
abbrev pub NameVersions : Sectors → Type 0
NameVersions disk = (a : ℕ) → IsTrue (is_server a) → NameFromOne (log_records (slots_of disk a))

-- so the logs on the disk do
abbrev pub VersionsAreNamed : Type 0
VersionsAreNamed = (s : RunMoment) (journal : ℕ → Journal) → AreLogs s journal → AreVersioned s journal → NameVersions s.disk

-- ---- from step to step

-- a journal begins as before, and each record that is in it now was in it, or isn't given up in the world
pub record GoesOnBy (u : World) (a : ℕ) (j then : Journal) : Type 0 where
  pub before : then.before ≡ j.before
  pub placed : (p : Placed) → Contains then.log.placed p → Contains j.log.placed p ⊎ (u.floor a < p.redo.op.0)

-- so goes that of each server that was mounted or dead; and one that was off and is mounted begins behind what stands in its log
pub record JournalsGoOn (s v : RunMoment) (u : World) (journal then : ℕ → Journal) : Type 0 where
  pub on : (a : ℕ) → IsTrue (is_server a) → is_off (s.core.servers a).phase ≡ false → is_off (v.core.servers a).phase ≡ false → GoesOnBy u a (journal a) (then a)
  pub anew : (a : ℕ) → IsTrue (is_server a) → IsTrue (is_off (s.core.servers a).phase) → is_off (v.core.servers a).phase ≡ false → then a ≡ journal_at (slots_of s.disk a)

-- where journals go on so, records stay so
abbrev pub VersionsStay : Type 0
VersionsStay =
    (s v : RunMoment) (u : World) (journal then : ℕ → Journal) → IsReached s → Step s v → AreLogs s journal → IsWorldOf v u then → Good u → JournalsGoOn s v u journal then →
    AreVersioned s journal → AreVersioned v then

-- over the disk of an opening they are so at first
abbrev pub VersionsBegin : Type 0
VersionsBegin = (b : Beginning) (journal : ℕ → Journal) → IsOpening b.opening b.disk → AreVersioned (first_state (setting_by b) b.disk) journal
