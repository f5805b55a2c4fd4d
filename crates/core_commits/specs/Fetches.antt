-- What a Fetch of the core is: Fetch of a sector with a version, FetchBytes of one of bytes, Fail where the get failed; and none where a mount reads a slot of its log.
use Rattle.std.specs.Prelude.{◌≡◌, ◌≢◌, ℕ, false, IsTrue, Some, None}
use Rattle.frang_base.specs.declared.lock.LockId.{LockId}
use Rattle.sector_bytes.specs.Blocks.{Block}
use Rattle.sector_bytes.specs.SectorMaps.{value_at}
use Rattle.core_definitions.specs.Cores.{stage}
use Rattle.core_definitions.specs.Events.{Fetch, Got, GetFailed}
use Rattle.core_definitions.specs.LineEffects.{cover_needed}
use Rattle.core_definitions.specs.LineGuards.{is_server}
use Rattle.core_definitions.specs.Runs.{State as RunMoment, Makes, next}
use Rattle.core_definitions.specs.Servers.{is_off, is_up}
use Rattle.sector_world.specs.Histories.{settled}
use Rattle.sector_world.specs.HistoryBytes.{is_free}
use Rattle.sector_world.specs.Kinds.{Good}
use Rattle.sector_world.specs.World.{World, cover, has_version}
use Rattle.core_world.specs.Events.{LeadsQuietly}
use Rattle.core_world.specs.Journals.{Journal}
use Rattle.core_world.specs.Steps.{IsWorldOf}
use Rattle.core_world.specs.Ties.{is_log_sector}

-- A sector that a line needs and that isn't cached: the cover with which it is needed is its cover, under a lock that the server holds; it is in no log, and one of bytes isn't free
pub record IsFetchable (s : RunMoment) (w : World) (a sector : ℕ) (lock : LockId) : Type 0 where
  pub up : IsTrue (is_up (s.core.servers a).phase)
  pub needed : cover_needed (stage s.core a) sector ≡ Some lock
  pub covered : lock ≡ cover w sector
  pub held : w.holds a lock ≢ None
  pub absent : value_at (s.core.servers a).cache sector ≡ None
  pub filled : has_version w sector ≡ false → is_free w.first (settled w.history) sector ≡ false
  pub no_log : is_log_sector s.core.setting.segments sector ≡ false

-- it comes in
abbrev pub FetchesAreEvents : Type 0
FetchesAreEvents =
    (s : RunMoment) (w : World) (journal : ℕ → Journal) (a sector : ℕ) (lock : LockId) (block : Block) → IsWorldOf s w journal → Good w → Makes s (Fetch a sector) (Got block) →
    IsFetchable s w a sector lock → LeadsQuietly w (next s (Fetch a sector) (Got block)) journal

-- or its get fails
abbrev pub FailedFetchesAreEvents : Type 0
FailedFetchesAreEvents =
    (s : RunMoment) (w : World) (journal : ℕ → Journal) (a sector : ℕ) → IsWorldOf s w journal → IsTrue (is_server a) → IsTrue (is_up (s.core.servers a).phase) →
    LeadsQuietly w (next s (Fetch a sector) GetFailed) journal

-- a mount that reads its log, or fails to
abbrev pub MountsFetchNone : Type 0
MountsFetchNone =
    (s : RunMoment) (w : World) (journal : ℕ → Journal) (a sector : ℕ) (block : Block) → IsWorldOf s w journal → IsTrue (is_off (s.core.servers a).phase) →
    LeadsQuietly w (next s (Fetch a sector) (Got block)) journal × LeadsQuietly w (next s (Fetch a sector) GetFailed) journal
