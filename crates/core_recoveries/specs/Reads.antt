-- What a recovery reads: the slots of a log, and the sectors that its records name.
use Rattle.std.specs.Prelude.{◌≡◌, ◌⊎◌, ℕ, false, IsTrue, List, Some}
use Rattle.frang_base.specs.declared.change.Redo.{Redo}
use Rattle.disk_definitions.specs.Regions.{region_of}
use Rattle.disk_definitions.specs.Replay.{is_replayed}
use Rattle.core_definitions.specs.Events.{Load, Look, Got, GetFailed}
use Rattle.core_definitions.specs.Logs.{is_read}
use Rattle.core_definitions.specs.Recoveries.{Recovery}
use Rattle.core_definitions.specs.Runs.{State as RunMoment, Makes, next}
use Rattle.core_definitions.specs.Settings.{disk_logs}
use Rattle.sector_bytes.specs.Blocks.{Block}
use Rattle.sector_bytes.specs.SectorMaps.{with_value}
use Rattle.sector_world.specs.Guards.{NoneNames, to_replay}
use Rattle.sector_world.specs.Kinds.{Good}
use Rattle.sector_world.specs.World.{World}
use Rattle.core_world.specs.Events.{LeadsQuietly}
use Rattle.core_world.specs.Journals.{AreReadings, Journal}
use Rattle.core_world.specs.Readings.{AreNamed, ReadsAs}
use Rattle.core_world.specs.Steps.{IsReached, IsWorldOf}

-- a Load is none; that what is read then replays as the records of the theorem on sectors, once all is read, is another law's, and asked for here
abbrev pub LoadsAreNone : Type 0
LoadsAreNone =
    (s : RunMoment) (w : World) (journal : ℕ → Journal) (by slot : ℕ) (block : Block) → IsReached s → IsWorldOf s w journal → Makes s (Load by slot) (Got block) →
    AreReadings s.core.setting.segments (next s (Load by slot) (Got block)).core.servers w → LeadsQuietly w (next s (Load by slot) (Got block)) journal

-- a Look
abbrev pub LooksAreEvents : Type 0
LooksAreEvents =
    (s : RunMoment) (w : World) (journal : ℕ → Journal) (by sector : ℕ) (block : Block) → IsReached s → IsWorldOf s w journal → Good w → Makes s (Look by sector) (Got block) →
    LeadsQuietly w (next s (Look by sector) (Got block)) journal

-- one of these that fails
abbrev pub FailedLoadsAreEvents : Type 0
FailedLoadsAreEvents =
    (s : RunMoment) (w : World) (journal : ℕ → Journal) (by slot : ℕ) → IsReached s → IsWorldOf s w journal → Makes s (Load by slot) GetFailed →
    LeadsQuietly w (next s (Load by slot) GetFailed) journal

abbrev pub FailedLooksAreEvents : Type 0
FailedLooksAreEvents =
    (s : RunMoment) (w : World) (journal : ℕ → Journal) (by sector : ℕ) → IsReached s → IsWorldOf s w journal → Makes s (Look by sector) GetFailed →
    LeadsQuietly w (next s (Look by sector) GetFailed) journal

-- ---- what is asked of a Load

-- one that isn't the last has it
abbrev pub EarlyLoadsAreRead : Type 0
EarlyLoadsAreRead =
    (s : RunMoment) (w : World) (journal : ℕ → Journal) (by slot : ℕ) (block : Block) (recovery : Recovery) → IsWorldOf s w journal → (s.core.servers by).recovery ≡ Some recovery →
    is_read disk_logs (with_value recovery.slots slot block) ≡ false → AreReadings s.core.setting.segments (next s (Load by slot) (Got block)).core.servers w

-- each sector that is to be replayed is of a region that a replay changes
abbrev pub AreReplayed : ℕ → World → ℕ → Type 0
AreReplayed segments w d = (s : ℕ) → NoneNames (to_replay w d) s ⊎ IsTrue (is_replayed (region_of segments s))

-- then of what replays alike the names follow
abbrev pub NamesFollow : Type 0
NamesFollow = (segments : ℕ) (w : World) (d : ℕ) (records : List Redo) → ReadsAs w d records → AreReplayed segments w d → AreNamed segments w d records
