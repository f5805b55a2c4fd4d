-- The disk with all logs replayed is the world's, but for the logs, by what stands of the logs beside a world.
use Rattle.std.specs.Prelude.{◌≡◌, ◌⊎◌, ℕ, IsTrue, List}
use Rattle.frang_base.specs.declared.limits.TheConstants.{SERVERS}
use Rattle.disk_definitions.specs.Regions.{region_of}
use Rattle.disk_definitions.specs.Replay.{is_replayed}
use Rattle.sector_world.specs.Guards.{NoneNames}
use Rattle.sector_world.specs.Kinds.{Good}
use Rattle.sector_world.specs.World.{World}
use Rattle.core_definitions.specs.Runs.{State as RunMoment, Run, first_state}
use Rattle.core_world.specs.Journals.{Journal}
use Rattle.core_world.specs.Steps.{IsReached, IsWorldOf}
use Rattle.core_readings.specs.Logs.{AreLogs, AreSealedBehind, OthersAreEmpty}
use Rattle.headline_definitions.specs.Beginning.{Beginning}
use Rattle.headline_definitions.specs.Laws.{Begins, setting_by}
use Rattle.headline_histories.specs.Left.{LeftIsKept, LogsKeepAll, ReplaysAs}
use Rattle.headline_histories.specs.Moments.{IsMomentOf, witnessed_to}

-- each record of the world names only sectors of regions that a replay changes
abbrev pub NameRegions : ℕ → World → Type 0
NameRegions segments w = (d x : ℕ) → NoneNames (w.log d) x ⊎ IsTrue (is_replayed (region_of segments x))

-- at sectors with versions and at those without
abbrev pub ReplaysAreAsTheWorlds : Type 0
ReplaysAreAsTheWorlds =
    (s : RunMoment) (w : World) (journal : ℕ → Journal) → IsReached s → IsWorldOf s w journal → Good w → w.servers ≡ SERVERS → AreLogs s journal → AreSealedBehind s w journal →
    OthersAreEmpty s.disk → NameRegions s.core.setting.segments w → ReplaysAs s w

-- over every run only logs of servers have records: nobody else is ever mounted, and nothing else in a log is written
abbrev pub OthersStayEmpty : Type 0
OthersStayEmpty = (b : Beginning) (s : RunMoment) → Begins b → Run (first_state (setting_by b) b.disk) s → OthersAreEmpty s.disk

-- so at a moment of a run what a stop leaves follows from what stands of the logs
abbrev pub MomentsKeepWhatLogsLeave : Type 0
MomentsKeepWhatLogsLeave =
    (b : Beginning) (s : RunMoment) (w : World) (journal : ℕ → Journal) (when : ℕ → ℕ) (numbers : List ℕ) (m : IsMomentOf b s w when numbers) → IsWorldOf s w journal → AreLogs s journal →
    AreSealedBehind s w journal → NameRegions s.core.setting.segments w → LogsKeepAll b.opening.tree s w m.told.happened → LeftIsKept b (witnessed_to b s m.run)
