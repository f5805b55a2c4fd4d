-- All that stands beside a moment of a run of the core: a world of the theorem on sectors with its ties, and what the laws of the core's events ask of both. It is what the law over runs
-- is shown by, step by step.
use Rattle.std.specs.Prelude.{◌≡◌, ◌⊎◌, ℕ, IsTrue, List, []}
use Rattle.frang_base.specs.declared.limits.TheConstants.{SERVERS}
use Rattle.tree_definitions.specs.Tree.{FileTree}
use Rattle.disk_definitions.specs.Regions.{region_of}
use Rattle.disk_definitions.specs.Replay.{is_replayed}
use Rattle.sector_world.specs.Guards.{NoneNames}
use Rattle.sector_world.specs.World.{World}
use Rattle.core_definitions.specs.LineGuards.{is_server}
use Rattle.core_definitions.specs.Runs.{State as RunMoment}
use Rattle.core_definitions.specs.Servers.{Server, is_in_mount}
use Rattle.core_world.specs.Beside.{AreEnds, AreOpen, NoneInLogs}
use Rattle.core_world.specs.Journals.{Journal}
use Rattle.core_lives.specs.Room.{HasRoom}
use Rattle.core_commits.specs.Clears.{IsReachedWithAll}
use Rattle.core_commits.specs.Moments.{IsOfARun}
use Rattle.core_line_steps.specs.Held.{WritesAreHeld}
use Rattle.core_line_steps.specs.Numbers.{AreNumbered, IsAskedWell}
use Rattle.core_line_steps.specs.Pending.{AreClearedSo}
use Rattle.core_writes.specs.Arrivals.{AreAcknowledged}
use Rattle.core_readings.specs.Logs.{AreLogs, AreSealedBehind}
use Rattle.core_histories.specs.Tellings.{IsTold}
use Rattle.stop_laws.specs.Events.{IsInSight}
use Rattle.stop_laws.specs.Known.{KnowsCells}

-- ---- beside a world

-- where all operations of a server in a mount are acknowledged, so is its whole log
abbrev pub AreReachedWithAll : (ℕ → Server) → World → Type 0
AreReachedWithAll servers w = (a : ℕ) → IsTrue (is_server a) → IsTrue (is_in_mount (servers a).phase) → IsReachedWithAll servers w a

-- each record of the world names only sectors of regions that a replay changes
abbrev pub NameRegions : ℕ → World → Type 0
NameRegions segments w = (d s : ℕ) → NoneNames (w.log d) s ⊎ IsTrue (is_replayed (region_of segments s))

-- what is dirty: of free sectors only what Clear wanted written, and the marks lie where the journals have operations end
pub record IsDirtSo (s : RunMoment) (w : World) (journal : ℕ → Journal) : Type 0 where
  pub cleared : AreClearedSo s.core.servers w
  pub ends : AreEnds s.core.servers w journal
  pub reached : AreReachedWithAll s.core.servers w

-- a moment of a run of a script that may be asked, with its world of sixteen servers and the ties, whose history is of lines in sight, over a first disk whose cells are known; the numbers of its operations; what is dirty; and what is in flight
pub record StandsBeside (s : RunMoment) (w : World) (journal : ℕ → Journal) (when : ℕ → ℕ) (first_tree : FileTree) (numbers : List ℕ) : Type 0 where
  pub run : IsOfARun s w journal when first_tree numbers
  pub sixteen : w.servers ≡ SERVERS
  pub sight : IsInSight w
  pub known : KnowsCells s.core.setting.segments w.opening w.logged w.first first_tree []
  pub asked : IsAskedWell s.core.setting when first_tree numbers
  pub numbered : AreNumbered s.core.setting s.core.answered w
  pub dirt : IsDirtSo s w journal
  pub held : WritesAreHeld s.core
  pub none : NoneInLogs s.core.setting.segments w
  pub acknowledged : AreAcknowledged w
  pub regions : NameRegions s.core.setting.segments w

-- ---- logs

-- each log stands as its journal has it, has room, and seals come behind the replay; so the log of a dead server whose lease isn't over has nothing of a seal
pub record LogsStand (s : RunMoment) (w : World) (journal : ℕ → Journal) : Type 0 where
  pub logs : AreLogs s journal
  pub open_ : AreOpen s.core.servers s.core.now s.disk journal
  pub sealed : AreSealedBehind s w journal
  pub room : (a : ℕ) → IsTrue (is_server a) → HasRoom s a

-- ---- all of it

-- what else stands beside a moment, by which a recovery keeps what it reports: it is given where the law is shown
abbrev pub Further : Type 1
Further = RunMoment → World → (ℕ → Journal) → Type 0

-- and what the lines said tell of the history
pub record IsKeptAlong (Beside : Further) (s : RunMoment) (w : World) (journal : ℕ → Journal) (when : ℕ → ℕ) (first_tree : FileTree) (numbers : List ℕ) : Type 0 where
  pub beside : StandsBeside s w journal when first_tree numbers
  pub logs : LogsStand s w journal
  pub told : IsTold when first_tree numbers s w
  pub further : Beside s w journal

-- a relation that is given by its evidence
abbrev pub Related : {Evidence : Type 0} → (Evidence → RunMoment) → (Evidence → World) → (Evidence → ℕ → Journal) → Further
Related {Evidence} moment_of world_of journal_of s w journal = (e : Evidence) × (moment_of e ≡ s) × (world_of e ≡ w) × (journal_of e ≡ journal)
