-- The order of writes along runs whose moments have worlds of the theorem on sectors beside them.
use Rattle.std.specs.Prelude.{◌≡◌, ℕ, true, IsTrue, take}
use Rattle.frang_base.specs.declared.limits.TheConstants.{SERVERS}
use Rattle.disk_definitions.specs.Regions.{region_of}
use Rattle.disk_definitions.specs.Store.{store_of}
use Rattle.sector_bytes.specs.Sectors.{Sectors}
use Rattle.sector_world.specs.Kinds.{Good}
use Rattle.sector_world.specs.World.{World}
use Rattle.core_definitions.specs.Runs.{State as RunMoment, Run, Stays, Goes, first_state}
use Rattle.core_world.specs.Journals.{Journal}
use Rattle.core_world.specs.Steps.{IsWorldOf, Leads}
use Rattle.core_readings.specs.Logs.{AreLogs, AreSealedBehind}
use Rattle.headline_definitions.specs.Beginning.{Beginning}
use Rattle.headline_definitions.specs.Laws.{Begins, setting_by}
use Rattle.headline_definitions.specs.Ordered.{is_metadata_at_first, is_ordered}
use Rattle.headline_definitions.specs.Runs.{witnessed_in}
use Rattle.core_order.specs.Versions.{JournalsGoOn}

-- ---- what stands beside a moment

-- a good world of sixteen servers with its ties; and the logs beside it, with seals behind the replay
pub record StandsBeside (s : RunMoment) (w : World) (journal : ℕ → Journal) : Type 0 where
  pub is : IsWorldOf s w journal
  pub good : Good w
  pub sixteen : w.servers ≡ SERVERS
  pub logs : AreLogs s journal
  pub sealed : AreSealedBehind s w journal

-- each moment of a run has such a world, and each step is events that lead from one to the next, and journals go on
abbrev pub HaveWorlds : (s v : RunMoment) → Run s v → World → (ℕ → Journal) → Type 0
HaveWorlds s v Stays w journal = StandsBeside s w journal
HaveWorlds s u (Goes {v = v} step run) w journal = StandsBeside s w journal × (then : ℕ → Journal) × (leads : Leads w v then) × JournalsGoOn s v leads.world journal then × HaveWorlds v u run leads.world then

-- the first world counts all that is metadata from the opening on among the sectors with versions
abbrev pub CountsMetadata : ℕ → Sectors → World → Type 0
CountsMetadata segments disk w = (x : ℕ) → is_metadata_at_first (store_of segments disk) (region_of segments x) ≡ true → w.logged x ≡ true

-- ---- the law

-- what is witnessed along such a run keeps the order of writes
abbrev pub WritesAreInOrder : Type 0
WritesAreInOrder =
    (b : Beginning) (s : RunMoment) (run : Run (first_state (setting_by b) b.disk) s) (w : World) (journal : ℕ → Journal) → Begins b → CountsMetadata b.opening.tree.segments b.disk w →
    HaveWorlds (first_state (setting_by b) b.disk) s run w journal → IsTrue (is_ordered b.logs b.opening.tree.segments b.disk (witnessed_in (first_state (setting_by b) b.disk) s run))

-- and so does each prefix of it
abbrev pub WritesAreAlwaysInOrder : Type 0
WritesAreAlwaysInOrder =
    (b : Beginning) (s : RunMoment) (run : Run (first_state (setting_by b) b.disk) s) (w : World) (journal : ℕ → Journal) → Begins b → CountsMetadata b.opening.tree.segments b.disk w →
    HaveWorlds (first_state (setting_by b) b.disk) s run w journal → (k : ℕ) →
    IsTrue (is_ordered b.logs b.opening.tree.segments b.disk (take k (witnessed_in (first_state (setting_by b) b.disk) s run)))
