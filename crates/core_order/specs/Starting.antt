-- What the law of the order of writes asks is met: beside the first moment over the disk of an opening, and along a run from it.
use Rattle.std.specs.Prelude.{◌≡◌, ℕ, Bool, [], ◌∷◌}
use Rattle.frang_base.specs.declared.lock.LockId.{LockId}
use Rattle.frang_base.specs.declared.said.Said.TheVariants as said
use Rattle.disk_definitions.specs.Regions.{region_of}
use Rattle.disk_definitions.specs.Store.{store_of}
use Rattle.sector_bytes.specs.Sectors.{Sectors}
use Rattle.sector_world.specs.World.{World}
use Rattle.core_definitions.specs.Effects.{Says}
use Rattle.core_definitions.specs.Runs.{State as RunMoment, Run, first_state}
use Rattle.core_world.specs.Events.{first_world}
use Rattle.core_world.specs.Journals.{Journal}
use Rattle.headline_definitions.specs.Beginning.{Beginning, IsOpening}
use Rattle.headline_definitions.specs.Laws.{setting_by}
use Rattle.headline_definitions.specs.Ordered.{is_metadata_at_first}
use Rattle.headline_definitions.specs.Runs.{witnessed_in}
use Rattle.headline_definitions.specs.Witnessed.{Acted}
use Rattle.core_readings.specs.Logs.{OthersAreEmpty}
use Rattle.disk_definitions.specs.Naming.{Naming}
use Rattle.opening_laws.specs.FirstDisks.{opened_world}
use Rattle.core_order.specs.Worlds.{CountsMetadata, HaveWorlds, StandsBeside}

-- over the disk of an opening all stands beside the first moment, whichever sectors have versions, are of files, and are under which locks
abbrev pub FirstMomentsStand : Type 0
FirstMomentsStand =
    (b : Beginning) (logged of_files : ℕ → Bool) (home : ℕ → LockId) (journal : ℕ → Journal) → IsOpening b.opening b.disk →
    StandsBeside (first_state (setting_by b) b.disk) (first_world b.disk logged of_files home) journal

-- the sectors that are metadata from the opening on
abbrev pub counted_at_first : Beginning → ℕ → Bool
counted_at_first b x = is_metadata_at_first (store_of b.opening.tree.segments b.disk) (region_of b.opening.tree.segments x)

-- so the world in which these have versions counts what is metadata
abbrev pub FirstWorldsCountMetadata : Type 0
FirstWorldsCountMetadata =
    (b : Beginning) (of_files : ℕ → Bool) (home : ℕ → LockId) → CountsMetadata b.opening.tree.segments b.disk (first_world b.disk (counted_at_first b) of_files home)

-- a run of two steps with its worlds: a line is noted, and a server is held
pub record HasARun (b : Beginning) : Type 0 where
  pub moment : RunMoment
  pub run : Run (first_state (setting_by b) b.disk) moment
  pub world : World
  pub journal : ℕ → Journal
  pub counts : CountsMetadata b.opening.tree.segments b.disk world
  pub have : HaveWorlds (first_state (setting_by b) b.disk) moment run world journal
  pub witnessed : witnessed_in (first_state (setting_by b) b.disk) moment run ≡ Acted (Says (said.Backup 1)) ∷ []

-- over each disk of an opening there is one
abbrev pub RunsHaveWorlds : Type 0
RunsHaveWorlds = (b : Beginning) → IsOpening b.opening b.disk → HasARun b

-- ---- along every run

-- over the disk of an opening the logs of no server have no records, at each moment of a run
abbrev pub OthersStayEmpty : Type 0
OthersStayEmpty = (b : Beginning) (s : RunMoment) → Run (first_state (setting_by b) b.disk) s → IsOpening b.opening b.disk → OthersAreEmpty s.disk

-- the worlds that openings have count what is metadata
abbrev pub OpenedWorldsCountMetadata : Type 0
OpenedWorldsCountMetadata = (servers segments : ℕ) (naming : Naming) (disk : Sectors) → CountsMetadata segments disk (opened_world servers segments naming disk)
