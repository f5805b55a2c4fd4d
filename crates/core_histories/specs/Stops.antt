-- What a telling gives: what settles of the lines said is what settled in the world, and where everything stops the replayed disk stands for the tree that the lines said leave.
use Rattle.std.specs.Prelude.{◌≡◌, ◌≢◌, ℕ, false, List, [], filter}
use Rattle.std.specs.List.{list_any}
use Rattle.frang_base.specs.declared.limits.TheConstants.{SERVERS}
use Rattle.tree_definitions.specs.Live.{live_history}
use Rattle.tree_definitions.specs.Removal.{tree_from}
use Rattle.tree_definitions.specs.Removal as trees
use Rattle.tree_definitions.specs.Numbers.{below}
use Rattle.tree_definitions.specs.Transcript.{is_mounted_or_dead, is_node, left_history}
use Rattle.tree_definitions.specs.Tree.{FileTree}
use Rattle.sector_world.specs.Claims.{replayed}
use Rattle.sector_world.specs.Histories.{settled}
use Rattle.sector_world.specs.Kinds.{Good}
use Rattle.sector_world.specs.World.{World}
use Rattle.sector_world.specs.World.Phase.{Off}
use Rattle.disk_definitions.specs.Standing.{StandsFor}
use Rattle.byte_trees.specs.Deeds.{items, steps}
use Rattle.core_definitions.specs.Runs.{State as RunMoment, saids_of}
use Rattle.core_world.specs.Steps.{IsReached}
use Rattle.core_world.specs.Ties.{AreLives}
use Rattle.core_commits.specs.Standing.{IsOfLines}
use Rattle.stop_laws.specs.ClosedStop.{ClosedKeepAll, is_closed}
use Rattle.stop_laws.specs.Events.{IsInSight}
use Rattle.stop_laws.specs.Happened.{settle}
use Rattle.stop_laws.specs.Known.{KnowsCells}
use Rattle.stop_laws.specs.LinesStop.{AreToldOf}
use Rattle.stop_laws.specs.Paired.{IsKeptBy}
use Rattle.core_histories.specs.Tellings.{IsTold}

-- the deeds that are left are on the side of sectors what has settled in the world, and on the tree's what settles of the history that the lines said tell
pub record SettlesAsSaid (when : ℕ → ℕ) (first_tree : FileTree) (numbers : List ℕ) (s : RunMoment) (w : World) (told : IsTold when first_tree numbers s w) : Type 0 where
  pub sectors : items (settle first_tree told.happened) ≡ settled w.history
  pub tree : steps (settle first_tree told.happened) ≡ trees.settled first_tree (live_history s.core.setting.script s.core.setting.run (saids_of s.record_))

-- so it is where the history is of lines
abbrev pub ToldHistoriesSettle : Type 0
ToldHistoriesSettle =
    (when : ℕ → ℕ) (first_tree : FileTree) (numbers : List ℕ) (s : RunMoment) (w : World) (told : IsTold when first_tree numbers s w) → IsOfLines s.core.setting.segments when first_tree numbers w →
    SettlesAsSaid when first_tree numbers s w told

-- And where everything stops, over a first disk whose cells are known: where each server that isn't off keeps as much by the greatest number of its log as by what is durable, and the
-- lines said tell who is off, the replayed disk stands for the tree of the history that a stop leaves by the lines
abbrev pub ToldStopsStand : Type 0
ToldStopsStand =
    (when : ℕ → ℕ) (first_tree : FileTree) (numbers : List ℕ) (s : RunMoment) (w : World) (greatest : ℕ → ℕ) (told : IsTold when first_tree numbers s w) →
    IsOfLines s.core.setting.segments when first_tree numbers w → Good w → IsInSight w → KnowsCells s.core.setting.segments w.opening w.logged w.first first_tree [] →
    ((server : ℕ) → w.phase server ≢ Off → IsKeptBy server (greatest server) (w.durable server) (settle first_tree told.happened)) →
    AreToldOf s.core.setting.script (saids_of s.record_) w →
    StandsFor (replayed w w.servers) (tree_from first_tree (left_history s.core.setting.script s.core.setting.run (saids_of s.record_) greatest))

-- ---- at a moment of a run

-- So it is at each moment of a run, whoever was closed: as long as no line of the tree is said the recoveries of closed servers are to remove nothing, by the greatest numbers of their logs
abbrev pub StopsStandForWhatWasSaid : Type 0
StopsStandForWhatWasSaid =
    (when : ℕ → ℕ) (first_tree : FileTree) (numbers : List ℕ) (s : RunMoment) (w : World) (greatest : ℕ → ℕ) (told : IsTold when first_tree numbers s w) → IsReached s →
    AreLives s.core.now s.core.servers w → w.servers ≡ SERVERS → IsOfLines s.core.setting.segments when first_tree numbers w → Good w → IsInSight w →
    KnowsCells s.core.setting.segments w.opening w.logged w.first first_tree [] →
    ((server : ℕ) → w.phase server ≢ Off → IsKeptBy server (greatest server) (w.durable server) (settle first_tree told.happened)) →
    (list_any is_node (saids_of s.record_) ≡ false →
    ClosedKeepAll first_tree (is_closed w) greatest (filter (is_mounted_or_dead s.core.setting.script (saids_of s.record_)) (below SERVERS))
    (trees.settled first_tree (live_history s.core.setting.script s.core.setting.run (saids_of s.record_)))) →
    StandsFor (replayed w w.servers) (tree_from first_tree (left_history s.core.setting.script s.core.setting.run (saids_of s.record_) greatest))
