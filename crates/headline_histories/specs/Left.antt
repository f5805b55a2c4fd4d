-- What a stop leaves is legal, what must be kept is kept, and the disk with all logs replayed stands for the tree of it: the fourth part of the headline.
use Rattle.std.specs.Prelude.{◌≡◌, ◌≤◌, ℕ, true, false, IsTrue, Some, List}
use Rattle.std.specs.List.{list_any}
use Rattle.tree_definitions.specs.Removal.{IsLegal, Keeps, tree_of}
use Rattle.tree_definitions.specs.Transcript.{is_mounted_or_dead, is_node}
use Rattle.tree_definitions.specs.Tree.{FileTree}
use Rattle.sector_bytes.specs.Sectors.{Sectors}
use Rattle.sector_world.specs.Claims.{replayed}
use Rattle.sector_world.specs.World.{World}
use Rattle.sector_world.specs.World.Phase.{Off}
use Rattle.disk_definitions.specs.declared.param.Param.{Param}
use Rattle.disk_definitions.specs.Regions.{bitmaps_from}
use Rattle.disk_definitions.specs.Replay.{greatest_of, with_logs}
use Rattle.disk_definitions.specs.Standing.{StandsFor}
use Rattle.core_definitions.specs.LineGuards.{is_server}
use Rattle.core_definitions.specs.Runs.{State as RunMoment, saids_of}
use Rattle.core_world.specs.Ties.{is_log_sector}
use Rattle.stop_laws.specs.Happened.{Happening, settle}
use Rattle.stop_laws.specs.Paired.{IsKeptBy}
use Rattle.kept_laws.specs.Moments.{LogsKeep}
use Rattle.headline_definitions.specs.AllLogs.{replayed_by}
use Rattle.headline_definitions.specs.Beginning.{Beginning}
use Rattle.headline_definitions.specs.Headline.{left}
use Rattle.headline_definitions.specs.Witnessed.{Witnessed, disk_behind}
use Rattle.headline_histories.specs.Moments.{IsMomentOf, witnessed_to}

-- as the headline says it
pub record LeftIsKept (b : Beginning) (witnessed : List Witnessed) : Type 0 where
  pub left_legal : IsLegal b.opening (left b witnessed)
  pub left_kept : Keeps b.opening (left b witnessed)
  pub stands : StandsFor (replayed_by b.logs (disk_behind b.disk witnessed)) (tree_of b.opening (left b witnessed))

-- ---- what is asked of the logs

-- By the greatest number of its log on the disk each server that isn't off keeps since its last mount what is durable; and before the first line of the tree so does each that is off and up by the
-- lines said, as it was closed
pub record LogsKeepAll (first_tree : FileTree) (s : RunMoment) (w : World) (h : List Happening) : Type 0 where
  pub logs : LogsKeep first_tree w (greatest_of s.disk) h
  pub closed :
      (server : ℕ) → IsTrue (is_server server) → w.phase server ≡ Off → is_mounted_or_dead s.core.setting.script (saids_of s.record_) server ≡ true →
      list_any is_node (saids_of s.record_) ≡ false → IsKeptBy server (greatest_of s.disk server) (w.durable server) (settle first_tree h)

-- the disk with all logs replayed, by parameters of so many segments, is the world's but for the logs
abbrev pub ReplaysAs : RunMoment → World → Type 0
ReplaysAs s w =
    (p : Param) → p.segments ≡ s.core.setting.segments → (x : ℕ) → is_log_sector s.core.setting.segments x ≡ false → with_logs (Some p) s.disk x ≡ replayed w w.servers x

-- ---- the law

-- a disk stands for a tree by its parameters and by what lies behind the logs
abbrev pub DisksStandBehindLogs : Type 0
DisksStandBehindLogs =
    (disk other : Sectors) (tree : FileTree) → other 0 ≡ disk 0 → ((x : ℕ) → bitmaps_from ≤ x → other x ≡ disk x) → StandsFor disk tree → StandsFor other tree

-- so it is at each moment of a run
abbrev pub MomentsKeepWhatIsLeft : Type 0
MomentsKeepWhatIsLeft =
    (b : Beginning) (s : RunMoment) (w : World) (when : ℕ → ℕ) (numbers : List ℕ) (m : IsMomentOf b s w when numbers) → LogsKeepAll b.opening.tree s w m.told.happened → ReplaysAs s w →
    LeftIsKept b (witnessed_to b s m.run)
