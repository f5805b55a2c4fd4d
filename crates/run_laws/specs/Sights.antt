-- Lines that see a disk of a tree.
use Rattle.std.specs.Prelude.{◌≡◌, ◌<◌, ◌^◌, ℕ, true, Some, [], ◌∷◌}
use Rattle.frang_base.specs.declared.op.Op.{Op}
use Rattle.frang_base.specs.declared.script.Line.{Line}
use Rattle.tree_definitions.specs.Live.{number_of as operation_number, script_time, time_in}
use Rattle.tree_definitions.specs.Tree.{FileTree}
use Rattle.sector_bytes.specs.Sectors.{Sectors}
use Rattle.disk_definitions.specs.Allowed.{IsAllowed}
use Rattle.disk_definitions.specs.FreshDisk.{first_bitmap, fresh_sectors}
use Rattle.disk_definitions.specs.OnDisk.{AreOfDisk, StandsBelow}
use Rattle.core_definitions.specs.Cores.{stage}
use Rattle.core_definitions.specs.Lines.{Stage, Under, operation_of}
use Rattle.core_definitions.specs.Plans.{Sight, sight_of}
use Rattle.core_definitions.specs.Runs.{State}
use Rattle.core_definitions.specs.Settings.{Setting}
use Rattle.run_laws.specs.Writing.{LinesStayOnDisk, MakesDirty}

-- the operation is one that a script may ask, and its number and time fit an inode
pub record MayBePlanned (setting : Setting) (line : Line) (operation : Op) : Type 0 where
  pub allowed : IsAllowed operation
  pub number : operation_number setting.run line.number < 2 ^ 64
  pub time : time_in setting.run (script_time setting.script line.number) < 2 ^ 64

-- what is seen is of a disk of so many segments that stands for a tree
pub record IsOfATree (segments : ℕ) (sight : Sight) : Type 0 where
  pub disk : Sectors
  pub tree : FileTree
  pub size : tree.segments ≡ segments
  pub are : AreOfDisk sight.cached sight.held sight.all tree.segments disk
  pub below : StandsBelow disk tree

-- a line that sees one
pub record SeesATree (s : State) (a : ℕ) (under : Under) (operation : Op) : Type 0 where
  pub may : MayBePlanned s.core.setting under.line operation
  pub of : IsOfATree s.core.setting.segments (sight_of s.core.setting.segments under.set (s.core.servers a).cache)

-- at this moment each line that makes a sector dirty next does
abbrev pub LinesSeeTrees : State → Type 0
LinesSeeTrees s =
    (a : ℕ) (under : Under) (operation : Op) (at : Stage) (sector : ℕ) → (s.core.servers a).under ≡ Some under → operation_of under.line.what ≡ Some operation →
    stage s.core a ≡ Some at → MakesDirty at sector → SeesATree s a under operation

-- such lines make only sectors of the disk dirty
abbrev pub WhoSeesTreesStaysOnDisk : Type 0
WhoSeesTreesStaysOnDisk = (s : State) → LinesSeeTrees s → LinesStayOnDisk s

-- ---- that there are such sights

-- the root's inode, the first segment and the parameters of a fresh disk of one segment, with that segment held
abbrev pub fresh_sight : Sight
fresh_sight = record { cached = fresh_sectors 1; held = (0, first_bitmap) ∷ []; all = true }

abbrev pub AFreshDiskIsSeen : Type 0
AFreshDiskIsSeen = (segments : ℕ) × IsOfATree segments fresh_sight
