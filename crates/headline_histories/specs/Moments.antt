-- A moment of a run with what stands beside it: its world, whose history is of lines, and what the lines said tell of that.
use Rattle.std.specs.Prelude.{◌≡◌, ℕ, List}
use Rattle.frang_base.specs.declared.limits.TheConstants.{SERVERS}
use Rattle.sector_world.specs.Kinds.{Good}
use Rattle.sector_world.specs.World.{World}
use Rattle.core_definitions.specs.Runs.{State as RunMoment, Run, first_state}
use Rattle.core_world.specs.Ties.{AreLives}
use Rattle.core_commits.specs.Standing.{IsOfLines}
use Rattle.core_histories.specs.Tellings.{IsTold}
use Rattle.stop_laws.specs.Events.{IsInSight}
use Rattle.headline_definitions.specs.Beginning.{Beginning}
use Rattle.headline_definitions.specs.Laws.{Begins, setting_by}
use Rattle.headline_definitions.specs.Runs.{witnessed_in}
use Rattle.headline_definitions.specs.Witnessed.{Witnessed}
use Rattle.headline_histories.specs.Starts.{IsSameStart, world_on}

-- Behind a beginning a run of the core, over the disk of its opening, whichever that is. Beside it a world of sixteen servers that lives as the core does and began over that disk; it is good and
-- in sight, its history is of lines, and the lines said tell it
pub record IsMomentOf (b : Beginning) (s : RunMoment) (w : World) (when : ℕ → ℕ) (numbers : List ℕ) : Type 0 where
  pub begins : Begins b
  pub run : Run (first_state (setting_by b) b.disk) s
  pub lives : AreLives s.core.now s.core.servers w
  pub sixteen : w.servers ≡ SERVERS
  pub began : IsSameStart (world_on b.opening b.disk begins.opening) w
  pub lines : IsOfLines s.core.setting.segments when b.opening.tree numbers w
  pub good : Good w
  pub sight : IsInSight w
  pub told : IsTold when b.opening.tree numbers s w

-- what was witnessed along a run
abbrev pub witnessed_to : (b : Beginning) (s : RunMoment) → Run (first_state (setting_by b) b.disk) s → List Witnessed
witnessed_to b s run = witnessed_in (first_state (setting_by b) b.disk) s run
