-- A stop of all servers: what is asked of a history holds of it with the recoveries of all logs.
use Rattle.std.specs.Prelude.{◌≡◌, ◌≢◌, ℕ, List}
use Rattle.tree_definitions.specs.Tree.{FileTree}
use Rattle.sector_world.specs.Histories.{settled}
use Rattle.sector_world.specs.Seen.{Kept}
use Rattle.sector_world.specs.Kinds.{Good}
use Rattle.sector_world.specs.Planned.{IsLegal}
use Rattle.sector_world.specs.Trees.{Distinct}
use Rattle.sector_world.specs.World.{World}
use Rattle.sector_world.specs.World.Phase.{Off}
use Rattle.line_histories.specs.LinePlans.{sector_plan}
use Rattle.line_histories.specs.Standing.{StandsNumbered}
use Rattle.line_histories.specs.Trees.{AreTimes, MayNumber}
use Rattle.stop_laws.specs.Happened.{Happening, on_sectors, settle}
use Rattle.stop_laws.specs.Paired.{ArePaired, IsKeptBy}
use Rattle.stop_laws.specs.Settling.{stopped}
use Rattle.stop_laws.specs.Coverage.{RecoveriesRise}
use Rattle.stop_laws.specs.Events.{IsInSight}
use Rattle.stop_laws.specs.Sight.{AllSaw, AllShowed}
use Rattle.stop_laws.specs.Sure.{AreRecoveredOnce}
use Rattle.stop_laws.specs.Synced.{SyncsRise}

-- lines are paired, no recovery removed what was seen or met, each operation saw what was under its locks and showed what was
-- known, recoveries and syncs rise, and each server whose log was recovered was mounted before and not recovered since
pub record IsAsked (segments : ℕ) (when : ℕ → ℕ) (first_tree : FileTree) (numbers : List ℕ) (w : World) (h : List Happening) : Type 0 where
  pub paired : ArePaired segments when w.opening first_tree numbers h
  pub kept : Kept (on_sectors h)
  pub saw : AllSaw w.home (on_sectors h)
  pub showed : AllShowed w.first (on_sectors h)
  pub rise : RecoveriesRise (on_sectors h)
  pub syncs : SyncsRise (on_sectors h)
  pub mounted : AreRecoveredOnce (on_sectors h)

abbrev pub StopsAreAsked : Type 0
StopsAreAsked =
    (segments : ℕ) (when : ℕ → ℕ) (first_tree : FileTree) (numbers : List ℕ) (w : World) (greatest : ℕ → ℕ) (h : List Happening) → AreTimes when →
    StandsNumbered segments w.opening (record { tree = first_tree; numbers = numbers }) → IsLegal (sector_plan segments when) w →
    Distinct (MayNumber numbers) first_tree (settled w.history) → Good w → on_sectors h ≡ w.history → ArePaired segments when w.opening first_tree numbers h →
    ((server : ℕ) → w.phase server ≢ Off → IsKeptBy server (greatest server) (w.durable server) (settle first_tree h)) → IsInSight w →
    IsAsked segments when first_tree numbers w (stopped w greatest w.servers h)
