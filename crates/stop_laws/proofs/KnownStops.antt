-- What recoveries of all logs would leave is a history along which cells are known.
use Rattle.std.proofs.Common.{ℕ, ◌≡◌, true, List, [], sym, subst}
use Rattle.tree_definitions.specs.Tree.{FileTree}
use Rattle.tree_definitions.specs.WellFormed.{IsWellFormed}
use Rattle.sector_world.specs.HistoryBytes.{Agree}
use Rattle.sector_world.specs.Histories.{Each, settled}
use Rattle.sector_world.specs.Plans.{IsByPlan, Legal}
use Rattle.sector_world.specs.Claims.{left, replayed}
use Rattle.sector_world.specs.Kinds.{Good}
use Rattle.sector_world.specs.Planned.{IsLegal}
use Rattle.sector_world.specs.Trees.{Distinct, tree_of}
use Rattle.sector_world.specs.World.{World}
use Rattle.sector_world.proofs.Holding.{holds_good}
use Rattle.disk_definitions.specs.Standing.{StandsFor}
use Rattle.line_histories.specs.LinePlans.{sector_plan}
use Rattle.line_histories.specs.Following.{Follows}
use Rattle.line_histories.specs.Standing.{StandsNumbered}
use Rattle.line_histories.specs.Trees.{AreTimes, MayNumber, performed}
use Rattle.line_histories.proofs.Following.{distinct_left}
use Rattle.line_histories.proofs.Runs.{histories_of_one_tree, numbered}
use Rattle.byte_trees.proofs.Nodes.{well_too}
use Rattle.byte_trees.specs.Deeds.{Deed, items, tree_after}
use Rattle.stop_laws.specs.Along.{AllTold, HasShape}
use Rattle.stop_laws.proofs.BytesAlong.{shape_at}
use Rattle.stop_laws.specs.Known.{IsToldTwice, KnowsCells}
use Rattle.stop_laws.proofs.Stops.{stop_known}
use Rattle.stop_laws.specs.Cells.{AllShown}
use Rattle.stop_laws.specs.KnownStop.{AStopLeavesTheToldTree}
use Rattle.stop_laws.proofs.Deeds.{all_known}

module _ (segments : ℕ) (when : ℕ → ℕ) (first_tree : FileTree) (numbers : List ℕ) (w : World) (server number : ℕ) (deeds : List Deed) (times : AreTimes when)
    (begins : StandsNumbered segments w.opening (numbered first_tree numbers)) (legal : IsLegal (sector_plan segments when) w)
    (distinct : Distinct (MayNumber numbers) first_tree (settled w.history)) (good : Good w)
    (follows : Follows segments w.opening w.home w.logged w.first []) (same : items deeds ≡ left w w.servers)
    (told : AllTold segments when w.opening w.home first_tree server number deeds) where
  twice : IsToldTwice segments when w.opening first_tree numbers w.home w.logged w.first server number deeds
  twice = record {
    times = times;
    begins = begins;
    legal = subst (Legal (sector_plan segments when) w.opening) (sym same) legal.left;
    distinct = subst (Distinct (MayNumber numbers) first_tree) (sym same) (distinct_left numbers first_tree w distinct w.servers);
    by_plan = subst (Each IsByPlan) (sym same) (holds_good w good).left_by_plan;
    follows = follows;
    told = told;
  }

  shape : HasShape when first_tree deeds
  shape = shape_at segments when times w.opening first_tree numbers begins w.home server number 0 0 0 deeds told

  well : IsWellFormed (tree_after first_tree deeds)
  well = well_too (tree_of (performed when) first_tree (items deeds)) (tree_after first_tree deeds) (sym shape)
      (histories_of_one_tree segments when w.opening first_tree numbers (items deeds) times begins twice.legal twice.distinct).stands.well_formed

  pub stop_told : w.logged 0 ≡ true → AllShown segments when w.opening first_tree deeds → KnowsCells segments w.opening w.logged w.first first_tree [] →
      StandsFor (replayed w w.servers) (tree_after first_tree deeds)
  stop_told zero_logged shown knows =
      stop_known segments when first_tree numbers w deeds times begins legal distinct good follows zero_logged same well shape
      (all_known segments when w.opening first_tree numbers w.home w.logged w.first server number deeds twice (subst (Agree w.first) (sym same) (holds_good w good).left_agrees) shown knows)

pub stop_all : AStopLeavesTheToldTree
stop_all segments when first_tree numbers w server number deeds times begins legal distinct good follows zero_logged same told shown knows =
    stop_told segments when first_tree numbers w server number deeds times begins legal distinct good follows same told zero_logged shown knows
