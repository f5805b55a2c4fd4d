-- Where cells are known after what recoveries of all logs would leave, the replayed disk has their bytes.
use Rattle.std.proofs.Common.{ℕ, ◌≡◌, false, sym, ◌∙◌, ap, subst}
use Rattle.tree_definitions.specs.Touched.{shape_of}
use Rattle.sector_world.specs.HistoryBytes.{Known}
use Rattle.sector_world.specs.Histories.{is_logged}
use Rattle.sector_world.specs.Claims.{replayed}
use Rattle.sector_world.specs.Trees.{tree_of}
use Rattle.sector_world.proofs.Holding.{holds_good}
use Rattle.disk_definitions.specs.Meets.{IsOfTree}
use Rattle.line_histories.specs.Following.{store_after}
use Rattle.line_histories.specs.Trees.{performed}
use Rattle.byte_trees.specs.Deeds.{tree_after}
use Rattle.stop_laws.proofs.Replayed.{a_stop_leaves}
use Rattle.stop_laws.specs.Known.{AStopLeavesKnownCells}

pub stop_known : AStopLeavesKnownCells
stop_known segments when first_tree numbers w deeds times begins legal distinct good follows zero_logged same well shape knows =
    a_stop_leaves segments when first_tree numbers w times begins legal distinct good follows zero_logged (tree_after first_tree deeds) well
    (shape ∙ ap (λ h. shape_of (tree_of (performed when) first_tree h)) same)
    (λ naming of. knows naming (subst (λ h. IsOfTree (store_after segments w.opening h) (shape_of (tree_after first_tree deeds)) naming) (sym same) of) (replayed w w.servers)
    (subst (λ h. (s : ℕ) → is_logged w.logged h s ≡ false → Known w.first s (replayed w w.servers s) h) (sym same) (holds_good w good).on_replayed))
