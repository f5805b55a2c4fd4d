-- A number that no operation of the history has, and that is new to the first tree, is new to the tree to which the history leads.
use Rattle.std.proofs.Common.{◌≡◌, ◌≢◌, ℕ, List, [], ◌∷◌, refl, sym, ap, ◌∙◌}
use Rattle.tree_definitions.specs.Touched.{shape_of, shaped}
use Rattle.tree_definitions.specs.Tree.{FileTree, node_at}
use Rattle.tree_definitions.specs.WellFormed.{IsNew}
use Rattle.tree_laws.proofs.ShapeNodes.{found}
use Rattle.sector_world.specs.Histories.{Each, Item, settled}
use Rattle.sector_world.specs.Histories.Item.{Done, Doubt}
use Rattle.sector_world.specs.Trees.{tree_of}
use Rattle.sector_world.specs.World.{World}
use Rattle.line_histories.specs.Trees.{MayNumber, MayTake, performed, performed_numbered}
use Rattle.line_histories.proofs.Runs.{both, numbered, take_distinct}
use Rattle.core_commits.specs.Standing.{IsOfLines, tree_now}

-- the tree with the numbers that are left is the tree
tree_same : (when : ℕ → ℕ) (first_tree : FileTree) (numbers : List ℕ) (h : List Item) → (tree_of (performed_numbered when) (numbered first_tree numbers) h).tree ≡ tree_of (performed when) first_tree h
tree_same when first_tree numbers [] = refl
tree_same when first_tree numbers (Done c ∷ h) = ap (λ t. (performed when c.op c.asked c.blocks t).tree) (tree_same when first_tree numbers h)
tree_same when first_tree numbers (Doubt m ∷ h) = tree_same when first_tree numbers h

pub new_now : (segments : ℕ) (when : ℕ → ℕ) (first_tree : FileTree) (numbers : List ℕ) (w : World) → IsOfLines segments when first_tree numbers w → (n : ℕ) → MayNumber numbers n first_tree →
    Each (λ e. e.op ≢ n) (settled w.history) → IsNew (shape_of (tree_now when first_tree w)) n
new_now segments when first_tree numbers w lines n may others =
    let took : MayTake n (tree_of (performed_numbered when) (numbered first_tree numbers) (settled w.history)) =
    (both segments when lines.times w.opening (numbered first_tree numbers) lines.stands (settled w.history) lines.legal.live (take_distinct when first_tree numbers (settled w.history) lines.distinct)).1 n others may in
    found (tree_now when first_tree w) n ∙ ap shaped (ap (λ t. node_at t n) (sym (tree_same when first_tree numbers (settled w.history))) ∙ took.new)
