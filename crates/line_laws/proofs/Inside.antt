-- A line looks only at inodes and blocks that the disk has.
use Rattle.std.proofs.Common.{◌<◌, ◌*◌, ℕ, Bool, List, [], ◌∷◌, sym, subst}
use Rattle.tree_definitions.specs.Perform.{Step, Goes, Stops, resolved as tree_resolved}
use Rattle.tree_definitions.specs.Resolve as trees
use Rattle.tree_definitions.specs.Tree.{FileTree}
use Rattle.disk_definitions.specs.Store.{Store}
use Rattle.disk_definitions.specs.Naming.{Naming}
use Rattle.disk_definitions.specs.Ask.{Sector, InodeAt, DirectoryAt, SegmentAt, BytesAt, LargeAt, looks}
use Rattle.disk_definitions.specs.Plans.{Hand}
use Rattle.disk_definitions.specs.Meets.{IsOfTree, IsHandOf}
use Rattle.plan_laws.specs.Inside.{IsInside, AreInside}
use Rattle.plan_laws.proofs.AllInside.{all_inside}
use Rattle.plan_laws.proofs.WalksInside.{inside_append, inode_inside, block_inside}
use Rattle.disk_definitions.specs.Resolving.{resolve}
use Rattle.disk_definitions.specs.Lines.{resolved}
use Rattle.line_laws.specs.Covered.{LinesLookInside}
use Rattle.line_laws.proofs.Looked.{IsOnTrail, AreOnTrail}
use Rattle.line_laws.proofs.Links.{path_same}
use Rattle.line_laws.proofs.Comes.{line_same}
use Rattle.line_laws.proofs.Running.{step_looks, looks_performed}

module _ (s : Store) (tree : FileTree) (n : Naming) (of : IsOfTree s tree n) where
  -- the sectors of a node are inside
  node_inside : (trail : List ℕ) (sector : Sector) → IsOnTrail tree n trail sector → IsInside tree.segments sector
  node_inside trail (InodeAt i) o = subst (λ i. i < 64 * tree.segments) (sym o.of_node) (inode_inside s tree n of o.node o.there)
  node_inside trail (DirectoryAt k part) o = subst (λ k. k < 1024 * tree.segments) (sym o.of_node.2) (block_inside s tree n of o.node o.of_node.0 o.of_node.1)
  node_inside trail (SegmentAt k) o = absurd o.of_node
  node_inside trail (BytesAt k part) o = absurd o.of_node
  node_inside trail (LargeAt g part) o = absurd o.of_node

  trail_inside : (trail : List ℕ) (xs : List Sector) → AreOnTrail tree n trail xs → AreInside tree.segments xs
  trail_inside trail [] a = tt
  trail_inside trail (x ∷ xs) a = (node_inside trail x a.0, trail_inside trail xs a.1)

  -- the walk of a path through links
  pub resolve_inside : (last : Bool) (path : List (List ℕ)) → AreInside tree.segments (looks (resolve last path) s)
  resolve_inside last path = trail_inside (trees.resolve tree last path).trail (looks (resolve last path) s) (path_same s tree n of last path).looked

  step_inside : (h : Hand) → IsHandOf h s tree.segments → (birth when : ℕ) (step : Step) → AreInside tree.segments (step_looks h s birth when step)
  step_inside h hand birth when (Goes o) = all_inside o h s tree n birth when of hand
  step_inside h hand birth when (Stops r) = tt

pub lines_inside : LinesLookInside
lines_inside o h s tree n birth when of hand =
    subst (AreInside tree.segments) (sym (looks_performed h s birth when tree n of o))
    (inside_append tree.segments (looks (resolved o) s) (step_looks h s birth when (tree_resolved tree o).step)
    (trail_inside s tree n of (tree_resolved tree o).trail (looks (resolved o) s) (line_same s tree n of o).looked)
    (step_inside s tree n of h hand birth when (tree_resolved tree o).step))
