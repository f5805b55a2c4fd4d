-- The cells that the end of a recovery leaves in doubt cover the parts in the sectors that it marks.
use Rattle.std.proofs.Common.{ℕ, ◌≡◌, ◌≤◌, ◌<◌, ◌+◌, ◌*◌, Bool, true, false, Option, Some, None, List, length, refl, sym, ◌∙◌, ap, subst}
use Rattle.std.specs.List.{Contains}
use Rattle.std.proofs.lemmas.List.{length-map}
use Rattle.frang_base.specs.declared.lock.LockId.{LockId}
use Rattle.tree_definitions.specs.declared.cells.Cell.TheVariants.{Doubtful}
use Rattle.tree_definitions.specs.declared.node.Node.{Node}
use Rattle.tree_definitions.specs.declared.node.Node.TheVariants.{Dir, File, Link}
use Rattle.tree_definitions.specs.History.{CellRun}
use Rattle.tree_definitions.specs.Removal.{doubtful, is_doubtful, sector_cells}
use Rattle.tree_definitions.specs.Touched.{shape_of, doubts, shaped}
use Rattle.tree_definitions.specs.Tree.{FileTree, node_at}
use Rattle.tree_laws.proofs.ShapeNodes.{found}
use Rattle.sector_bytes.specs.Blocks.{Block}
use Rattle.sector_world.specs.Histories.{in_doubt}
use Rattle.line_histories.specs.Following.{store_after}
use Rattle.byte_trees.specs.Cells.{Covers}
use Rattle.byte_trees.proofs.Doubting.{covers, listed}
use Rattle.byte_trees.specs.Deeds.{Deed, items, steps, tree_after}
use Rattle.line_histories.proofs.Owners.{IsFileAt, file_there}
use Rattle.stop_laws.specs.Along.{LiesAfter}
use Rattle.stop_laws.proofs.BytesAlong.{doubt_same_along}
use Rattle.stop_laws.specs.Known.{IsToldTwice}
use Rattle.stop_laws.specs.Cells.{DoubtCoversMarks}
use Rattle.stop_laws.proofs.Lying.{size_there}

module _ (segments : ℕ) (when : ℕ → ℕ) (opening : ℕ → Block) (first_tree : FileTree) (numbers : List ℕ) (home : ℕ → LockId) (logged : ℕ → Bool) (first : ℕ → Option Block)
    (server number : ℕ) (deeds : List Deed)
    (told : IsToldTwice segments when opening first_tree numbers home logged first server number deeds) (b t s : ℕ) (lies : LiesAfter segments opening first_tree b t s deeds)
    (marked : in_doubt server number (items deeds) s ≡ true) where
  abbrev tree : FileTree
  tree = tree_after first_tree deeds

  doubt : is_doubtful server b t false first_tree (steps deeds) ≡ true
  doubt =
      doubt_same_along segments when opening first_tree numbers home logged first server number deeds told.times told.begins told.legal told.distinct told.by_plan told.follows told.told b t s lies marked

  file : IsFileAt (store_after segments opening (items deeds)) (node_at (shape_of tree)) lies.naming lies.of.pictures b
  file = file_there (store_after segments opening (items deeds)) (node_at (shape_of tree)) lies.naming lies.of.pictures b lies.lies.stored lies.lies.there lies.lies.is lies.lies.kind

  covered : (j : ℕ) → 512 * t ≤ j → j < 512 * (t + 1) → j < lies.lies.stored.size → (o : Option Node) → node_at tree b ≡ o →
      (one : CellRun) × Contains (doubtful server first_tree (steps deeds)) one × Covers one b j
  covered j lo hi low None is = absurd (let z : None ≡ Some (File file.cells file.links file.when) = sym (found tree b ∙ ap shaped is) ∙ file.is in cc)
  covered j lo hi low (Some (Dir entries blocks)) is = absurd (let z : Some (Dir entries blocks) ≡ Some (File file.cells file.links file.when) = sym (found tree b ∙ ap shaped is) ∙ file.is in cc)
  covered j lo hi low (Some (Link target links)) is = absurd (let z : Some (Link target links) ≡ Some (File file.cells file.links file.when) = sym (found tree b ∙ ap shaped is) ∙ file.is in cc)
  covered j lo hi low (Some (File cells links time)) is =
      let size : lies.lies.stored.size ≡ length (doubts cells)
      = size_there (store_after segments opening (items deeds)) (shape_of tree) lies.naming lies.of b t lies.sector lies.lies (doubts cells) links time (found tree b ∙ ap shaped is) in
      let inside : j < length cells = subst (λ k. j < k) (size ∙ length-map cells (λ c. Doubtful)) low in (
        sector_cells b (length cells) t,
        listed server first_tree (steps deeds) b t j 0 lo hi doubt cells links time is inside,
        covers server first_tree (steps deeds) b t j 0 lo hi doubt (length cells) inside,
      )

pub doubt_covers : DoubtCoversMarks
doubt_covers segments when opening first_tree numbers home logged first server number deeds told b t s lies marked j lo hi low =
    covered segments when opening first_tree numbers home logged first server number deeds told b t s lies marked j lo hi low (node_at (tree_after first_tree deeds) b) refl
