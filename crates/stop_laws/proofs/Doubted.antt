-- Cells that come into doubt leave the shape of a tree.
use Rattle.std.proofs.Common.{ℕ, ◌≡◌, ◌≢◌, Option, Some, None, List, [], ◌∷◌, refl, sym, ◌∙◌, ap}
use Rattle.std.specs.Option.{option_map}
use Rattle.tree_definitions.specs.declared.node.Node.{Node}
use Rattle.tree_definitions.specs.declared.node.Node.TheVariants.{Dir, File, Link}
use Rattle.tree_definitions.specs.History.{CellRun, InDoubt, doubted, doubted_cells, doubted_file, file_of}
use Rattle.tree_definitions.specs.Touched.{node_shape, shape_of}
use Rattle.tree_definitions.specs.Tree.{FileTree, node_at}
use Rattle.tree_definitions.specs.WellFormed.{BirthsAscend}
use Rattle.tree_definitions.proofs.Births.{each_but}
use Rattle.tree_laws.proofs.Nodes.{with_same, with_other}
use Rattle.tree_laws.proofs.OrderLaws.{births_after, segments_after}
use Rattle.tree_laws.proofs.ShapeLaws.{doubt_alike}
use Rattle.tree_laws.proofs.SameShapes.{shape_at, same_shape}
use Rattle.tree_laws.proofs.RoomLaws.{doubted_long}

module _ (t : FileTree) (birth from count : ℕ) where
  shape_there : (o : Option Node) → node_at t birth ≡ o → shape_at (doubted_file t (file_of birth o) from count) birth ≡ shape_at t birth
  shape_there None is = refl
  shape_there (Some (Dir entries blocks)) is = refl
  shape_there (Some (Link target links)) is = refl
  shape_there (Some (File cells links when)) is =
      ap (option_map node_shape) (with_same t birth (File (doubted_cells cells from count) links when))
      ∙ ap (λ c. Some (File c links when)) (doubt_alike (doubted_cells cells from count) cells (doubted_long cells from count))
      ∙ sym (ap (option_map node_shape) is)

  shape_elsewhere : (o : Option Node) (b : ℕ) → b ≢ birth → shape_at (doubted_file t (file_of birth o) from count) b ≡ shape_at t b
  shape_elsewhere None b far = refl
  shape_elsewhere (Some (Dir entries blocks)) b far = refl
  shape_elsewhere (Some (Link target links)) b far = refl
  shape_elsewhere (Some (File cells links when)) b far = ap (option_map node_shape) (with_other t birth (File (doubted_cells cells from count) links when) b far)

  one_run : (b : ℕ) → shape_at (doubted_file t (file_of birth (node_at t birth)) from count) b ≡ shape_at t b
  one_run = each_but (λ b. shape_at (doubted_file t (file_of birth (node_at t birth)) from count) b ≡ shape_at t b) birth (shape_there (node_at t birth) refl)
      (shape_elsewhere (node_at t birth))

all_runs : (t : FileTree) (runs : List CellRun) (b : ℕ) → shape_at (doubted t runs) b ≡ shape_at t b
all_runs t [] b = refl
all_runs t (run ∷ runs) b = all_runs (doubted_file t (file_of run.birth (node_at t run.birth)) run.from run.count) runs b ∙ one_run t run.birth run.from run.count b

pub doubted_shape : (t : FileTree) (runs : List CellRun) → BirthsAscend t → shape_of (doubted t runs) ≡ shape_of t
doubted_shape t runs births = same_shape (doubted t runs) t (births_after t (InDoubt runs) births) births (segments_after t (InDoubt runs) births) (all_runs t runs)
