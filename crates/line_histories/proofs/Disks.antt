-- What sectors that stand for the shape of a tree say, with zeros for the bytes of files: a store of the shape, on which plans may be made.
use Rattle.std.proofs.Common.{ℕ, refl, sym, subst}
use Rattle.tree_definitions.specs.Tree.{FileTree, node_at}
use Rattle.tree_definitions.specs.Touched.{shape_of}
use Rattle.sector_bytes.specs.Sectors.{Sectors}
use Rattle.disk_definitions.specs.Store.{Store, store_of}
use Rattle.disk_definitions.specs.Naming.{Naming}
use Rattle.disk_definitions.specs.Standing.{IsInGrammar}
use Rattle.tree_laws.proofs.ShapeNodes.{again}
use Rattle.disk_definitions.specs.ChangeLaws.{FilesFit}
use Rattle.disk_definitions.proofs.Counts.{files_fit}
use Rattle.disk_definitions.specs.FitPlans.{IsFitStore}
use Rattle.disk_definitions.specs.Meets.{IsOfTree, directory_blocks_in}
use Rattle.plan_fit.proofs.DecodedEntries.{disks_fit}
use Rattle.plan_fit.proofs.FileNodes.{fit_file}
use Rattle.plan_laws.specs.FilesPlanned.{HasFiles}
use Rattle.line_laws.proofs.OfDisk.{of_tree}
use Rattle.line_laws.proofs.Shaping.{shapes_stand}
use Rattle.line_histories.specs.LinePlans.{store_on}
use Rattle.line_histories.specs.Standing.{StandsForShape}

module _ (disk : Sectors) (tree : FileTree) (stands : StandsForShape tree.segments disk tree) where
  abbrev pub segments : ℕ
  segments = tree.segments

  abbrev pub store : Store
  store = store_of segments disk

  abbrev pub naming : Naming
  naming = stands.below.stands.naming

  of_shape : IsOfTree store (shape_of tree) naming
  of_shape = of_tree disk (shape_of tree) stands.below

  pub blank_of : IsOfTree (store_on segments disk) (shape_of tree) naming
  blank_of = subst (λ t. IsOfTree (store_on segments disk) t naming) (again tree) (shapes_stand store (shape_of tree) naming of_shape).blank

  grammar : IsInGrammar segments disk
  grammar = subst (λ k. IsInGrammar k disk) (sym stands.below.stands.segments) stands.below.stands.grammar

  fit_store : IsFitStore segments store
  fit_store = disks_fit disk segments grammar stands.below.whole

  pub files_fit_now : FilesFit (node_at (shape_of tree))
  files_fit_now = files_fit store (node_at (shape_of tree)) naming of_shape.pictures (λ i x e k. (fit_file x (fit_store.nodes i x e).1 k).size)

  abbrev pub ever : ℕ
  ever = directory_blocks_in (store_on segments disk) segments

  pub files : HasFiles (store_on segments disk) (shape_of tree) ever
  files = record { fit = files_fit_now; directories = refl }
