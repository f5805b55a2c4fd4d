-- A disk that stands for a tree stands for it with more cells in doubt: the shape is the same, and a cell that is a byte was it before.
use Rattle.std.proofs.Common.{true, ℕ, ◌≡◌, Some, [], ◌∷◌, ◌++◌, is_some, sym, ◌∙◌, ap, subst}
use Rattle.tree_definitions.specs.declared.cells.Cell.{Cell}
use Rattle.tree_definitions.specs.declared.cells.Cell.TheVariants as cell
use Rattle.tree_definitions.specs.declared.history.Item.TheVariants.{Recovered}
use Rattle.tree_definitions.specs.History.{InDoubt, after_all, doubted}
use Rattle.tree_definitions.specs.Removal.{doubtful, settled, tree_from}
use Rattle.tree_definitions.specs.Touched.{shape_of, shaped}
use Rattle.tree_definitions.specs.Tree.{FileTree, node_at}
use Rattle.tree_laws.proofs.ShapeNodes.{found}
use Rattle.tree_laws.proofs.HistoryLaws.{after_all-push, settled-recovered}
use Rattle.sector_bytes.specs.Sectors.{Sectors}
use Rattle.disk_definitions.specs.Naming.{Allows, Nodes, Pictures, cell_in, file_byte}
use Rattle.disk_definitions.specs.Standing.{IsReached, StandsFor}
use Rattle.disk_definitions.specs.Store.{Store, store_of}
use Rattle.line_laws.proofs.Shaping.{all_reached, pictures_shape, some_shaped}
use Rattle.byte_trees.proofs.Doubting.{doubt_keeps}
use Rattle.byte_trees.proofs.Filling.{filled, reached_too}
use Rattle.byte_trees.proofs.Nodes.{well_too}
use Rattle.stop_laws.specs.Closed.{DoubtStands, RecoveriesOfNothingStand}
use Rattle.stop_laws.proofs.Doubted.{doubted_shape}

module _ (disk : Sectors) (tree after : FileTree) (same : shape_of after ≡ shape_of tree)
    (fewer : (b j x : ℕ) → cell_in (node_at after b) j ≡ Some (cell.Byte x) → cell_in (node_at tree b) j ≡ Some (cell.Byte x)) (stands : StandsFor disk tree) where
  abbrev store : Store
  store = store_of stands.param.segments disk

  alike_at : (b : ℕ) → shaped (node_at after b) ≡ shaped (node_at tree b)
  alike_at b = sym (found after b) ∙ ap (λ u. node_at u b) same ∙ found tree b

  abbrev shapes_in : FileTree → Nodes
  shapes_in t b = shaped (node_at t b)

  alike : shapes_in after ≡ shapes_in tree
  alike = λ i. λ b. alike_at b i

  bytes : (b j : ℕ) (c : Cell) → cell_in (node_at after b) j ≡ Some c → Allows c (file_byte store stands.naming b j)
  bytes b j (cell.Byte x) e = stands.picture.bytes b j (cell.Byte x) (fewer b j x e)
  bytes b j cell.Doubtful e = tt

  there : (b : ℕ) → is_some (node_at after b) ≡ true → is_some (node_at tree b) ≡ true
  there b some = sym (some_shaped (node_at tree b)) ∙ sym (ap is_some (alike_at b)) ∙ some_shaped (node_at after b) ∙ some

  -- a tree of the same shape, none of whose bytes are others
  pub vaguer_stands : StandsFor disk after
  vaguer_stands = record {
    param = stands.param;
    parameters = stands.parameters;
    segments = ap (λ (u : FileTree). u.segments) same ∙ stands.segments;
    grammar = stands.grammar;
    versions = stands.versions;
    well_formed = well_too tree after (sym same) stands.well_formed;
    reached = reached_too (node_at after) stands.naming (subst IsReached (sym alike) (all_reached (node_at tree) stands.reached));
    naming = stands.naming;
    picture =
        filled store (node_at after) stands.naming
        (subst (λ (at : Nodes). Pictures store at stands.naming) (sym alike) (pictures_shape store (node_at tree) stands.naming stands.picture store.byte store.large_byte)) bytes;
    root = stands.root;
    births = λ b some late. stands.births b (there b some) late;
  }

pub doubt_stands : DoubtStands
doubt_stands disk tree runs stands =
    vaguer_stands disk tree (doubted tree runs) (doubted_shape tree runs stands.well_formed.births) (λ b j x e. (doubt_keeps tree runs b j x e).before) stands

pub recoveries_of_nothing_stand : RecoveriesOfNothingStand
recoveries_of_nothing_stand disk first history server greatest none stands =
    subst (StandsFor disk) (sym tree_is) (doubt_stands disk (tree_from first history) (doubtful server.0 first (settled first history)) stands)
  where
    tree_is : tree_from first (history ++ Recovered server greatest ∷ []) ≡ doubted (tree_from first history) (doubtful server.0 first (settled first history))
    tree_is =
        ap (after_all first) (settled-recovered first [] history server greatest)
        ∙ ap (λ l. after_all first (l ++ InDoubt (doubtful server.0 first l) ∷ [])) none
        ∙ after_all-push first (settled first history) (InDoubt (doubtful server.0 first (settled first history)))
