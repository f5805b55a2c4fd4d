-- What a recovery that removes nothing leaves: cells in doubt, of which the disk says nothing.
use Rattle.std.specs.Prelude.{◌≡◌, List, ◌++◌, [], ◌∷◌}
use Rattle.frang_base.specs.declared.sector.OpNo.{OpNo}
use Rattle.frang_base.specs.declared.sector.ServerId.{ServerId}
use Rattle.tree_definitions.specs.declared.history.Item.{Item}
use Rattle.tree_definitions.specs.declared.history.Item.TheVariants.{Recovered}
use Rattle.tree_definitions.specs.History.{CellRun, doubted}
use Rattle.tree_definitions.specs.Removal.{left, settled, tree_from}
use Rattle.tree_definitions.specs.Tree.{FileTree}
use Rattle.sector_bytes.specs.Sectors.{Sectors}
use Rattle.disk_definitions.specs.Standing.{StandsFor}

-- a disk that stands for a tree stands for it with more cells in doubt
abbrev pub DoubtStands : Type 0
DoubtStands = (disk : Sectors) (tree : FileTree) (runs : List CellRun) → StandsFor disk tree → StandsFor disk (doubted tree runs)

-- so where a recovery of a server finds nothing to remove, as one of a server that was closed: the disk stands for the tree of the history with it
abbrev pub RecoveriesOfNothingStand : Type 0
RecoveriesOfNothingStand =
    (disk : Sectors) (first_tree : FileTree) (history : List Item) (server : ServerId) (greatest : OpNo) →
    left server.0 greatest.0 first_tree (settled first_tree history) ≡ settled first_tree history →
    StandsFor disk (tree_from first_tree history) → StandsFor disk (tree_from first_tree (history ++ Recovered server greatest ∷ []))
