-- Where a search of a directory and a walk over sectors lead.
use Rattle.std.specs.Prelude.{◌≡◌, ℕ, ◌*◌, Bool, Option, Some, None, List, map}
use Rattle.std.specs.Option.{option_map}
use Rattle.frang_base.specs.declared.limits.TheConstants.{SECTOR_ENTRIES}
use Rattle.tree_definitions.specs.declared.node.Node.TheVariants.{Dir}
use Rattle.tree_definitions.specs.Entries.{Entries, entry_at}
use Rattle.tree_definitions.specs.Tree.{FileTree, node_at}
use Rattle.tree_definitions.specs.Place.{Place, Root, Taken, Free, Nowhere, place, walked}
use Rattle.disk_definitions.specs.Store.{Store, StoredNode, StoredEntry}
use Rattle.disk_definitions.specs.Naming.{Naming, Nodes, entry_of, place_of}
use Rattle.disk_definitions.specs.Least.{least}
use Rattle.disk_definitions.specs.ChangeLaws.{HasInode}
use Rattle.disk_definitions.specs.Ask.{run}
use Rattle.disk_definitions.specs.Walks.{Spot, AtRoot, AtName, AtGap, Lost, search, walk}
use Rattle.disk_definitions.specs.Meets.{IsOfTree}

-- a search finds the least slot of so many sectors that passes, with what stands there
abbrev pub SearchFindsTheLeast : Type 0
SearchFindsTheLeast = (small : ℕ → ℕ) (test : Option StoredEntry → Bool) (count : ℕ) (store : Store) →
    run (search small test 0 count) store
    ≡ option_map (λ slot. (slot, place_of store.place small slot)) (least (λ slot. test (place_of store.place small slot)) (SECTOR_ENTRIES * count))

-- the inode, in which the node stands, is that of the directory
pub record IsDirectory (store : Store) (at : Nodes) (naming : Naming) (inode : ℕ) (node : StoredNode) (directory : ℕ) (entries : Entries) (blocks : ℕ) : Type 0 where
  pub number : inode ≡ naming.inode directory
  pub has : HasInode store at naming directory (Dir entries blocks) node

-- a spot of a disk is a place of the tree
abbrev pub Mirrors : Store → Nodes → Naming → Spot → Place → Type 0
Mirrors store at naming AtRoot Root = Unit {0}
Mirrors store at naming (AtName inode node name slot entry) (Taken directory entries blocks known birth) =
    IsDirectory store at naming inode node directory entries blocks × (name ≡ known) × (entry_at entries known ≡ Some birth)
    × (slot ≡ naming.spot directory known) × (entry ≡ entry_of naming known birth)
Mirrors store at naming (AtGap inode node name) (Free directory entries blocks known) =
    IsDirectory store at naming inode node directory entries blocks × (name ≡ known) × (entry_at entries known ≡ None)
Mirrors store at naming (Lost reply) (Nowhere refusal) = reply ≡ refusal
Mirrors store at naming _ _ = ⊥

-- the walk of a path leads where the tree's does, and looks up its names in the same directories
abbrev pub WalksLeadAsTheTreeDoes : Type 0
WalksLeadAsTheTreeDoes = (store : Store) (tree : FileTree) (naming : Naming) (path : List (List ℕ)) → IsOfTree store tree naming →
    Mirrors store (node_at tree) naming (run (walk path) store).spot (place tree path) × ((run (walk path) store).dirs ≡ map naming.inode (walked tree path))
