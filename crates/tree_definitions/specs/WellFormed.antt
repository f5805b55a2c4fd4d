-- What holds of every tree: births and names ascend, the root is a directory, and each node has as many names as links.
use Rattle.std.specs.Prelude.{◌≡◌, ℕ, ◌+◌, true, ◌==◌, if◌then◌else◌, Option, Some, None, List, [], ◌∷◌, sum_by, is_some, nat_eq}
use Rattle.std.specs.List.{AllByRecursion, IsDistinct}
use Rattle.std.specs.List.Sorted.{IsStrictlySortedBy}
use Rattle.std.specs.Map.{keys_of, values_of}
use Rattle.std.specs.Ordering.{nat_cmp}
use Rattle.std.specs.Cmp.Lexicographic.{slice_cmp}
use Rattle.tree_definitions.specs.declared.node.Node.{Node}
use Rattle.tree_definitions.specs.declared.node.Node.TheVariants.{Dir, File, Link}
use Rattle.tree_definitions.specs.Entries.{Entries, entry_at}
use Rattle.tree_definitions.specs.Tree.{FileTree, node_at, count_of}
use Rattle.tree_definitions.specs.Apply.{is_dir, links_of}
use Rattle.tree_definitions.specs.History.{Settled, Stays, InDoubt}

-- at this birth this node, or none, and elsewhere the nodes as they are
abbrev pub put : (ℕ → Option Node) → ℕ → Option Node → ℕ → Option Node
put nodes birth node b = if b == birth then node else nodes b

-- the births ascend, so that no two nodes have the same
abbrev pub BirthsAscend : FileTree → Type 0
BirthsAscend tree = IsStrictlySortedBy nat_cmp (keys_of tree.nodes)

-- the names of each directory ascend by their bytes, so that no two entries have the same
abbrev pub NamesAscend : FileTree → Type 0
NamesAscend tree = (dir : ℕ) (entries : Entries) (blocks : ℕ) → node_at tree dir ≡ Some (Dir entries blocks) → IsStrictlySortedBy (slice_cmp nat_cmp) (keys_of entries)

-- the root is a directory
abbrev pub IsRooted : FileTree → Type 0
IsRooted tree = is_dir (node_at tree 0) ≡ true

-- 1 for the birth that is counted, else 0
abbrev pub one_at : ℕ → ℕ → ℕ
one_at birth b = if b == birth then 1 else 0

-- how many entries of a node have this birth
abbrev pub names_in : ℕ → Node → ℕ
names_in birth (Dir entries blocks) = sum_by (one_at birth) (values_of entries)
names_in birth (File cells links when) = 0
names_in birth (Link target links) = 0

-- how many entries of the tree have this birth
abbrev pub names_of : FileTree → ℕ → ℕ
names_of tree birth = count_of (names_in birth) tree

-- each node has as many names as links, and what isn't there has no name; a directory has one name, and the root one that is no entry
abbrev pub LinksAreNames : FileTree → Type 0
LinksAreNames tree = (birth : ℕ) → names_of tree birth + one_at 0 birth ≡ links_of (node_at tree birth)

-- a well-formed tree
pub record IsWellFormed (tree : FileTree) : Type 0 where
  pub births : BirthsAscend tree
  pub names : NamesAscend tree
  pub rooted : IsRooted tree
  pub links : LinksAreNames tree

-- an entry of a directory has the birth of a node
abbrev pub EntriesNameNodes : FileTree → Type 0
EntriesNameNodes tree = (dir : ℕ) (entries : Entries) (blocks : ℕ) (name : List ℕ) (birth : ℕ) → node_at tree dir ≡ Some (Dir entries blocks) → entry_at entries name ≡ Some birth → is_some (node_at tree birth) ≡ true

-- what a walk needs of a tree: births ascend, the root is a directory, and entries name nodes
pub record IsWalkable (tree : FileTree) : Type 0 where
  pub births : BirthsAscend tree
  pub rooted : IsRooted tree
  pub entries : EntriesNameNodes tree

-- no node has this birth
abbrev pub IsNew : FileTree → ℕ → Type 0
IsNew tree birth = node_at tree birth ≡ None

-- the operation numbers of the entries of a list
abbrev pub numbers_of : List Settled → List ℕ
numbers_of [] = []
numbers_of (Stays e ∷ list) = e.number.0 ∷ numbers_of list
numbers_of (InDoubt runs ∷ list) = numbers_of list

-- the entries of a list have numbers that no node of the tree has, each its own
pub record AreNew (tree : FileTree) (list : List Settled) : Type 0 where
  pub absent : AllByRecursion (IsNew tree) (numbers_of list)
  pub distinct : IsDistinct nat_eq (numbers_of list)
