-- What each change makes of the picture of some nodes, and of its naming.
use Rattle.std.specs.Prelude.{◌≡◌, ◌≢◌, ℕ, ◌+◌, ◌*◌, ◌<◌, ◌≤◌, true, false, if◌then◌else◌, Option, Some, None, List, [], ◌++◌, length, is_some}
use Rattle.std.specs.Ordering.{nat_cmp}
use Rattle.std.specs.Cmp.Lexicographic.{slice_cmp}
use Rattle.std.specs.List.Sorted.{IsStrictlySortedBy}
use Rattle.std.specs.Map.{keys_of}
use Rattle.frang_base.specs.declared.limits.TheConstants.{BLOCK_ENTRIES, FILE_BYTES_MAX, KIND_FILE, LARGE_BLOCK_SECTORS, SECTOR_BYTES, SMALL_BLOCK_BYTES}
use Rattle.tree_definitions.specs.declared.cells.Cell.{Cell}
use Rattle.tree_definitions.specs.declared.node.Node.{Node}
use Rattle.tree_definitions.specs.declared.node.Node.TheVariants.{Dir, File, Link}
use Rattle.tree_definitions.specs.Entries.{Entries, entry_at, with_entry, without_entry}
use Rattle.tree_definitions.specs.Apply.{is_dir}
use Rattle.frang_base.specs.Functions.{put}
use Rattle.tree_definitions.specs.WellFormed.{put as put_node}
use Rattle.disk_definitions.specs.Store.{Store, StoredNode, is_unused}
use Rattle.disk_definitions.specs.Store.Use.{Fresh, Bytes}
use Rattle.disk_definitions.specs.Standing.{IsMetadata}
use Rattle.disk_definitions.specs.Naming.{Naming, Nodes, Pictures, kind_of, find_in, entry_of, dir_place}
use Rattle.disk_definitions.specs.Edits.{Edit, edited_all}
use Rattle.disk_definitions.specs.Changes.{new_node, put_entry, take_entry, replace_entry, grow, relink, freed, drop_node}
use Rattle.disk_definitions.specs.Namings.{named_new, named_at, named_block, is_owned_by, is_of, named_less, KeepsOthers}

-- edits go from the left
abbrev pub EditsGoOn : Type 0
EditsGoOn = (s : Store) (es fs : List Edit) → edited_all s (es ++ fs) ≡ edited_all (edited_all s es) fs

-- after the change of a birth the store is the picture of the nodes with this one, under a naming that keeps the others
pub record Leads (s t : Store) (at : Nodes) (n m : Naming) (b : ℕ) (node : Option Node) : Type 0 where
  pub pictures : Pictures t (put_node at b node) m
  pub others : KeepsOthers at b n m

-- a node without blocks and bytes
abbrev pub IsBare : Node → Type 0
IsBare (Dir entries blocks) = (entries ≡ []) × (blocks ≡ 0)
IsBare (File cells links when) = cells ≡ []
IsBare (Link target links) = Unit {0}

-- a bare node may come at a birth that is new and has no name, into an inode that is free
pub record MayCome (s : Store) (at : Nodes) (b i : ℕ) (node : Node) : Type 0 where
  pub new : at b ≡ None
  pub unnamed : (d : ℕ) (name : List ℕ) → find_in (at d) name ≢ Some b
  pub free : s.bit i ≡ false
  pub bare : IsBare node

abbrev pub NodesCome : Type 0
NodesCome = (s : Store) (at : Nodes) (n : Naming) (b i stamp : ℕ) (node : Node) → Pictures s at n → MayCome s at b i node →
    Leads s (edited_all s (new_node i stamp node)) at n (named_new n b i stamp (kind_of node)) b (Some node)

-- the names ascend, so that no two are the same
abbrev pub NamesDiffer : Entries → Type 0
NamesDiffer entries = IsStrictlySortedBy (slice_cmp nat_cmp) (keys_of entries)

-- new entries with one name more
pub record HasNameMore (old new : Entries) (name : List ℕ) (b : ℕ) : Type 0 where
  pub absent : entry_at old name ≡ None
  pub has : entry_at new name ≡ Some b
  pub others : (m : List ℕ) → m ≢ name → entry_at new m ≡ entry_at old m
  pub one : length new ≡ length old + 1

-- new entries with one name less
pub record HasNameLess (old new : Entries) (name : List ℕ) : Type 0 where
  pub had : is_some (entry_at old name) ≡ true
  pub gone : entry_at new name ≡ None
  pub others : (m : List ℕ) → m ≢ name → entry_at new m ≡ entry_at old m
  pub one : length old ≡ length new + 1

-- a name that isn't there comes
abbrev pub NamesCome : Type 0
NamesCome = (entries : Entries) (name : List ℕ) (b : ℕ) → entry_at entries name ≡ None → HasNameMore entries (with_entry entries name b) name b

-- a name that is there goes
abbrev pub NamesGo : Type 0
NamesGo = (entries : Entries) (name : List ℕ) → NamesDiffer entries → is_some (entry_at entries name) ≡ true → HasNameLess entries (without_entry entries name) name

-- the node of a birth, and what its inode says
pub record HasInode (s : Store) (at : Nodes) (n : Naming) (b : ℕ) (node : Node) (x : StoredNode) : Type 0 where
  pub is : at b ≡ Some node
  pub inode : s.inode (n.inode b) ≡ Some x

-- place q of a directory of so many blocks is free
pub record IsFreePlace (s : Store) (n : Naming) (d blocks q : ℕ) : Type 0 where
  pub inside : q < BLOCK_ENTRIES * blocks
  pub vacant : dir_place s n d q ≡ None

abbrev pub EntriesCome : Type 0
EntriesCome = (s : Store) (at : Nodes) (n : Naming) (d blocks : ℕ) (x : StoredNode) (old new : Entries) (name : List ℕ) (b q : ℕ) → Pictures s at n → HasInode s at n d (Dir old blocks) x → HasNameMore old new name b → IsFreePlace s n d blocks q →
    Leads s (edited_all s (put_entry (n.inode d) x q (entry_of n name b))) at n (named_at n d name q) d (Some (Dir new blocks))

abbrev pub EntriesGo : Type 0
EntriesGo = (s : Store) (at : Nodes) (n : Naming) (d blocks : ℕ) (x : StoredNode) (old new : Entries) (name : List ℕ) → Pictures s at n → HasInode s at n d (Dir old blocks) x → HasNameLess old new name →
    Leads s (edited_all s (take_entry (n.inode d) x (n.spot d name))) at n n d (Some (Dir new blocks))

-- a free block of which no place has an entry; of one that was a directory's that is so
pub record IsFreeBlock (s : Store) (k : ℕ) : Type 0 where
  pub free : is_unused (s.use_of k) ≡ true
  pub clear : s.use_of k ≡ Fresh → (p : ℕ) → p < BLOCK_ENTRIES → s.place k p ≡ None

abbrev pub DirectoriesGrow : Type 0
DirectoriesGrow = (s : Store) (at : Nodes) (n : Naming) (d blocks : ℕ) (x : StoredNode) (entries : Entries) (k : ℕ) → Pictures s at n → HasInode s at n d (Dir entries blocks) x → IsFreeBlock s k →
    Leads s (edited_all s (grow (n.inode d) x k)) at n (named_block n d blocks k) d (Some (Dir entries (blocks + 1)))

-- new entries where another name, or the same, stands for a name
pub record HasNameInstead (old new : Entries) (name to : List ℕ) (b : ℕ) : Type 0 where
  pub had : is_some (entry_at old name) ≡ true
  pub has : entry_at new to ≡ Some b
  pub absent : name ≢ to → entry_at old to ≡ None
  pub gone : name ≢ to → entry_at new name ≡ None
  pub others : (m : List ℕ) → m ≢ name → m ≢ to → entry_at new m ≡ entry_at old m
  pub same : length new ≡ length old

-- a name becomes another that isn't there
abbrev pub NamesMove : Type 0
NamesMove = (entries : Entries) (name to : List ℕ) (b : ℕ) → NamesDiffer entries → is_some (entry_at entries name) ≡ true → entry_at entries to ≡ None → HasNameInstead entries (with_entry (without_entry entries name) to b) name to b

-- a name that is there gets another node
abbrev pub NamesAreTaken : Type 0
NamesAreTaken = (entries : Entries) (name : List ℕ) (b : ℕ) → NamesDiffer entries → is_some (entry_at entries name) ≡ true → HasNameInstead entries (with_entry entries name b) name name b

abbrev pub EntriesAreReplaced : Type 0
EntriesAreReplaced = (s : Store) (at : Nodes) (n : Naming) (d blocks : ℕ) (x : StoredNode) (old new : Entries) (name to : List ℕ) (b : ℕ) → Pictures s at n → HasInode s at n d (Dir old blocks) x → HasNameInstead old new name to b →
    Leads s (edited_all s (replace_entry x (n.spot d name) (entry_of n to b))) at n (named_at n d to (n.spot d name)) d (Some (Dir new blocks))

-- a file or a link with so many links
abbrev pub with_links : ℕ → Node → Node
with_links links (Dir entries blocks) = Dir entries blocks
with_links links (File cells old when) = File cells links when
with_links links (Link target old) = Link target links

abbrev pub LinksChange : Type 0
LinksChange = (s : Store) (at : Nodes) (n : Naming) (b links : ℕ) (x : StoredNode) (node : Node) → Pictures s at n → HasInode s at n b node x → is_dir (Some node) ≡ false →
    Leads s (edited_all s (relink (n.inode b) x links)) at n n b (Some (with_links links node))

-- no file is longer than its blocks reach: 65,536 bytes in small blocks and 1,048,576 in a large one
abbrev pub FilesFit : Nodes → Type 0
FilesFit at = (b links when : ℕ) (cells : List Cell) → at b ≡ Some (File cells links when) → length cells ≤ FILE_BYTES_MAX

-- stores that say the same where it counts: of places those of blocks that are or were a directory's, of bytes those of blocks in use for bytes
pub record SaysTheSame (s t : Store) : Type 0 where
  pub inode : (i : ℕ) → t.inode i ≡ s.inode i
  pub bit : (i : ℕ) → t.bit i ≡ s.bit i
  pub uses : (k : ℕ) → t.use_of k ≡ s.use_of k
  pub large_bits : (g : ℕ) → t.large_bit g ≡ s.large_bit g
  pub places : (k p : ℕ) → p < BLOCK_ENTRIES → IsMetadata (s.use_of k) → t.place k p ≡ s.place k p
  pub bytes : (k j : ℕ) → j < SMALL_BLOCK_BYTES → s.use_of k ≡ Bytes → t.byte k j ≡ s.byte k j
  pub large_bytes : (g j : ℕ) → j < LARGE_BLOCK_SECTORS * SECTOR_BYTES → s.large_bit g ≡ true → t.large_byte g j ≡ s.large_byte g j

-- files fit where the inodes that picture them have such sizes
abbrev pub FilesFitBySizes : Type 0
FilesFitBySizes = (s : Store) (at : Nodes) (n : Naming) → Pictures s at n → ((i : ℕ) (x : StoredNode) → s.inode i ≡ Some x → x.kind ≡ KIND_FILE → x.size ≤ FILE_BYTES_MAX) → FilesFit at

abbrev pub PicturesGoByWhatCounts : Type 0
PicturesGoByWhatCounts = (s t : Store) (at : Nodes) (n : Naming) → Pictures s at n → FilesFit at → SaysTheSame s t → Pictures t at n

-- no name stands in the node
abbrev pub HasNoNames : Node → Type 0
HasNoNames node = (name : List ℕ) → find_in (Some node) name ≡ None

-- the store when a node has gone, by its values: the inode and the large block are free, and the small blocks are what those of its kind become
abbrev pub dropped : Store → Naming → ℕ → Node → Store
dropped s n b node = record s {
  inode = put s.inode (n.inode b) None;
  bit = put s.bit (n.inode b) false;
  use_of = λ k. if is_owned_by b (n.owner k) then freed (kind_of node) else s.use_of k;
  large_bit = λ g. if is_of b (n.large_owner g) then false else s.large_bit g;
}

abbrev pub DroppedNodesGo : Type 0
DroppedNodesGo = (s : Store) (at : Nodes) (n : Naming) (b : ℕ) (node : Node) → Pictures s at n → at b ≡ Some node → HasNoNames node →
    Leads s (dropped s n b node) at n (named_less n b (kind_of node)) b None

abbrev pub EditsDrop : Type 0
EditsDrop = (s : Store) (at : Nodes) (n : Naming) (b : ℕ) (x : StoredNode) (node : Node) → Pictures s at n → HasInode s at n b node x → edited_all s (drop_node (n.inode b) x) ≡ dropped s n b node

abbrev pub NodesGo : Type 0
NodesGo = (s : Store) (at : Nodes) (n : Naming) (b : ℕ) (x : StoredNode) (node : Node) → Pictures s at n → HasInode s at n b node x → HasNoNames node →
    Leads s (edited_all s (drop_node (n.inode b) x)) at n (named_less n b (kind_of node)) b None
