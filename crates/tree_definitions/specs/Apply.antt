-- What an operation answers and what it makes of the tree: its refusals in their order, and then its effect.
use Rattle.std.specs.Prelude.{ℕ, ◌+◌, ◌-◌, ◌*◌, ◌/◌, ◌%◌, Bool, true, false, not, ◌&&◌, ◌==◌, if◌then◌else◌, nat_lt, nat_le, max, Option, Some, None, List, [], ◌∷◌, ◌++◌, length, map, take, drop, replicate}
use Rattle.std.specs.List.{list_any}
use Rattle.frang_base.specs.declared.limits.TheConstants.{FILE_BYTES_MAX, LINKS_MAX, RUN_TICKS_END, SEGMENT_BLOCKS}
use Rattle.frang_base.specs.declared.op.Op.{Op}
use Rattle.frang_base.specs.declared.op.Op.TheVariants as op
use Rattle.frang_base.specs.declared.reply.Reply.{Reply}
use Rattle.frang_base.specs.declared.reply.Reply.TheVariants as reply
use Rattle.tree_definitions.specs.declared.cells.Cell.{Cell}
use Rattle.tree_definitions.specs.declared.cells.Cell.TheVariants.{Byte}
use Rattle.tree_definitions.specs.declared.node.Node.{Node}
use Rattle.tree_definitions.specs.declared.node.Node.TheVariants.{Dir, File, Link}
use Rattle.tree_definitions.specs.Entries.{Entries, with_entry, without_entry}
use Rattle.tree_definitions.specs.Tree.{FileTree, node_at, with_node, without_node, count_of, file_blocks, small_blocks_of, large_blocks_of, inodes_full, larges_full, entries_full, grown, lacks_block}
use Rattle.tree_definitions.specs.Place.{Place, Root, Taken, Free, Nowhere, place, walked}

-- a reply, or the cells that a read shows
pub data Answer : Type 0 where
  Plain : (reply : Reply) → Answer
  Shows : (cells : List Cell) → Answer

-- what is answered, and the tree after it
pub record Applied : Type 0 where
  pub answer : Answer
  pub tree : FileTree

-- an answer that leaves the tree, or comes with this one
abbrev pub says : FileTree → Reply → Applied
says tree reply = record { answer = Plain reply; tree = tree }

-- a directory gets one name more
abbrev pub named : FileTree → ℕ → Entries → ℕ → List ℕ → ℕ → FileTree
named tree dir entries blocks name birth = with_node tree dir (Dir (with_entry entries name birth) (grown entries blocks))

-- create, mkdir, symlink: a name that isn't there gets a new node
abbrev pub made : FileTree → ℕ → Node → Place → Applied
made tree birth node Root = says tree reply.Exist
made tree birth node (Nowhere r) = says tree r
made tree birth node (Taken dir entries blocks name old) = says tree reply.Exist
made tree birth node (Free dir entries blocks name) =
    if entries_full entries then says tree reply.DirFull
    else (if inodes_full tree then says tree reply.NoInode
    else (if lacks_block tree entries blocks then says tree reply.NoDirBlock
    else says (named (with_node tree birth node) dir entries blocks name birth) reply.Ok))

-- a directory is there
abbrev pub is_dir : Option Node → Bool
is_dir (Some (Dir entries blocks)) = true
is_dir (Some (File cells links when)) = false
is_dir (Some (Link target links)) = false
is_dir None = false

-- the names that a node has; a directory has one
abbrev pub links_of : Option Node → ℕ
links_of (Some (Dir entries blocks)) = 1
links_of (Some (File cells links when)) = links
links_of (Some (Link target links)) = links
links_of None = 0

-- one link more
abbrev pub one_link_more : FileTree → ℕ → Option Node → FileTree
one_link_more tree birth (Some (File cells links when)) = with_node tree birth (File cells (links + 1) when)
one_link_more tree birth (Some (Link target links)) = with_node tree birth (Link target (links + 1))
one_link_more tree birth (Some (Dir entries blocks)) = tree
one_link_more tree birth None = tree

-- link: a second name of a node that is no directory
abbrev pub linked_to : FileTree → ℕ → Place → Applied
linked_to tree birth Root = says tree reply.Exist
linked_to tree birth (Nowhere r) = says tree r
linked_to tree birth (Taken dir entries blocks name old) = says tree reply.Exist
linked_to tree birth (Free dir entries blocks name) =
    if nat_le LINKS_MAX (links_of (node_at tree birth)) then says tree reply.MLink
    else (if entries_full entries then says tree reply.DirFull
    else (if lacks_block tree entries blocks then says tree reply.NoDirBlock
    else says (named (one_link_more tree birth (node_at tree birth)) dir entries blocks name birth) reply.Ok))

-- link, from the place of the node to that of its second name
abbrev pub linked : FileTree → Place → Place → Applied
linked tree Root to = says tree reply.IsDir
linked tree (Nowhere r) to = says tree r
linked tree (Free dir entries blocks name) to = says tree reply.NoEnt
linked tree (Taken dir entries blocks name birth) to = if is_dir (node_at tree birth) then says tree reply.IsDir else linked_to tree birth to

-- one link fewer; at none the node is freed, and a directory is freed at once
abbrev pub one_link_fewer : FileTree → ℕ → Option Node → FileTree
one_link_fewer tree birth (Some (File cells links when)) = if nat_lt 1 links then with_node tree birth (File cells (links - 1) when) else without_node tree birth
one_link_fewer tree birth (Some (Link target links)) = if nat_lt 1 links then with_node tree birth (Link target (links - 1)) else without_node tree birth
one_link_fewer tree birth (Some (Dir entries blocks)) = without_node tree birth
one_link_fewer tree birth None = tree

-- a directory with entries is there
abbrev pub has_entries : Option Node → Bool
has_entries (Some (Dir entries blocks)) = nat_lt 0 (length entries)
has_entries (Some (File cells links when)) = false
has_entries (Some (Link target links)) = false
has_entries None = false

-- unlink
abbrev pub unlinked : FileTree → Place → Applied
unlinked tree Root = says tree reply.IsDir
unlinked tree (Nowhere r) = says tree r
unlinked tree (Free dir entries blocks name) = says tree reply.NoEnt
unlinked tree (Taken dir entries blocks name birth) =
    if is_dir (node_at tree birth) then says tree reply.IsDir
    else says (one_link_fewer (with_node tree dir (Dir (without_entry entries name) blocks)) birth (node_at tree birth)) reply.Ok

-- rmdir
abbrev pub dir_removed : FileTree → Place → Applied
dir_removed tree Root = says tree reply.Inval
dir_removed tree (Nowhere r) = says tree r
dir_removed tree (Free dir entries blocks name) = says tree reply.NoEnt
dir_removed tree (Taken dir entries blocks name birth) =
    if not (is_dir (node_at tree birth)) then says tree reply.NotDir
    else (if has_entries (node_at tree birth) then says tree reply.NotEmpty
    else says (without_node (with_node tree dir (Dir (without_entry entries name) blocks)) birth) reply.Ok)

-- a directory loses a name
abbrev pub name_gone : FileTree → ℕ → List ℕ → Option Node → FileTree
name_gone tree dir name (Some (Dir entries blocks)) = with_node tree dir (Dir (without_entry entries name) blocks)
name_gone tree dir name (Some (File cells links when)) = tree
name_gone tree dir name (Some (Link target links)) = tree
name_gone tree dir name None = tree

-- a directory, in whose blocks there is room, has this name for this node
abbrev pub name_set : FileTree → ℕ → List ℕ → ℕ → Option Node → FileTree
name_set tree dir name birth (Some (Dir entries blocks)) = with_node tree dir (Dir (with_entry entries name birth) blocks)
name_set tree dir name birth (Some (File cells links when)) = tree
name_set tree dir name birth (Some (Link target links)) = tree
name_set tree dir name birth None = tree

-- a name is gone from one directory, and then another is in the same or another directory
abbrev pub moved : FileTree → ℕ → List ℕ → ℕ → List ℕ → ℕ → FileTree
moved tree from name to new birth =
    let gone = name_gone tree from name (node_at tree from) in
    name_set gone to new birth (node_at gone to)

-- a directory gets room for one entry more
abbrev pub room_made : FileTree → ℕ → Entries → ℕ → FileTree
room_made tree dir entries blocks = with_node tree dir (Dir entries (grown entries blocks))

-- rename onto a name that is there
abbrev pub moved_onto : FileTree → ℕ → List ℕ → ℕ → ℕ → List ℕ → ℕ → Applied
moved_onto tree from name birth to new old =
    if old == birth then says tree reply.Ok
    else (if is_dir (node_at tree birth) && not (is_dir (node_at tree old)) then says tree reply.NotDir
    else (if is_dir (node_at tree old) && not (is_dir (node_at tree birth)) then says tree reply.IsDir
    else (if has_entries (node_at tree old) then says tree reply.NotEmpty
    else says (one_link_fewer (moved tree from name to new birth) old (node_at tree old)) reply.Ok)))

-- rename to a name that isn't there; in its own directory it takes the place of the old one
abbrev pub moved_to : FileTree → ℕ → List ℕ → ℕ → ℕ → Entries → ℕ → List ℕ → Applied
moved_to tree from name birth to entries blocks new =
    if from == to then says (moved tree from name to new birth) reply.Ok
    else (if entries_full entries then says tree reply.DirFull
    else (if lacks_block tree entries blocks then says tree reply.NoDirBlock
    else says (moved (room_made tree to entries blocks) from name to new birth) reply.Ok))

-- the walk to a new name passed or reached this directory
abbrev pub goes_through : FileTree → List (List ℕ) → ℕ → Bool
goes_through tree to birth = is_dir (node_at tree birth) && list_any (λ b. b == birth) (walked tree to)

-- rename of a node that is there
abbrev pub renamed_to : FileTree → ℕ → List ℕ → ℕ → List (List ℕ) → Place → Applied
renamed_to tree from name birth path Root = says tree reply.Inval
renamed_to tree from name birth path (Nowhere r) = says tree r
renamed_to tree from name birth path (Taken to entries blocks new old) = if goes_through tree path birth then says tree reply.Inval else moved_onto tree from name birth to new old
renamed_to tree from name birth path (Free to entries blocks new) = if goes_through tree path birth then says tree reply.Inval else moved_to tree from name birth to entries blocks new

-- rename of what is at a place
abbrev pub renamed_from : FileTree → Place → List (List ℕ) → Applied
renamed_from tree Root to = says tree reply.Inval
renamed_from tree (Nowhere r) to = says tree r
renamed_from tree (Free dir entries blocks name) to = says tree reply.NoEnt
renamed_from tree (Taken dir entries blocks name birth) to = renamed_to tree dir name birth to (place tree to)

-- rename; the root is refused first
abbrev pub renamed : FileTree → List (List ℕ) → List (List ℕ) → Applied
renamed tree [] to = says tree reply.Inval
renamed tree (name ∷ names) [] = says tree reply.Inval
renamed tree (name ∷ names) (new ∷ news) = renamed_from tree (place tree (name ∷ names)) (new ∷ news)

-- the node at a place, which has to be there
abbrev pub at_node : FileTree → Place → (ℕ → Option Node → Applied) → Applied
at_node tree Root next = next 0 (node_at tree 0)
at_node tree (Taken dir entries blocks name birth) next = next birth (node_at tree birth)
at_node tree (Free dir entries blocks name) next = says tree reply.NoEnt
at_node tree (Nowhere r) next = says tree r

-- a node that has to be a file
abbrev pub if_file : FileTree → (ℕ → List Cell → ℕ → ℕ → Applied) → ℕ → Option Node → Applied
if_file tree next birth (Some (File cells links when)) = next birth cells links when
if_file tree next birth (Some (Dir entries blocks)) = says tree reply.IsDir
if_file tree next birth (Some (Link target links)) = says tree reply.Inval
if_file tree next birth None = says tree reply.NoEnt

-- the file at a place
abbrev pub at_file : FileTree → Place → (ℕ → List Cell → ℕ → ℕ → Applied) → Applied
at_file tree p next = at_node tree p (λ birth node. if_file tree next birth node)

-- cells with others in their place, from an offset on
abbrev pub overwritten : List Cell → ℕ → List Cell → List Cell
overwritten cells off new = take off cells ++ new ++ drop (off + length new) cells

-- write, fill: bytes of this length from an offset on, at a time; `put` makes the new cells of the old ones
abbrev pub written : FileTree → ℕ → ℕ → List Cell → ℕ → ℕ → ℕ → ℕ → (List Cell → List Cell) → Applied
written tree m birth cells links when off len put =
    let size = max (length cells) (off + len) in
    if nat_lt (length cells) off then says tree reply.BadOffset
    else (if nat_lt FILE_BYTES_MAX (off + len) then says tree reply.TooBig
    else (if nat_lt (large_blocks_of (length cells)) (large_blocks_of size) && larges_full tree then says tree reply.NoLarge
    else (if nat_lt (SEGMENT_BLOCKS * tree.segments - m) (count_of file_blocks tree + (small_blocks_of size - small_blocks_of (length cells))) then says tree (reply.NoBlock m)
    else says (with_node tree birth (File (put cells) links when)) reply.Ok)))

-- truncate, at a time
abbrev pub truncated : FileTree → ℕ → List Cell → ℕ → ℕ → ℕ → Applied
truncated tree birth cells links when len =
    if nat_lt (length cells) len then says tree reply.BadOffset
    else says (with_node tree birth (File (take len cells) links when)) reply.Ok

-- read
abbrev pub shown : FileTree → List Cell → ℕ → ℕ → Applied
shown tree cells off len =
    if nat_lt (length cells) off then says tree reply.BadOffset
    else record { answer = Shows (take len (drop off cells)); tree = tree }

-- the two halves of a time: the run, and the tick of its script
abbrev pub time_of : ℕ → Reply
time_of when = reply.Time (when / RUN_TICKS_END) (when % RUN_TICKS_END)

-- stat
abbrev pub described : FileTree → Option Node → Applied
described tree (Some (File cells links when)) = says tree (reply.File (length cells) links)
described tree (Some (Dir entries blocks)) = says tree (reply.Dir (length entries))
described tree (Some (Link target links)) = says tree (reply.Symlink (length target))
described tree None = says tree reply.NoEnt

-- list
abbrev pub listed : FileTree → Option Node → Applied
listed tree (Some (Dir entries blocks)) = says tree (reply.Names (map (λ e. e.0) entries))
listed tree (Some (File cells links when)) = says tree reply.NotDir
listed tree (Some (Link target links)) = says tree reply.NotDir
listed tree None = says tree reply.NoEnt

-- readlink
abbrev pub target_of : FileTree → Option Node → Applied
target_of tree (Some (Link target links)) = says tree (reply.Target target)
target_of tree (Some (Dir entries blocks)) = says tree reply.Inval
target_of tree (Some (File cells links when)) = says tree reply.Inval
target_of tree None = says tree reply.NoEnt

-- an operation over a path, at a birth that no node has and at a time; m is the number of small blocks that are or were a directory's. A
-- file that is written or cut gets the time; a new one has none, which is 0. An operation without a path isn't applied
abbrev pub apply : FileTree → Op → ℕ → ℕ → ℕ → Applied
apply tree (op.Create path) birth when m = made tree birth (File [] 1 0) (place tree path)
apply tree (op.Mkdir path) birth when m = made tree birth (Dir [] 0) (place tree path)
apply tree (op.Symlink path target) birth when m = made tree birth (Link target 1) (place tree path)
apply tree (op.Link path to) birth when m = linked tree (place tree path) (place tree to)
apply tree (op.Unlink path) birth when m = unlinked tree (place tree path)
apply tree (op.Rmdir path) birth when m = dir_removed tree (place tree path)
apply tree (op.Rename path to) birth when m = renamed tree path to
apply tree (op.Write path off bytes) birth when m = at_file tree (place tree path) (λ b cells links old. written tree m b cells links when off (length bytes) (λ all. overwritten all off (map Byte bytes)))
apply tree (op.Fill path off len byte) birth when m = at_file tree (place tree path) (λ b cells links old. written tree m b cells links when off len (λ all. overwritten all off (replicate len (Byte byte))))
apply tree (op.Truncate path len) birth when m = at_file tree (place tree path) (λ b cells links old. truncated tree b cells links when len)
apply tree (op.Read path off len) birth when m = at_file tree (place tree path) (λ b cells links at. shown tree cells off len)
apply tree (op.Stat path) birth when m = at_node tree (place tree path) (λ b node. described tree node)
apply tree (op.List path) birth when m = at_node tree (place tree path) (λ b node. listed tree node)
apply tree (op.Readlink path) birth when m = at_node tree (place tree path) (λ b node. target_of tree node)
apply tree (op.Time path) birth when m = at_file tree (place tree path) (λ b cells links at. says tree (time_of at))
apply tree op birth when m = says tree reply.Ok

-- an operation with a path
abbrev pub is_path_op : Op → Bool
is_path_op op.Sync = false
is_path_op op.Mount = false
is_path_op op.Unmount = false
is_path_op op.Crash = false
is_path_op (op.CrashAt k) = false
is_path_op (op.CutAt k) = false
is_path_op op.Stall = false
is_path_op _ = true
