-- The shape of a tree; which nodes an entry changes and touches, and when it is seen or synced.
use Rattle.std.specs.Prelude.{ℕ, Bool, true, false, not, ◌&&◌, ◌||◌, ◌==◌, if◌then◌else◌, nat_eq, Option, Some, None, List, [], ◌∷◌, ◌++◌, map, filter}
use Rattle.std.specs.List.{list_any}
use Rattle.std.specs.Option.{option_map}
use Rattle.std.specs.Cmp.Lexicographic.{pointwise}
use Rattle.frang_base.specs.declared.op.Op.{Op}
use Rattle.frang_base.specs.declared.op.Op.TheVariants as op
use Rattle.frang_base.specs.declared.reply.Reply.{Reply}
use Rattle.frang_base.specs.declared.reply.Reply.TheVariants as reply
use Rattle.tree_definitions.specs.declared.cells.Cell.{Cell}
use Rattle.tree_definitions.specs.declared.cells.Cell.TheVariants.{Byte, Doubtful}
use Rattle.tree_definitions.specs.declared.history.Entry.{Entry}
use Rattle.tree_definitions.specs.declared.node.Node.{Node}
use Rattle.tree_definitions.specs.declared.node.Node.TheVariants.{Dir, File, Link}
use Rattle.tree_definitions.specs.Tree.{FileTree, node_at, small_blocks, large_blocks}
use Rattle.tree_definitions.specs.Place.{Place, Root, Taken, Free, Nowhere, place, walked}
use Rattle.tree_definitions.specs.Perform.{Step, Goes, Stops, resolved}
use Rattle.tree_definitions.specs.History.{applied, is_answer, Settled, Stays, InDoubt, after}

-- equal cells
abbrev pub same_cell : Cell → Cell → Bool
same_cell (Byte a) (Byte b) = a == b
same_cell (Byte a) Doubtful = false
same_cell Doubtful (Byte b) = false
same_cell Doubtful Doubtful = true

-- equal nodes
abbrev pub same_node : Node → Node → Bool
same_node (Dir es n) (Dir fs m) = pointwise (λ e f. pointwise nat_eq e.0 f.0 && e.1 == f.1) es fs && n == m
same_node (File cs n w) (File ds m v) = pointwise same_cell cs ds && n == m && w == v
same_node (Link s n) (Link t m) = pointwise nat_eq s t && n == m
same_node _ _ = false

-- the same node, or none in either tree
abbrev pub same_where : Option Node → Option Node → Bool
same_where (Some a) (Some b) = same_node a b
same_where None None = true
same_where (Some a) None = false
same_where None (Some b) = false

-- cells of the same number, all in doubt
abbrev pub doubts : List Cell → List Cell
doubts cells = map (λ c. Doubtful) cells

-- a node without the bytes of a file
abbrev pub node_shape : Node → Node
node_shape (Dir entries blocks) = Dir entries blocks
node_shape (File cells links when) = File (doubts cells) links when
node_shape (Link target links) = Link target links

-- the same, where there is one
abbrev pub shaped : Option Node → Option Node
shaped node = option_map node_shape node

-- the shape of a tree: the tree without the bytes of files, with sizes, links, times, births and directory blocks
abbrev pub shape_of : FileTree → FileTree
shape_of tree = record tree { nodes = map (λ n. (n.0, node_shape n.1)) tree.nodes }

-- the births of either tree
abbrev pub births : FileTree → FileTree → List ℕ
births old new = map (λ n. n.0) old.nodes ++ map (λ n. n.0) new.nodes

-- two trees differ at a birth
abbrev pub differs : FileTree → FileTree → ℕ → Bool
differs old new birth = not (same_where (node_at old birth) (node_at new birth))

-- an entry changes the node of a birth; a read that turns doubtful cells into bytes changes none
abbrev pub changes : FileTree → Entry → ℕ → Bool
changes tree e birth = is_answer tree e && differs tree (applied tree e).tree birth

-- the births whose nodes an entry changes
abbrev pub changed : FileTree → Entry → List ℕ
changed tree e = filter (changes tree e) (births tree (applied tree e).tree)

-- an entry changes the shape: more than the bytes of files
abbrev pub changes_shape : FileTree → Entry → Bool
changes_shape tree e =
    let new = (applied tree e).tree in
    is_answer tree e && list_any (differs (shape_of tree) (shape_of new)) (births tree new)

-- the birth of a node that is as wanted
abbrev pub reached_if : (Node → Bool) → ℕ → Option Node → List ℕ
reached_if wanted birth (Some node) = if wanted node then birth ∷ [] else []
reached_if wanted birth None = []

-- the birth of the node at a place, where it is as wanted
abbrev pub reached : FileTree → (Node → Bool) → Place → List ℕ
reached tree wanted Root = reached_if wanted 0 (node_at tree 0)
reached tree wanted (Taken dir entries blocks name birth) = reached_if wanted birth (node_at tree birth)
reached tree wanted (Free dir entries blocks name) = []
reached tree wanted (Nowhere r) = []

-- whatever node
abbrev pub any_node : Node → Bool
any_node node = true

-- a directory
abbrev pub dir_node : Node → Bool
dir_node (Dir entries blocks) = true
dir_node (File cells links when) = false
dir_node (Link target links) = false

-- a file
abbrev pub file_node : Node → Bool
file_node (File cells links when) = true
file_node (Dir entries blocks) = false
file_node (Link target links) = false

-- a symbolic link
abbrev pub link_node : Node → Bool
link_node (Link target links) = true
link_node (Dir entries blocks) = false
link_node (File cells links when) = false

-- a second walk is made only where the first one reached something
abbrev pub then_walked : FileTree → List ℕ → List (List ℕ) → List ℕ
then_walked tree [] to = []
then_walked tree (birth ∷ births) to = walked tree to

-- the directories in which the walks of an operation over paths without links look a name up, in the order of its refusals
abbrev pub looked_in : FileTree → Op → List ℕ
looked_in tree (op.Create path) = walked tree path
looked_in tree (op.Mkdir path) = walked tree path
looked_in tree (op.Symlink path target) = walked tree path
looked_in tree (op.Link path to) = walked tree path ++ then_walked tree (reached tree (λ n. not (dir_node n)) (place tree path)) to
looked_in tree (op.Unlink path) = walked tree path
looked_in tree (op.Rmdir path) = walked tree path
looked_in tree (op.Rename [] to) = []
looked_in tree (op.Rename (n ∷ ns) []) = []
looked_in tree (op.Rename (n ∷ ns) (m ∷ ms)) = walked tree (n ∷ ns) ++ then_walked tree (reached tree any_node (place tree (n ∷ ns))) (m ∷ ms)
looked_in tree (op.Write path off bytes) = walked tree path
looked_in tree (op.Fill path off len byte) = walked tree path
looked_in tree (op.Truncate path len) = walked tree path
looked_in tree (op.Read path off len) = walked tree path
looked_in tree (op.Stat path) = walked tree path
looked_in tree (op.List path) = walked tree path
looked_in tree (op.Readlink path) = walked tree path
looked_in tree (op.Time path) = walked tree path
looked_in tree op = []

-- the one further node that an operation touches, by its reply
abbrev pub further : FileTree → Op → Reply → List ℕ
further tree (op.Stat path) r = reached tree any_node (place tree path)
further tree (op.Time path) r = reached tree any_node (place tree path)
further tree (op.Link path to) reply.MLink = reached tree any_node (place tree path)
further tree (op.Link path to) reply.DirFull = reached tree any_node (place tree path)
further tree (op.Link path to) reply.NoDirBlock = reached tree any_node (place tree path)
further tree (op.Rename path to) reply.NotEmpty = reached tree dir_node (place tree to)
further tree (op.List path) r = reached tree dir_node (place tree path)
further tree (op.Rmdir (n ∷ ns)) r = reached tree dir_node (place tree (n ∷ ns))
further tree (op.Read path off len) r = reached tree file_node (place tree path)
further tree (op.Write path off bytes) r = reached tree file_node (place tree path)
further tree (op.Fill path off len byte) r = reached tree file_node (place tree path)
further tree (op.Truncate path len) r = reached tree file_node (place tree path)
further tree (op.Readlink path) r = reached tree link_node (place tree path)
further tree op r = []

-- the nodes that an operation over paths without links looks in or reaches last, by its reply
abbrev pub visited : FileTree → Step → Reply → List ℕ
visited tree (Goes o) r = looked_in tree o ++ further tree o r
visited tree (Stops reply) r = []

-- an entry touches the node of a birth: it changes it, looks a name up in it, follows it as a link, or reaches it last
abbrev pub touches : FileTree → Entry → ℕ → Bool
touches tree e birth = is_answer tree e && (changes tree e birth || list_any (λ b. b == birth) ((resolved tree e.op).trail ++ visited tree (resolved tree e.op).step e.reply))

-- a later entry of another server touches one of these nodes
abbrev pub touched_later : ℕ → List ℕ → FileTree → List Settled → Bool
touched_later server nodes tree [] = false
touched_later server nodes tree (Stays e ∷ rest) = (not (e.server.0 == server) && list_any (touches tree e) nodes) || touched_later server nodes (after tree (Stays e)) rest
touched_later server nodes tree (InDoubt runs ∷ rest) = touched_later server nodes (after tree (InDoubt runs)) rest

-- an answer for want of inodes or blocks
abbrev pub is_nospace : Reply → Bool
is_nospace reply.NoInode = true
is_nospace reply.NoDirBlock = true
is_nospace (reply.NoBlock m) = true
is_nospace reply.NoLarge = true
is_nospace _ = false

-- a later entry of another server is answered `nospace`
abbrev pub refused_later : ℕ → List Settled → Bool
refused_later server [] = false
refused_later server (Stays e ∷ rest) = (not (e.server.0 == server) && is_nospace e.reply) || refused_later server rest
refused_later server (InDoubt runs ∷ rest) = refused_later server rest

-- a node was made or freed, or its number of blocks changed
abbrev pub other_room : Option Node → Option Node → Bool
other_room (Some a) (Some b) = not (small_blocks a == small_blocks b && large_blocks a == large_blocks b)
other_room None None = false
other_room (Some a) None = true
other_room None (Some b) = true

-- an entry makes or frees a node, or changes its blocks
abbrev pub changes_room : FileTree → Entry → Bool
changes_room tree e = list_any (λ b. other_room (node_at tree b) (node_at (applied tree e).tree b)) (changed tree e)

-- an entry that stands at this tree is seen by another server in the rest of the list
abbrev pub is_seen : FileTree → Entry → List Settled → Bool
is_seen tree e rest = touched_later e.server.0 (changed tree e) (after tree (Stays e)) rest || (changes_room tree e && refused_later e.server.0 rest)

-- the reply `mounted`
abbrev pub is_mounted : Reply → Bool
is_mounted reply.Mounted = true
is_mounted _ = false

-- the reply `ok`
abbrev pub is_ok : Reply → Bool
is_ok reply.Ok = true
is_ok _ = false

-- a sync
abbrev pub is_sync : Op → Bool
is_sync op.Sync = true
is_sync _ = false

-- an unmount
abbrev pub is_unmount : Op → Bool
is_unmount op.Unmount = true
is_unmount _ = false

-- a stall
abbrev pub is_stall : Op → Bool
is_stall op.Stall = true
is_stall _ = false

-- whether a stall of the server was answered `ok` since its last mount, after one step more
abbrev pub stalled_after : ℕ → Bool → Settled → Bool
stalled_after server stalled (Stays e) = if not (e.server.0 == server) then stalled else (if is_mounted e.reply then false else stalled || (is_stall e.op && is_ok e.reply))
stalled_after server stalled (InDoubt runs) = stalled

-- before the server's next mount a sync of it is answered `ok`, or an unmount while no stall was since its last mount
abbrev pub is_synced : ℕ → Bool → List Settled → Bool
is_synced server stalled [] = false
is_synced server stalled (InDoubt runs ∷ rest) = is_synced server stalled rest
is_synced server stalled (Stays e ∷ rest) =
    if not (e.server.0 == server) then is_synced server stalled rest
    else (if is_mounted e.reply then false
    else (is_sync e.op && is_ok e.reply) || (is_unmount e.op && is_ok e.reply && not stalled) || is_synced server (stalled_after server stalled (Stays e)) rest)
