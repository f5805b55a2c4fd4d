-- What an operation takes of the disk, by the tree alone: it goes by the refusals of the tree, those for want of space left out.
use Rattle.std.specs.Prelude.{ℕ, ◌+◌, ◌-◌, Bool, true, false, ◌==◌, if◌then◌else◌, nat_lt, nat_le, max, Option, Some, None, List, [], ◌∷◌, length}
use Rattle.frang_base.specs.declared.limits.TheConstants.{FILE_BYTES_MAX, LINKS_MAX}
use Rattle.frang_base.specs.declared.op.Op.{Op}
use Rattle.frang_base.specs.declared.op.Op.TheVariants as op
use Rattle.tree_definitions.specs.declared.node.Node.{Node}
use Rattle.tree_definitions.specs.declared.node.Node.TheVariants.{Dir, File, Link}
use Rattle.tree_definitions.specs.Entries.{Entries}
use Rattle.tree_definitions.specs.Tree.{FileTree, node_at, small_blocks_of, large_blocks_of, entries_full, must_grow}
use Rattle.tree_definitions.specs.Place.{Place, Root, Taken, Free, Nowhere, place}
use Rattle.tree_definitions.specs.Apply.{is_dir, links_of, goes_through}

-- what an operation takes of the disk: an inode, a block for a directory, a large block, and so many small blocks for bytes
pub record Wants : Type 0 where
  pub inode : Bool
  pub grows : Bool
  pub large : Bool
  pub small : ℕ

-- one name more in a directory, with a new node or without
abbrev pub wants_name : Bool → Entries → ℕ → Option Wants
wants_name inode entries blocks =
    if entries_full entries then None else Some (record { inode = inode; grows = must_grow entries blocks; large = false; small = 0 })

-- create, mkdir, symlink: a name that isn't there gets a new node
abbrev pub wants_made : Place → Option Wants
wants_made Root = None
wants_made (Nowhere r) = None
wants_made (Taken dir entries blocks name old) = None
wants_made (Free dir entries blocks name) = wants_name true entries blocks

-- link: a second name of a node that is no directory
abbrev pub wants_second : FileTree → ℕ → Place → Option Wants
wants_second tree birth Root = None
wants_second tree birth (Nowhere r) = None
wants_second tree birth (Taken dir entries blocks name old) = None
wants_second tree birth (Free dir entries blocks name) = if nat_le LINKS_MAX (links_of (node_at tree birth)) then None else wants_name false entries blocks

-- link, from the place of the node to that of its second name
abbrev pub wants_linked : FileTree → Place → Place → Option Wants
wants_linked tree Root to = None
wants_linked tree (Nowhere r) to = None
wants_linked tree (Free dir entries blocks name) to = None
wants_linked tree (Taken dir entries blocks name birth) to = if is_dir (node_at tree birth) then None else wants_second tree birth to

-- rename of a node that is there: only a name in another directory takes anything
abbrev pub wants_moved : FileTree → ℕ → ℕ → List (List ℕ) → Place → Option Wants
wants_moved tree from birth path Root = None
wants_moved tree from birth path (Nowhere r) = None
wants_moved tree from birth path (Taken to entries blocks new old) = None
wants_moved tree from birth path (Free to entries blocks new) =
    if goes_through tree path birth then None
    else (if from == to then None else wants_name false entries blocks)

-- rename of what is at a place
abbrev pub wants_renamed_from : FileTree → Place → List (List ℕ) → Option Wants
wants_renamed_from tree Root to = None
wants_renamed_from tree (Nowhere r) to = None
wants_renamed_from tree (Free dir entries blocks name) to = None
wants_renamed_from tree (Taken dir entries blocks name birth) to = wants_moved tree dir birth to (place tree to)

-- rename; the root is refused
abbrev pub wants_renamed : FileTree → List (List ℕ) → List (List ℕ) → Option Wants
wants_renamed tree [] to = None
wants_renamed tree (name ∷ names) [] = None
wants_renamed tree (name ∷ names) (new ∷ news) = wants_renamed_from tree (place tree (name ∷ names)) (new ∷ news)

-- write, fill: a file of this size gets bytes of this length from an offset on
abbrev pub wants_written : ℕ → ℕ → ℕ → Option Wants
wants_written size off len =
    let new = max size (off + len) in
    if nat_lt size off then None
    else (if nat_lt FILE_BYTES_MAX (off + len) then None
    else Some (record { inode = false; grows = false; large = nat_lt (large_blocks_of size) (large_blocks_of new); small = small_blocks_of new - small_blocks_of size }))

-- write, fill: of a node, which has to be a file
abbrev pub wants_in : Option Node → ℕ → ℕ → Option Wants
wants_in (Some (File cells links when)) off len = wants_written (length cells) off len
wants_in (Some (Dir entries blocks)) off len = None
wants_in (Some (Link target links)) off len = None
wants_in None off len = None

-- write, fill: of the node at a place; the root is a directory
abbrev pub wants_bytes : FileTree → Place → ℕ → ℕ → Option Wants
wants_bytes tree Root off len = None
wants_bytes tree (Nowhere r) off len = None
wants_bytes tree (Free dir entries blocks name) off len = None
wants_bytes tree (Taken dir entries blocks name birth) off len = wants_in (node_at tree birth) off len

-- what it takes where the tree doesn't refuse it for another reason than want of space; None where it does, or where nothing is made
abbrev pub wants : FileTree → Op → Option Wants
wants tree (op.Create path) = wants_made (place tree path)
wants tree (op.Mkdir path) = wants_made (place tree path)
wants tree (op.Symlink path target) = wants_made (place tree path)
wants tree (op.Link path to) = wants_linked tree (place tree path) (place tree to)
wants tree (op.Rename path to) = wants_renamed tree path to
wants tree (op.Write path off bytes) = wants_bytes tree (place tree path) off (length bytes)
wants tree (op.Fill path off len byte) = wants_bytes tree (place tree path) off len
wants tree op = None
