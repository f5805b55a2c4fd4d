-- What a recovery removes from a history and which cells it leaves in doubt; the settled history, and what must be kept.
use Rattle.std.specs.Prelude.{ℕ, ◌+◌, ◌-◌, ◌*◌, ◌/◌, Bool, true, false, not, ◌&&◌, ◌||◌, ◌==◌, if◌then◌else◌, IsTrue, min, nat_lt, Option, Some, None, List, [], ◌∷◌, ◌++◌, length, map, filter}
use Rattle.std.specs.List.{list_any, flat_map}
use Rattle.frang_base.specs.declared.limits.TheConstants.{SECTOR_BYTES}
use Rattle.frang_base.specs.declared.op.Op.{Op}
use Rattle.frang_base.specs.declared.op.Op.TheVariants as op
use Rattle.frang_base.specs.declared.reply.Reply.{Reply}
use Rattle.frang_base.specs.declared.reply.Reply.TheVariants as reply
use Rattle.tree_definitions.specs.declared.cells.Cell.{Cell}
use Rattle.tree_definitions.specs.declared.history.Entry.{Entry}
use Rattle.tree_definitions.specs.declared.history.Item.{Item}
use Rattle.tree_definitions.specs.declared.history.Item.TheVariants.{Did, Recovered}
use Rattle.tree_definitions.specs.declared.node.Node.{Node}
use Rattle.tree_definitions.specs.declared.node.Node.TheVariants.{Dir, File, Link}
use Rattle.tree_definitions.specs.Tree.{FileTree}
use Rattle.tree_definitions.specs.Numbers.{below}
use Rattle.tree_definitions.specs.Place.{place}
use Rattle.tree_definitions.specs.Perform.{Step, Goes, Stops, resolved}
use Rattle.tree_definitions.specs.History.{Opening, file_at, CellRun, Settled, Stays, InDoubt, after, after_all, legal_from}
use Rattle.tree_definitions.specs.Touched.{touches, changes_shape, is_seen, is_synced, stalled_after, is_mounted, is_ok, is_sync, shape_of}

-- a step mounts the server
abbrev pub mounts : ℕ → Settled → Bool
mounts server (Stays e) = e.server.0 == server && is_mounted e.reply
mounts server (InDoubt runs) = false

-- a step is the server's
abbrev pub is_of : ℕ → Settled → Bool
is_of server (Stays e) = e.server.0 == server
is_of server (InDoubt runs) = false

-- a `write`, `fill` or `truncate`
abbrev pub writes_file : Op → Bool
writes_file (op.Write path off bytes) = true
writes_file (op.Fill path off len byte) = true
writes_file (op.Truncate path len) = true
writes_file _ = false

-- an entry that has a record in its server's log: it changes the shape, or it is a `write`, `fill` or `truncate` answered `ok`
abbrev pub is_recorded : FileTree → Entry → Bool
is_recorded tree e = changes_shape tree e || (writes_file e.op && is_ok e.reply)

-- a recorded entry of the server with a number above the greatest of its log
abbrev pub is_lost : ℕ → ℕ → FileTree → Settled → Bool
is_lost server keeps tree (Stays e) = e.server.0 == server && nat_lt keeps e.number.0 && is_recorded tree e
is_lost server keeps tree (InDoubt runs) = false

-- the removal begins here: at the first lost entry after the server's last mount
abbrev pub begins_removal : ℕ → ℕ → FileTree → Settled → List Settled → Bool
begins_removal server keeps tree s rest = is_lost server keeps tree s && not (list_any (mounts server) rest)

-- the list without that entry and all later ones of the server
abbrev pub left : ℕ → ℕ → FileTree → List Settled → List Settled
left server keeps tree [] = []
left server keeps tree (s ∷ rest) =
    if begins_removal server keeps tree s rest then filter (λ t. not (is_of server t)) rest
    else s ∷ left server keeps (after tree s) rest

-- bytes from one offset to another meet a sector; where there are none, they meet none
abbrev pub meets : ℕ → ℕ → ℕ → Bool
meets sector from to = nat_lt from to && nat_lt from (SECTOR_BYTES * (sector + 1)) && nat_lt (SECTOR_BYTES * sector) to

-- bytes of this file, from one offset to another, meet a sector of the file with this birth
abbrev pub meets_in : ℕ → ℕ → Option (ℕ × (List Cell × (ℕ × ℕ))) → ℕ → ℕ → Bool
meets_in birth sector None from to = false
meets_in birth sector (Some file) from to = file.0 == birth && meets sector from to

-- the size of a file, where there is one
abbrev pub size_of : Option (ℕ × (List Cell × (ℕ × ℕ))) → ℕ
size_of None = 0
size_of (Some file) = length file.1.0

-- a write, fill or truncate answered `ok` meets a sector of a file; a truncate meets those from the new length to the old size
abbrev pub writes : FileTree → Op → Reply → ℕ → ℕ → Bool
writes tree (op.Write path off bytes) reply.Ok birth sector = meets_in birth sector (file_at tree (place tree path)) off (off + length bytes)
writes tree (op.Fill path off len byte) reply.Ok birth sector = meets_in birth sector (file_at tree (place tree path)) off (off + len)
writes tree (op.Truncate path len) reply.Ok birth sector = meets_in birth sector (file_at tree (place tree path)) len (size_of (file_at tree (place tree path)))
writes tree op r birth sector = false

-- the same by what an operation comes to
abbrev pub step_writes : FileTree → Step → Reply → ℕ → ℕ → Bool
step_writes tree (Goes o) r birth sector = writes tree o r birth sector
step_writes tree (Stops reply) r birth sector = false

-- whether a sector is in doubt after one entry more: the last that wrote into it is the server since its last mount, and since then no sync
-- of it was answered `ok` and no other server touched the file
abbrev pub doubtful_after : ℕ → ℕ → ℕ → Bool → FileTree → Entry → List Settled → Bool
doubtful_after server birth sector before tree e rest =
    if step_writes tree (resolved tree e.op).step e.reply birth sector then e.server.0 == server && not (list_any (mounts server) rest)
    else (if e.server.0 == server then before && not (is_sync e.op && is_ok e.reply) else before && not (touches tree e birth))

-- whether a sector is in doubt at the end of a list
abbrev pub is_doubtful : ℕ → ℕ → ℕ → Bool → FileTree → List Settled → Bool
is_doubtful server birth sector before tree [] = before
is_doubtful server birth sector before tree (InDoubt runs ∷ rest) = is_doubtful server birth sector before (after tree (InDoubt runs)) rest
is_doubtful server birth sector before tree (Stays e ∷ rest) = is_doubtful server birth sector (doubtful_after server birth sector before tree e rest) (after tree (Stays e)) rest

-- the cells of one sector of a file of this size
abbrev pub sector_cells : ℕ → ℕ → ℕ → CellRun
sector_cells birth size sector = record { birth = birth; from = SECTOR_BYTES * sector; count = min SECTOR_BYTES (size - SECTOR_BYTES * sector) }

-- the sectors of a file as runs of cells, those that the test wants
abbrev pub file_sectors : (ℕ → ℕ → Bool) → ℕ → Node → List CellRun
file_sectors wanted birth (File cells links when) = map (sector_cells birth (length cells)) (filter (wanted birth) (below ((length cells + (SECTOR_BYTES - 1)) / SECTOR_BYTES)))
file_sectors wanted birth (Dir entries blocks) = []
file_sectors wanted birth (Link target links) = []

-- the cells that come into doubt at the end of a list
abbrev pub doubtful : ℕ → FileTree → List Settled → List CellRun
doubtful server opening list = flat_map (λ n. file_sectors (λ birth sector. is_doubtful server birth sector false opening list) n.0 n.1) (after_all opening list).nodes

-- the list after a recovery: entries are gone, and then cells are in doubt
abbrev pub recovered : FileTree → ℕ → ℕ → List Settled → List Settled
recovered opening server keeps list = let rest = left server keeps opening list in rest ++ InDoubt (doubtful server opening rest) ∷ []

-- a history once its recoveries have acted, from the left
abbrev pub settled_from : FileTree → List Settled → List Item → List Settled
settled_from opening list [] = list
settled_from opening list (Did e ∷ items) = settled_from opening (list ++ Stays e ∷ []) items
settled_from opening list (Recovered server keeps ∷ items) = settled_from opening (recovered opening server.0 keeps.0 list) items

-- the settled history
abbrev pub settled : FileTree → List Item → List Settled
settled opening history = settled_from opening [] history

-- no entry of the server is seen or synced in the rest of the list
abbrev pub none_known : ℕ → Bool → FileTree → List Settled → Bool
none_known server stalled tree [] = true
none_known server stalled tree (InDoubt runs ∷ rest) = none_known server stalled (after tree (InDoubt runs)) rest
none_known server stalled tree (Stays e ∷ rest) =
    let now = stalled_after server stalled (Stays e) in
    (not (e.server.0 == server) || (not (is_seen tree e rest) && not (is_synced server now rest)))
    && none_known server now (after tree (Stays e)) rest

-- no entry that a recovery removes is seen or synced
abbrev pub keeps_known : ℕ → ℕ → Bool → FileTree → List Settled → Bool
keeps_known server keeps stalled tree [] = true
keeps_known server keeps stalled tree (s ∷ rest) =
    if begins_removal server keeps tree s rest then none_known server stalled tree (s ∷ rest)
    else keeps_known server keeps (stalled_after server stalled s) (after tree s) rest

-- no recovery of a history removes an entry that is seen or synced at its place
abbrev pub kept_from : FileTree → List Settled → List Item → Bool
kept_from opening list [] = true
kept_from opening list (Did e ∷ items) = kept_from opening (list ++ Stays e ∷ []) items
kept_from opening list (Recovered server keeps ∷ items) = keeps_known server.0 keeps.0 false opening list && kept_from opening (recovered opening server.0 keeps.0 list) items

-- what must be kept is kept
abbrev pub keeps : Opening → List Item → Bool
keeps opening history = kept_from opening.tree [] history

-- this as a fact
abbrev pub Keeps : Opening → List Item → Type 0
Keeps opening history = IsTrue (keeps opening history)

-- a history is legal where its settled list is
abbrev pub is_legal : Opening → List Item → Bool
is_legal opening history = legal_from opening.tree opening.dir_blocks (settled opening.tree history)

-- this as a fact
abbrev pub IsLegal : Opening → List Item → Type 0
IsLegal opening history = IsTrue (is_legal opening history)

-- the tree that a history leaves of a tree
abbrev pub tree_from : FileTree → List Item → FileTree
tree_from tree history = after_all tree (settled tree history)

-- the tree of a history
abbrev pub tree_of : Opening → List Item → FileTree
tree_of opening history = tree_from opening.tree history

-- the shape that a history leaves
abbrev pub shape_after : Opening → List Item → FileTree
shape_after opening history = shape_of (tree_of opening history)
