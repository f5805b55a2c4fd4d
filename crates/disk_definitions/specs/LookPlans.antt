-- Plans of the operations that only look: stat, list, readlink, time.
use Rattle.std.specs.Prelude.{ℕ, zero, suc, ◌+◌, ◌*◌, ◌/◌, ◌%◌, ◌==◌, if◌then◌else◌, Option, Some, None, List, [], ◌∷◌, ◌++◌, fold}
use Rattle.std.specs.List.{filter_map}
use Rattle.std.specs.Map.{keys_of}
use Rattle.frang_base.specs.declared.limits.TheConstants.{KIND_DIRECTORY, KIND_FILE, KIND_LINK, SECTOR_ENTRIES, SMALL_BLOCK_SECTORS}
use Rattle.frang_base.specs.declared.reply.Reply.{Reply}
use Rattle.frang_base.specs.declared.reply.Reply.TheVariants as reply
use Rattle.tree_definitions.specs.Entries.{with_entry}
use Rattle.tree_definitions.specs.Numbers.{below}
use Rattle.disk_definitions.specs.Store.{StoredNode, StoredEntry}
use Rattle.tree_definitions.specs.Apply.{time_of}
use Rattle.disk_definitions.specs.Ask.{Ask, ReadInode, ReadDirectory, bind}
use Rattle.disk_definitions.specs.Walks.{Target, walk, at_target}
use Rattle.disk_definitions.specs.Plans.{Plan, refused}

-- the node that a path names
abbrev pub plan_of_node : List (List ℕ) → (Target → Ask Plan) → Ask Plan
plan_of_node path next = bind (walk path) (λ walked. at_target walked refused next)

-- its inode; the node is touched
abbrev pub with_inode : (List ℕ → StoredNode → Ask Plan) → List ℕ → Option StoredNode → Ask Plan
with_inode next touched None = refused reply.NoEnt touched
with_inode next touched (Some node) = next touched node

abbrev pub at_inode : (List ℕ → StoredNode → Ask Plan) → Target → Ask Plan
at_inode next target = ReadInode target.inode (with_inode next (target.dirs ++ target.inode ∷ []))

-- what `stat` says: of a file its size and links, of a directory its entries, of a link its length
abbrev pub described : StoredNode → Reply
described node =
    if node.kind == KIND_FILE then reply.File node.size node.links else (if node.kind == KIND_DIRECTORY then reply.Dir node.size else reply.Symlink node.size)

abbrev pub plan_described : List (List ℕ) → Ask Plan
plan_described path = plan_of_node path (at_inode (λ touched node. refused (described node) touched))

-- the entries of a sector's seven slots
abbrev pub entries_of : (ℕ → Option StoredEntry) → List StoredEntry
entries_of slots = filter_map slots (below SECTOR_ENTRIES)

-- the entries of so many sectors of a directory from one on, and what is done with them
abbrev pub read_entries : (ℕ → ℕ) → ℕ → ℕ → (List StoredEntry → Ask Plan) → Ask Plan
read_entries small sector zero next = next []
read_entries small sector (suc more) next =
    ReadDirectory (small (sector / SMALL_BLOCK_SECTORS)) (sector % SMALL_BLOCK_SECTORS)
    (λ slots. read_entries small (sector + 1) more (λ rest. next (entries_of slots ++ rest)))

-- names in order of their bytes
abbrev pub sorted_names : List StoredEntry → List (List ℕ)
sorted_names entries = keys_of (fold (λ sorted entry. with_entry sorted entry.name 0) [] entries)

abbrev pub listing : List ℕ → StoredNode → Ask Plan
listing touched directory =
    read_entries directory.small 0 (SMALL_BLOCK_SECTORS * directory.blocks) (λ entries. refused (reply.Names (sorted_names entries)) touched)

-- a directory: of any other kind the entry tells it
abbrev pub plan_listed : List (List ℕ) → Ask Plan
plan_listed path = plan_of_node path (λ target. if target.kind == KIND_DIRECTORY then at_inode listing target else refused reply.NotDir target.dirs)

abbrev pub plan_target : List (List ℕ) → Ask Plan
plan_target path =
    plan_of_node path
    (λ target. if target.kind == KIND_LINK then at_inode (λ touched node. refused (reply.Target node.target) touched) target else refused reply.Inval target.dirs)

-- what `time` says of a file. The node is touched whatever its kind
abbrev pub timed : StoredNode → Reply
timed node = if node.kind == KIND_FILE then time_of node.when else (if node.kind == KIND_DIRECTORY then reply.IsDir else reply.Inval)

abbrev pub plan_timed : List (List ℕ) → Ask Plan
plan_timed path = plan_of_node path (at_inode (λ touched node. refused (timed node) touched))
