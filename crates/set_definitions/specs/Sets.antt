-- The set of a line over paths: the locks that it needs, as far as they are found, and which of them its server holds.
use Rattle.std.specs.Prelude.{ℕ, Bool, not, Option, Some, None, is_some, List, [], ◌∷◌, find, fold, filter}
use Rattle.std.specs.List.{filter_map, take_while}
use Rattle.std.specs.Map.{keys_of, lookup}
use Rattle.std.specs.BTreeMap.{insert_entry}
use Rattle.frang_base.specs.declared.limits.TheConstants.{ROOT_INODE}
use Rattle.frang_base.specs.declared.lock.LockId.{LockId}
use Rattle.frang_base.specs.declared.lock.LockId.TheVariants.{Log, Segment, Node}
use Rattle.frang_base.specs.declared.lock.Mode.{Mode}
use Rattle.frang_base.specs.declared.lock.Mode.TheVariants.{Shared, Sole}
use Rattle.tree_definitions.specs.Numbers.{below}
use Rattle.lock_definitions.specs.Order.{lock_cmp, is_lock}
use Rattle.lock_definitions.specs.Locks.{Locks, held}
use Rattle.lock_definitions.specs.Calls.{serves}
use Rattle.lock_definitions.specs.Holders.{next_among}
use Rattle.disk_definitions.specs.Plans.{Lock}

-- locks with the modes in which they are needed, ascending, each once
abbrev pub LockSet : Type 0
LockSet = List Lock

-- the set begins as the root's lock, shared
abbrev pub first_set : LockSet
first_set = (Node ROOT_INODE, Shared) ∷ []

-- the mode in which the set has a lock
abbrev pub mode_in : LockSet → LockId → Option Mode
mode_in set lock = lookup (is_lock lock) set

abbrev pub has_lock : LockSet → LockId → Bool
has_lock set lock = is_some (mode_in set lock)

-- the set has each lock once, sole where both modes are needed
abbrev pub with_mode : Option Mode → Mode → Mode
with_mode (Some Sole) mode = Sole
with_mode (Some Shared) mode = mode
with_mode None mode = mode

-- a lock joins the set
abbrev pub joined : LockSet → Lock → LockSet
joined set need = insert_entry lock_cmp set need.0 (with_mode (mode_in set need.0) need.1)

abbrev pub joined_all : LockSet → List Lock → LockSet
joined_all set needs = fold joined set needs

-- the set lacks a lock in this mode; a set that has it sole doesn't lack it shared
abbrev pub lacks : LockSet → Lock → Bool
lacks set need = not (serves (mode_in set need.0) need.1)

-- the server holds the lock in the needed mode or sole
abbrev pub is_served : Locks → ℕ → Lock → Bool
is_served locks server need = serves (held locks server need.0) need.1

-- the least lock of the set that it holds in neither
abbrev pub to_ask : Locks → ℕ → LockSet → Option Lock
to_ask locks server set = find (λ need. not (is_served locks server need)) set

-- the held set: the locks of the set below that one; where no lock is left to ask, all of it
abbrev pub held_set : Locks → ℕ → LockSet → LockSet
held_set locks server set = take_while (is_served locks server) set

-- the number of a segment's lock
abbrev pub segment_of : LockId → Option ℕ
segment_of (Log log) = None
segment_of (Segment segment) = Some segment
segment_of (Node inode) = None

-- the segments of the set, ascending
abbrev pub segments_in : LockSet → List ℕ
segments_in set = filter_map segment_of (keys_of set)

-- ---- the next segment to join

-- the segments of the disk that aren't in the set
abbrev pub segments_outside : ℕ → LockSet → List ℕ
segments_outside segments set = filter (λ segment. not (has_lock set (Segment segment))) (below segments)

-- of these the least that this server holds sole, else the least that no server holds, else the least
abbrev pub next_segment : ℕ → Locks → ℕ → LockSet → Option ℕ
next_segment segments locks server set = next_among locks server (segments_outside segments set)
