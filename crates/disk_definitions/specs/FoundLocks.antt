-- The locks of a line, found without its plan: by the inodes at which it looked and, where it is finished, by its reply and its edits, or, where it has a
-- block cleared, by the operation to which its walks lead. They are as good as the plan's own over the disk of a tree, and code finds them, since no plan in code
-- hands out locks.
use Rattle.std.specs.Prelude.{ℕ, ◌-◌, ◌/◌, Bool, true, false, if◌then◌else◌, length, List, [], ◌∷◌, ◌++◌, filter, slice_index}
use Rattle.std.specs.Map.{keys_of}
use Rattle.frang_base.specs.declared.limits.TheConstants.{SEGMENT_BLOCKS, SEGMENT_INODES}
use Rattle.frang_base.specs.declared.op.Op.{Op}
use Rattle.frang_base.specs.declared.op.Op.TheVariants as op
use Rattle.frang_base.specs.declared.reply.Reply.{Reply}
use Rattle.tree_definitions.specs.Perform.{Step, Goes, Stops, Resolved}
use Rattle.disk_definitions.specs.Edits.{Edit, SetInode, SetBit, SetUse, SetPlace, SetLarge, SetBytes, SetLargeBytes}
use Rattle.disk_definitions.specs.Held.{Segments}
use Rattle.disk_definitions.specs.Ask.{Met}
use Rattle.disk_definitions.specs.Ask.Met.{Needs, Has}
use Rattle.disk_definitions.specs.Plans.{Lock, shared_nodes, sole_nodes, sole_segments, says_full}
use Rattle.disk_definitions.specs.Written.{Cached, inode_at_hand}
use Rattle.disk_definitions.specs.CoversAtHand.{has_small}

-- ---- a finished line: a node is needed shared where its inode was looked at, and sole where it is written; a segment is needed sole where a bit of its
-- own is written, and each held one where an allocation found nothing

-- the node of this inode is at hand and has the small block
abbrev pub owns_at_hand : Cached → ℕ → ℕ → Bool
owns_at_hand cached inode block = has_small block (inode_at_hand cached inode)

-- what an edit is under: a name in a block is under its directory, one of the nodes that were looked at; the bytes of a file are under the file, whose inode
-- is edited too
abbrev pub edit_locks_of : (ℕ → ℕ → Bool) → List ℕ → Edit → List Lock
edit_locks_of owns nodes (SetInode inode stored_node dated) = sole_nodes (inode ∷ [])
edit_locks_of owns nodes (SetBit inode used) = sole_segments ((inode / SEGMENT_INODES) ∷ [])
edit_locks_of owns nodes (SetUse block state) = sole_segments ((block / SEGMENT_BLOCKS) ∷ [])
edit_locks_of owns nodes (SetPlace block slot entry) = sole_nodes (filter (λ inode. owns inode block) nodes)
edit_locks_of owns nodes (SetLarge segment used) = sole_segments (segment ∷ [])
edit_locks_of owns nodes (SetBytes block part bytes) = []
edit_locks_of owns nodes (SetLargeBytes segment part bytes) = []

abbrev pub edit_locks : (ℕ → ℕ → Bool) → List ℕ → List Edit → List Lock
edit_locks owns nodes [] = []
edit_locks owns nodes (edit ∷ edits) = edit_locks_of owns nodes edit ++ edit_locks owns nodes edits

abbrev pub full_locks : Segments → Reply → List Lock
full_locks held reply = if says_full reply then sole_segments (keys_of held) else []

abbrev pub finish_locks : (ℕ → ℕ → Bool) → Segments → List ℕ → Reply → List Edit → List Lock
finish_locks owns held nodes reply edits = shared_nodes nodes ++ edit_locks owns nodes edits ++ full_locks held reply

-- ---- a line that has a block cleared: its directory and the node that gets the name, or the directory that loses it, are needed sole, and the segments of
-- the block and of a new node

-- the one that lies so many before the last
abbrev pub from_end : List ℕ → ℕ → ℕ
from_end nodes back = slice_index nodes (length nodes - 1 - back)

-- how many nodes after the other one the last one was looked at: of a rename each name of the second path was looked up in a directory of its own
abbrev pub nodes_behind : Op → ℕ
nodes_behind (op.Rename path to) = length to
nodes_behind _ = 1

abbrev pub makes_node : Op → Bool
makes_node (op.Create path) = true
makes_node (op.Mkdir path) = true
makes_node (op.Symlink path target) = true
makes_node _ = false

-- the segment of a new node
abbrev pub made_segments : Bool → ℕ → List ℕ
made_segments made inode = if made then (inode / SEGMENT_INODES) ∷ [] else []

-- the first of the two, and the last node
abbrev pub clear_soles : ℕ → ℕ → Bool → ℕ → List Lock
clear_soles other last made block = sole_nodes (other ∷ last ∷ []) ++ sole_segments (made_segments made last ++ (block / SEGMENT_BLOCKS) ∷ [])

-- of an operation over paths without links
abbrev pub clear_locks : Op → List ℕ → ℕ → List Lock
clear_locks operation nodes block = shared_nodes nodes ++ clear_soles (from_end nodes (nodes_behind operation)) (from_end nodes 0) (makes_node operation) block

-- by what its walks come to; no plan has a block cleared before they have come to an operation
abbrev pub step_locks : List ℕ → ℕ → Step → List Lock
step_locks nodes block (Goes over) = clear_locks over nodes block
step_locks nodes block (Stops reply) = []

abbrev pub cleared_locks : List ℕ → ℕ → Met Resolved → List Lock
cleared_locks nodes block (Needs sector) = []
cleared_locks nodes block (Has walked) = step_locks nodes block walked.step
