-- Where the edits of small examples move sectors, computed.
use Rattle.std.proofs.Common.{◌≡◌, Some, None, List, [], ◌∷◌, ◌++◌, slice_index, refl}
use Rattle.frang_base.specs.declared.lock.LockId.TheVariants as lock
use Rattle.tree_definitions.specs.declared.node.Node.TheVariants.{Dir}
use Rattle.disk_definitions.specs.Store.{StoredNode}
use Rattle.disk_definitions.specs.Edits.{Edit}
use Rattle.disk_definitions.specs.Changes.{new_node, drop_node}
use Rattle.disk_definitions.specs.Ask.{InodeAt, DirectoryAt, SegmentAt, BytesAt, LargeAt}
use Rattle.disk_definitions.specs.Plans.{enter}
use Rattle.disk_definitions.specs.Plans.Room.{InBlock}
use Rattle.disk_definitions.specs.FilePlans.{written_by, cut_by, resized}
use Rattle.disk_definitions.specs.Moves.{moved_by}

-- a directory comes to inode 70, named in the one of inode 3, which has block 5 and gets block 1030
abbrev parent : StoredNode
parent = record { kind = 2; links = 1; size = 56; birth = 0; blocks = 1; small = slice_index (5 ∷ []); large = 0; when = 0; target = [] }

abbrev making : List Edit
making = new_node 70 9 (Dir [] 0) ++ enter 3 parent (record { name = 97 ∷ []; inode = 70; kind = 2 }) (InBlock 1030)

new_inode_moves : moved_by making (InodeAt 70) ≡ Some (lock.Node 70)
new_inode_moves = refl

new_block_moves : moved_by making (DirectoryAt 1030 3) ≡ Some (lock.Node 3)
new_block_moves = refl

old_inode_stays : moved_by making (InodeAt 3) ≡ None
old_inode_stays = refl

old_block_stays : moved_by making (DirectoryAt 5 0) ≡ None
old_block_stays = refl

segments_stay : moved_by making (SegmentAt 1) ≡ None
segments_stay = refl

-- a file of inode 70 goes, with its blocks 7 and 1030 and the large block of segment 1
abbrev file : StoredNode
file = record { kind = 1; links = 1; size = 65537; birth = 9; blocks = 2; small = slice_index (7 ∷ 1030 ∷ []); large = 2; when = 4; target = [] }

gone_inode_moves : moved_by (drop_node 70 file) (InodeAt 70) ≡ Some (lock.Segment 1)
gone_inode_moves = refl

gone_block_moves : moved_by (drop_node 70 file) (BytesAt 1030 2) ≡ Some (lock.Segment 1)
gone_block_moves = refl

gone_large_moves : moved_by (drop_node 70 file) (LargeAt 1 2047) ≡ Some (lock.Segment 1)
gone_large_moves = refl

-- a file of one block gets block 8, and loses it again
abbrev short : StoredNode
short = record { kind = 1; links = 1; size = 4000; birth = 9; blocks = 1; small = slice_index (7 ∷ []); large = 0; when = 4; target = [] }

abbrev longer : StoredNode
longer = resized short 5 5000 (8 ∷ []) None

written_block_moves : moved_by (written_by 70 longer (8 ∷ []) None [] []).edits (BytesAt 8 0) ≡ Some (lock.Node 70)
written_block_moves = refl

kept_block_stays : moved_by (written_by 70 longer (8 ∷ []) None [] []).edits (BytesAt 7 0) ≡ None
kept_block_stays = refl

cut_block_moves : moved_by (cut_by 6 70 [] longer 100).edits (BytesAt 8 0) ≡ Some (lock.Segment 0)
cut_block_moves = refl
