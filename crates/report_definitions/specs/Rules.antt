-- The rules of a check, kind by kind, each a test of one sector: of a segment of the bitmap, of an inode, of a part of a small block.
use Rattle.std.specs.Prelude.{ℕ, ◌+◌, ◌*◌, ◌/◌, Bool, true, not, ◌&&◌, ◌||◌, ◌==◌, if◌then◌else◌, nat_lt, nat_le, Option, Some, None, is_some}
use Rattle.frang_base.specs.declared.limits.TheConstants.{BLOCK_ENTRIES, DIRECTORY_ENTRIES_MAX, INODE_BLOCKS_MAX, KIND_DIRECTORY, KIND_FREE, SECTOR_ENTRIES, SEGMENT_BLOCKS, SEGMENT_INODES, SMALL_BLOCK_SECTORS}
use Rattle.tree_definitions.specs.Entries.{entry_at}
use Rattle.tree_definitions.specs.WellFormed.{one_at}
use Rattle.disk_definitions.specs.Store.{Store, StoredNode, StoredEntry, Use, is_unused}
use Rattle.disk_definitions.specs.Store.Use.{Fresh, Bytes, Empty, Entries as OfEntries}
use Rattle.standing_laws.specs.Below.{all_below, holds, lists, is_new}
use Rattle.standing_laws.specs.ReadTree.{place_at, entries_to}
use Rattle.standing_laws.specs.Soundness.{agree, block_at, is_used_for, large_at, has_kind}
use Rattle.report_definitions.specs.Sums.{sum_below, count_below, first_below}
use Rattle.report_definitions.specs.View.{View, entry_of, named_by}

-- ---- blocks in use, by what is reached

-- the small block at a place of the row of all inodes, 16 to an inode, where the inode is reached
abbrev pub used : View → (ℕ → Bool) → ℕ → Option ℕ
used v reached t = if reached (t / INODE_BLOCKS_MAX) then block_at v.store t else None

-- the large block of an inode that is reached
abbrev pub used_large : View → (ℕ → Bool) → ℕ → Option ℕ
used_large v reached i = if reached i then large_at v.store i else None

-- the small block at an index of an inode that is a directory
abbrev pub directory_block_in : Option StoredNode → ℕ → Option ℕ
directory_block_in None j = None
directory_block_in (Some x) j = if x.kind == KIND_DIRECTORY && nat_lt j x.blocks then Some (x.small j) else None

abbrev pub directory_block : Store → ℕ → ℕ → Option ℕ
directory_block s d j = directory_block_in (s.inode d) j

-- ---- kind 1: inode 0 isn't a directory

abbrev pub is_root_fine : View → ℕ → Bool
is_root_fine v i = not (i == 0) || has_kind (v.store.inode 0) KIND_DIRECTORY

-- ---- kinds 2 and 3: sectors of directories and their entries

-- a test passes wherever a directory that is reached has this block
abbrev pub wherever : View → (ℕ → Bool) → ℕ → (ℕ → ℕ → Bool) → Bool
wherever v reached b test =
    all_below (SEGMENT_INODES * v.segments) (λ d. not (reached d) || all_below INODE_BLOCKS_MAX (λ j. not (holds (directory_block v.store d j) b) || test d j))

-- no place before has an entry of this name
abbrev pub is_new_at : (ℕ → Option StoredEntry) → ℕ → Option StoredEntry → Bool
is_new_at place q None = true
is_new_at place q (Some e) = not (is_some (entry_at (entries_to place q) e.name))

abbrev pub is_new_in : Store → Option StoredNode → ℕ → Bool
is_new_in s None q = true
is_new_in s (Some x) q = is_new_at (place_at s x) q (place_at s x q)

abbrev pub is_new_name : Store → ℕ → ℕ → Bool
is_new_name s d q = is_new_in s (s.inode d) q

-- kind 2: the sector is in the grammar of directories, and no name in it stands before in its directory
abbrev pub is_sector_fine : View → (ℕ → Bool) → ℕ → ℕ → Bool
is_sector_fine v reached b p =
    wherever v reached b (λ d j. v.is_directory b p && all_below SECTOR_ENTRIES (λ t. is_new_name v.store d (BLOCK_ENTRIES * j + (SECTOR_ENTRIES * p + t))))

-- an entry names an inode in use of its kind
abbrev pub names_well : Store → Option StoredEntry → Bool
names_well s None = true
names_well s (Some e) = has_kind (s.inode e.inode) e.kind

-- kind 3: each entry of the sector does
abbrev pub are_entries_fine : View → (ℕ → Bool) → ℕ → ℕ → Bool
are_entries_fine v reached b p = wherever v reached b (λ d j. all_below SECTOR_ENTRIES (λ t. names_well v.store (v.store.place b (SECTOR_ENTRIES * p + t))))

-- ---- kinds 4 and 5: counts of entries and names

-- the entries of an inode that is a directory
abbrev pub entries_of : Store → ℕ → ℕ
entries_of s d = count_below DIRECTORY_ENTRIES_MAX (λ q. is_some (entry_of s d q))

-- how often a directory names an inode
abbrev pub names_by : Store → ℕ → ℕ → ℕ
names_by s d i = count_below DIRECTORY_ENTRIES_MAX (λ q. holds (named_by s (entry_of s d q)) i)

-- how often the directories that are reached do
abbrev pub names_to : View → (ℕ → Bool) → ℕ → ℕ
names_to v reached i = sum_below (SEGMENT_INODES * v.segments) (λ d. if reached d then names_by v.store d i else 0)

-- a directory has as many entries as its size says, and a file or link as many names as links
abbrev pub counts_agree : View → (ℕ → Bool) → ℕ → Option StoredNode → Bool
counts_agree v reached i None = true
counts_agree v reached i (Some x) = if x.kind == KIND_DIRECTORY then entries_of v.store i == x.size else names_to v reached i == x.links

-- kind 4: so does each inode that is reached
abbrev pub is_count_fine : View → (ℕ → Bool) → ℕ → Bool
is_count_fine v reached i = not (reached i) || counts_agree v reached i (v.store.inode i)

-- kind 5: a directory has one name at most, and the root none
abbrev pub is_named_once : View → (ℕ → Bool) → ℕ → Bool
is_named_once v reached i = not (has_kind (v.store.inode i) KIND_DIRECTORY) || nat_le (names_to v reached i + one_at 0 i) 1

-- ---- kind 6: numbers of blocks

abbrev pub is_within : ℕ → Option ℕ → Bool
is_within limit None = true
is_within limit (Some k) = nat_lt k limit

-- the number at a place, where there is one, is in range and stands nowhere before
abbrev pub is_first_within : ℕ → (ℕ → Option ℕ) → ℕ → Bool
is_first_within limit f t = is_new f t (f t) && is_within limit (f t)

abbrev pub are_blocks_fine : View → (ℕ → Bool) → ℕ → Bool
are_blocks_fine v reached i =
    all_below INODE_BLOCKS_MAX (λ j. is_first_within (SEGMENT_BLOCKS * v.segments) (used v reached) (INODE_BLOCKS_MAX * i + j)) && is_first_within v.segments (used_large v reached) i

-- ---- kind 7: bits of inodes

-- an inode that is reached has its bit, any other is free and has none
abbrev pub is_bit_fine : View → (ℕ → Bool) → ℕ → Bool
is_bit_fine v reached i = if reached i then v.store.bit i else not (is_some (v.store.inode i)) && not (v.store.bit i)

abbrev pub are_bits_fine : View → (ℕ → Bool) → ℕ → Bool
are_bits_fine v reached k = all_below SEGMENT_INODES (λ j. is_bit_fine v reached (SEGMENT_INODES * k + j))

-- ---- kind 8: states of small blocks, and sectors that don't fit

abbrev pub kind_at : Option StoredNode → ℕ
kind_at None = KIND_FREE
kind_at (Some x) = x.kind

-- a block with a first user is marked as used for what that is, another one as unused
abbrev pub is_use_fine_by : Store → ℕ → Option ℕ → Bool
is_use_fine_by s k None = is_unused (s.use_of k)
is_use_fine_by s k (Some t) = is_used_for (kind_at (s.inode (t / INODE_BLOCKS_MAX))) (s.use_of k)

abbrev pub is_use_fine : View → (ℕ → Bool) → ℕ → Bool
is_use_fine v reached k = is_use_fine_by v.store k (first_below (SEGMENT_BLOCKS * v.segments) (λ t. holds (used v reached t) k))

-- the version of a part that is in the grammar of directories isn't too great
abbrev pub is_version_fine : View → ℕ → ℕ → Bool
is_version_fine v k p = not (v.is_directory k p) || v.is_recent k p

-- the sectors of a block that was a directory's are those of one without entries, with versions that aren't too great; nor are the versions of those of a
-- directory's block too great
abbrev pub are_parts_fine : View → ℕ → Use → Bool
are_parts_fine v k Fresh = true
are_parts_fine v k Bytes = true
are_parts_fine v k Empty = all_below SMALL_BLOCK_SECTORS (λ p. v.is_directory k p && v.is_recent k p) && all_below BLOCK_ENTRIES (λ q. not (is_some (v.store.place k q)))
are_parts_fine v k OfEntries = all_below SMALL_BLOCK_SECTORS (is_version_fine v k)

abbrev pub is_block_fine : View → (ℕ → Bool) → ℕ → Bool
is_block_fine v reached k = is_use_fine v reached k && are_parts_fine v k (v.store.use_of k)

-- so is each block of a segment, and the segment and its inodes fit
abbrev pub is_segment_fine : View → (ℕ → Bool) → ℕ → Bool
is_segment_fine v reached k =
    v.segment_fits k && all_below SEGMENT_INODES (λ j. v.inode_fits (SEGMENT_INODES * k + j)) && all_below SEGMENT_BLOCKS (λ j. is_block_fine v reached (SEGMENT_BLOCKS * k + j))

-- ---- kind 9: marks of large blocks

abbrev pub is_mark_fine : View → (ℕ → Bool) → ℕ → Bool
is_mark_fine v reached k = agree (lists (used_large v reached) (SEGMENT_INODES * v.segments) k) (v.store.large_bit k)
