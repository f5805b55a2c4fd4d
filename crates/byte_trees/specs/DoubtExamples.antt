-- What recoveries leave of file bytes, worked out by hand. The file `/a` is made by line 2 and has its sectors at 1000 and on, `/b` by line 3 and at 2000
-- and on; a large block's lie at 9000 and on.
use Rattle.std.specs.Prelude.{refl, ℕ, Some, None, List, [], ◌∷◌, ◌++◌}
use Rattle.frang_base.specs.declared.op.Op.TheVariants as op
use Rattle.frang_base.specs.declared.reply.Reply.TheVariants as reply
use Rattle.tree_definitions.specs.declared.cells.Cell.TheVariants.{Byte, Doubtful}
use Rattle.tree_definitions.specs.declared.node.Node.TheVariants.{File}
use Rattle.tree_definitions.specs.Resolve.{resolve}
use Rattle.sector_bytes.specs.Blocks.{Block}
use Rattle.sector_world.specs.Histories.Fill.{Written, Freed}
use Rattle.byte_trees.specs.Telling.{Told, Mounts, Syncs, Unmounts, Does, Recovers, Bytes, Case, Leaves, LeftNode, KnownBytes, run}

abbrev pub a : List (List ℕ)
a = (97 ∷ []) ∷ []

abbrev pub b : List (List ℕ)
b = (98 ∷ []) ∷ []

-- ---- lines

-- what touches no sector of bytes
abbrev pub none : Bytes
none = record { writes = []; sees = []; shows = [] }

-- what uses the lock of `/a`, which has these sectors
abbrev pub seeing : List ℕ → Bytes
seeing sectors = record { writes = []; sees = sectors; shows = [] }

-- what writes one sector, of a file with these sectors
abbrev pub writing : List ℕ → ℕ → Block → Bytes
writing sectors sector block = record { writes = (sector, Written block) ∷ []; sees = sectors; shows = [] }

-- the same where some of its bytes stay: it shows them
abbrev pub mixing : List ℕ → ℕ → Block → Block → Bytes
mixing sectors sector old block = record { writes = (sector, Written block) ∷ []; sees = sectors; shows = (sector, old) ∷ [] }

-- what frees the first sector of `/a`
abbrev pub freeing : Bytes
freeing = record { writes = (1000, Freed) ∷ []; sees = 1000 ∷ []; shows = [] }

-- what shows it
abbrev pub showing : Block → Bytes
showing block = record { writes = []; sees = 1000 ∷ []; shows = (1000, block) ∷ [] }

-- server 0 mounts and makes the two files
abbrev pub made : List Told
made = Mounts 0 1 ∷ Does 0 2 (op.Create a) reply.Ok none ∷ Does 0 3 (op.Create b) reply.Ok none ∷ []

-- and a second server mounts
abbrev pub both : List Told
both = made ++ Mounts 1 4 ∷ []

-- two bytes are written
abbrev pub written_by : ℕ → ℕ → Told
written_by server line = Does server line (op.Write a 0 (1 ∷ 2 ∷ [])) reply.Ok (writing (1000 ∷ []) 1000 (1 ∷ 2 ∷ []))

-- the first of them is written over
abbrev pub overwritten_by : ℕ → ℕ → Told
overwritten_by server line = Does server line (op.Write a 0 (7 ∷ [])) reply.Ok (mixing (1000 ∷ []) 1000 (1 ∷ 2 ∷ []) (7 ∷ 2 ∷ []))

abbrev pub looked_by : ℕ → ℕ → Told
looked_by server line = Does server line (op.Stat a) (reply.File 2 1) (seeing (1000 ∷ []))

-- ---- bytes that aren't synced, over bytes that are

abbrev pub over_synced : Case
over_synced = record { before = made ++ written_by 0 5 ∷ Syncs 0 6 ∷ overwritten_by 0 7 ∷ []; server = 0; greatest = 7; stays = 7; looked_at = 1000 ∷ [] }

pub over_synced_leaves : Leaves over_synced (run 2 0 2 ∷ []) (1000 ∷ [])
unfolding resolve
over_synced_leaves = record { legal = refl; keeps = refl; cells_are = refl; sectors_are = refl }

pub over_synced_node : LeftNode over_synced 2 (Some (File (Doubtful ∷ Doubtful ∷ []) 1 0))
unfolding resolve
over_synced_node = refl

pub over_synced_known : KnownBytes over_synced 1000 None
over_synced_known = refl

-- ---- the same where the log lost the record: the synced bytes are there

abbrev pub lost_over_synced : Case
lost_over_synced = record over_synced { greatest = 5; stays = 6 }

pub lost_over_synced_leaves : Leaves lost_over_synced [] []
unfolding resolve
lost_over_synced_leaves = record { legal = refl; keeps = refl; cells_are = refl; sectors_are = refl }

pub lost_over_synced_node : LeftNode lost_over_synced 2 (Some (File (Byte 1 ∷ Byte 2 ∷ []) 1 0))
unfolding resolve
lost_over_synced_node = refl

pub lost_over_synced_known : KnownBytes lost_over_synced 1000 (Some (1 ∷ 2 ∷ []))
lost_over_synced_known = refl

-- ---- cut after a sync: the rule on entries leaves the sector of the cut in doubt, though no sector is written and the bytes stay known

abbrev pub cut_after_sync : Case
cut_after_sync = record {
  before = made ++ written_by 0 5 ∷ Syncs 0 6 ∷ Does 0 7 (op.Truncate a 1) reply.Ok (seeing (1000 ∷ [])) ∷ [];
  server = 0;
  greatest = 7;
  stays = 7;
  looked_at = 1000 ∷ [];
}

pub cut_after_sync_leaves : Leaves cut_after_sync (run 2 0 1 ∷ []) []
unfolding resolve
cut_after_sync_leaves = record { legal = refl; keeps = refl; cells_are = refl; sectors_are = refl }

pub cut_after_sync_node : LeftNode cut_after_sync 2 (Some (File (Doubtful ∷ []) 1 0))
unfolding resolve
cut_after_sync_node = refl

pub cut_after_sync_known : KnownBytes cut_after_sync 1000 (Some (1 ∷ 2 ∷ []))
cut_after_sync_known = refl

-- ---- cut after a write that isn't synced

abbrev pub cut_after_write : Case
cut_after_write = record cut_after_sync { before = made ++ written_by 0 5 ∷ Does 0 7 (op.Truncate a 1) reply.Ok (seeing (1000 ∷ [])) ∷ [] }

pub cut_after_write_leaves : Leaves cut_after_write (run 2 0 1 ∷ []) (1000 ∷ [])
unfolding resolve
cut_after_write_leaves = record { legal = refl; keeps = refl; cells_are = refl; sectors_are = refl }

-- ---- doubt that was read is fixed, and a recovery of the reader leaves it so

abbrev pub read_once : Case
read_once = record {
  before = made ++ written_by 0 5 ∷ Syncs 0 6 ∷ overwritten_by 0 7 ∷ Recovers 0 7 7 ∷ Mounts 1 8
      ∷ Does 1 9 (op.Read a 0 2) (reply.Shown (9 ∷ 2 ∷ [])) (showing (9 ∷ 2 ∷ [])) ∷ [];
  server = 1;
  greatest = 0;
  stays = 9;
  looked_at = 1000 ∷ [];
}

pub read_once_leaves : Leaves read_once [] []
unfolding resolve
read_once_leaves = record { legal = refl; keeps = refl; cells_are = refl; sectors_are = refl }

pub read_once_node : LeftNode read_once 2 (Some (File (Byte 9 ∷ Byte 2 ∷ []) 1 0))
unfolding resolve
read_once_node = refl

pub read_once_known : KnownBytes read_once 1000 (Some (9 ∷ 2 ∷ []))
read_once_known = refl

-- ---- a part of a sector in doubt is read: of the tree only the cells that it showed are fixed, of the sector all bytes

abbrev pub read_in_part : Case
read_in_part = record read_once {
  before = made ++ written_by 0 5 ∷ Syncs 0 6 ∷ overwritten_by 0 7 ∷ Recovers 0 7 7 ∷ Mounts 1 8
      ∷ Does 1 9 (op.Read a 0 1) (reply.Shown (9 ∷ [])) (showing (9 ∷ 2 ∷ [])) ∷ [];
}

pub read_in_part_leaves : Leaves read_in_part [] []
unfolding resolve
read_in_part_leaves = record { legal = refl; keeps = refl; cells_are = refl; sectors_are = refl }

pub read_in_part_node : LeftNode read_in_part 2 (Some (File (Byte 9 ∷ Doubtful ∷ []) 1 0))
unfolding resolve
read_in_part_node = refl

pub read_in_part_known : KnownBytes read_in_part 1000 (Some (9 ∷ 2 ∷ []))
read_in_part_known = refl

-- ---- so it is of a write into a part of a sector in doubt

abbrev pub written_over_doubt : Case
written_over_doubt = record {
  before = made ++ written_by 0 5 ∷ Syncs 0 6 ∷ overwritten_by 0 7 ∷ Recovers 0 7 7 ∷ Mounts 1 8
      ∷ Does 1 9 (op.Write a 0 (5 ∷ [])) reply.Ok (mixing (1000 ∷ []) 1000 (9 ∷ 8 ∷ []) (5 ∷ 8 ∷ [])) ∷ Syncs 1 10 ∷ [];
  server = 1;
  greatest = 9;
  stays = 9;
  looked_at = 1000 ∷ [];
}

pub written_over_doubt_leaves : Leaves written_over_doubt [] []
unfolding resolve
written_over_doubt_leaves = record { legal = refl; keeps = refl; cells_are = refl; sectors_are = refl }

pub written_over_doubt_node : LeftNode written_over_doubt 2 (Some (File (Byte 5 ∷ Doubtful ∷ []) 1 0))
unfolding resolve
written_over_doubt_node = refl

pub written_over_doubt_known : KnownBytes written_over_doubt 1000 (Some (5 ∷ 8 ∷ []))
written_over_doubt_known = refl

-- ---- a write of another sector of the same file is lost

abbrev pub filled_two : Told
filled_two = Does 0 5 (op.Fill a 0 514 1) reply.Ok (record { writes = (1000, Written (1 ∷ [])) ∷ (1001, Written (1 ∷ 1 ∷ [])) ∷ []; sees = 1000 ∷ 1001 ∷ []; shows = [] })

abbrev pub other_sector_lost : Case
other_sector_lost = record {
  before = made ++ filled_two ∷ Syncs 0 6 ∷ Does 0 7 (op.Write a 0 (7 ∷ [])) reply.Ok (mixing (1000 ∷ 1001 ∷ []) 1000 (1 ∷ []) (7 ∷ []))
      ∷ Does 0 8 (op.Write a 513 (8 ∷ [])) reply.Ok (mixing (1000 ∷ 1001 ∷ []) 1001 (1 ∷ 1 ∷ []) (1 ∷ 8 ∷ [])) ∷ [];
  server = 0;
  greatest = 7;
  stays = 7;
  looked_at = 1000 ∷ 1001 ∷ [];
}

pub other_sector_lost_leaves : Leaves other_sector_lost (run 2 0 512 ∷ []) (1000 ∷ [])
unfolding resolve
other_sector_lost_leaves = record { legal = refl; keeps = refl; cells_are = refl; sectors_are = refl }

pub other_sector_lost_known : KnownBytes other_sector_lost 1001 (Some (1 ∷ 1 ∷ []))
other_sector_lost_known = refl

-- ---- where the log kept both, both sectors are in doubt; the last one has two cells

abbrev pub both_sectors_kept : Case
both_sectors_kept = record other_sector_lost { greatest = 8; stays = 8 }

pub both_sectors_kept_leaves : Leaves both_sectors_kept (run 2 0 512 ∷ run 2 512 2 ∷ []) (1000 ∷ 1001 ∷ [])
unfolding resolve
both_sectors_kept_leaves = record { legal = refl; keeps = refl; cells_are = refl; sectors_are = refl }

-- ---- another server looked at the file

abbrev pub looked_at_by_another : Case
looked_at_by_another = record { before = both ++ written_by 0 5 ∷ looked_by 1 6 ∷ []; server = 0; greatest = 5; stays = 5; looked_at = 1000 ∷ [] }

pub looked_at_by_another_leaves : Leaves looked_at_by_another [] []
unfolding resolve
looked_at_by_another_leaves = record { legal = refl; keeps = refl; cells_are = refl; sectors_are = refl }

pub looked_at_by_another_known : KnownBytes looked_at_by_another 1000 (Some (1 ∷ 2 ∷ []))
looked_at_by_another_known = refl

-- ---- that look was removed before: it came behind a record that its server's log lost

abbrev pub look_was_removed : Case
look_was_removed = record looked_at_by_another {
  before = both ++ written_by 0 5 ∷ Does 1 6 (op.Create ((99 ∷ []) ∷ [])) reply.Ok none ∷ looked_by 1 7 ∷ Recovers 1 0 5 ∷ [];
}

pub look_was_removed_leaves : Leaves look_was_removed (run 2 0 2 ∷ []) (1000 ∷ [])
unfolding resolve
look_was_removed_leaves = record { legal = refl; keeps = refl; cells_are = refl; sectors_are = refl }

-- ---- it is removed by a later recovery: what came into doubt before stays so, and no more

abbrev pub look_is_removed_later : Case
look_is_removed_later = record {
  before = both ++ written_by 0 5 ∷ Does 1 6 (op.Create ((99 ∷ []) ∷ [])) reply.Ok none ∷ looked_by 1 7 ∷ Recovers 0 5 5 ∷ [];
  server = 1;
  greatest = 0;
  stays = 5;
  looked_at = 1000 ∷ [];
}

pub look_is_removed_later_leaves : Leaves look_is_removed_later [] []
unfolding resolve
look_is_removed_later_leaves = record { legal = refl; keeps = refl; cells_are = refl; sectors_are = refl }

pub look_is_removed_later_node : LeftNode look_is_removed_later 2 (Some (File (Byte 1 ∷ Byte 2 ∷ []) 1 0))
unfolding resolve
look_is_removed_later_node = refl

pub look_is_removed_later_known : KnownBytes look_is_removed_later 1000 (Some (1 ∷ 2 ∷ []))
look_is_removed_later_known = refl

-- ---- another server's write over it was lost: the older write counts again

abbrev pub lost_over_another : Case
lost_over_another = record looked_at_by_another { before = both ++ written_by 0 5 ∷ overwritten_by 1 6 ∷ Recovers 1 0 5 ∷ [] }

pub lost_over_another_leaves : Leaves lost_over_another (run 2 0 2 ∷ []) (1000 ∷ [])
unfolding resolve
lost_over_another_leaves = record { legal = refl; keeps = refl; cells_are = refl; sectors_are = refl }

-- ---- a freed block is taken again

abbrev pub taken_again : Case
taken_again = record {
  before = made ++ written_by 0 5 ∷ Does 0 6 (op.Truncate a 0) reply.Ok freeing ∷ Does 0 7 (op.Write b 0 (3 ∷ [])) reply.Ok (writing (1000 ∷ []) 1000 (3 ∷ [])) ∷ [];
  server = 0;
  greatest = 7;
  stays = 7;
  looked_at = 1000 ∷ [];
}

pub taken_again_leaves : Leaves taken_again (run 3 0 1 ∷ []) (1000 ∷ [])
unfolding resolve
taken_again_leaves = record { legal = refl; keeps = refl; cells_are = refl; sectors_are = refl }

pub taken_again_a : LeftNode taken_again 2 (Some (File [] 1 0))
unfolding resolve
taken_again_a = refl

-- ---- it is taken again by a write that is lost: it is free, and no file has a cell there

abbrev pub taken_again_lost : Case
taken_again_lost = record taken_again { greatest = 6; stays = 6 }

pub taken_again_lost_leaves : Leaves taken_again_lost [] (1000 ∷ [])
unfolding resolve
taken_again_lost_leaves = record { legal = refl; keeps = refl; cells_are = refl; sectors_are = refl }

-- ---- an unlink is lost, and with it a write into the block that it freed: synced bytes are there, others in doubt

abbrev pub unlinked_and_taken : List Told
unlinked_and_taken = Does 0 7 (op.Unlink a) reply.Ok freeing ∷ Does 0 8 (op.Write b 0 (3 ∷ [])) reply.Ok (writing (1000 ∷ []) 1000 (3 ∷ [])) ∷ []

abbrev pub unlink_lost : Case
unlink_lost = record { before = made ++ written_by 0 5 ∷ unlinked_and_taken; server = 0; greatest = 5; stays = 6; looked_at = 1000 ∷ [] }

pub unlink_lost_leaves : Leaves unlink_lost (run 2 0 2 ∷ []) (1000 ∷ [])
unfolding resolve
unlink_lost_leaves = record { legal = refl; keeps = refl; cells_are = refl; sectors_are = refl }

abbrev pub unlink_lost_synced : Case
unlink_lost_synced = record unlink_lost { before = made ++ written_by 0 5 ∷ Syncs 0 6 ∷ unlinked_and_taken }

pub unlink_lost_synced_leaves : Leaves unlink_lost_synced [] []
unfolding resolve
unlink_lost_synced_leaves = record { legal = refl; keeps = refl; cells_are = refl; sectors_are = refl }

pub unlink_lost_synced_known : KnownBytes unlink_lost_synced 1000 (Some (1 ∷ 2 ∷ []))
unlink_lost_synced_known = refl

-- ---- unmounted and mounted again since

abbrev pub mounted_since : Case
mounted_since = record looked_at_by_another { before = made ++ written_by 0 5 ∷ Unmounts 0 6 ∷ Mounts 0 7 ∷ looked_by 0 8 ∷ [] }

pub mounted_since_leaves : Leaves mounted_since [] []
unfolding resolve
mounted_since_leaves = record { legal = refl; keeps = refl; cells_are = refl; sectors_are = refl }

-- ---- a sector gets more bytes behind those that are synced: all of it is in doubt

abbrev pub appended : Case
appended = record over_synced {
  before = made ++ written_by 0 5 ∷ Syncs 0 6 ∷ Does 0 7 (op.Write a 2 (3 ∷ [])) reply.Ok (mixing (1000 ∷ []) 1000 (1 ∷ 2 ∷ []) (1 ∷ 2 ∷ 3 ∷ [])) ∷ [];
}

pub appended_leaves : Leaves appended (run 2 0 3 ∷ []) (1000 ∷ [])
unfolding resolve
appended_leaves = record { legal = refl; keeps = refl; cells_are = refl; sectors_are = refl }

-- ---- a write of no bytes meets no sector; one of the bytes that are there does

abbrev pub wrote_nothing : Case
wrote_nothing = record over_synced { before = made ++ written_by 0 5 ∷ Syncs 0 6 ∷ Does 0 7 (op.Write a 1 []) reply.Ok (seeing (1000 ∷ [])) ∷ [] }

pub wrote_nothing_leaves : Leaves wrote_nothing [] []
unfolding resolve
wrote_nothing_leaves = record { legal = refl; keeps = refl; cells_are = refl; sectors_are = refl }

abbrev pub wrote_the_same : Case
wrote_the_same = record over_synced { before = made ++ written_by 0 5 ∷ Syncs 0 6 ∷ written_by 0 7 ∷ [] }

pub wrote_the_same_leaves : Leaves wrote_the_same (run 2 0 2 ∷ []) (1000 ∷ [])
unfolding resolve
wrote_the_same_leaves = record { legal = refl; keeps = refl; cells_are = refl; sectors_are = refl }
