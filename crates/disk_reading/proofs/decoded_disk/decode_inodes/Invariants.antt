use Rattle.std.proofs.Common.{◌≡◌, ◌<◌, ℕ, None, length}
use Rattle.std.specs.Prelude.{slice_index_or}
use Rattle.disk_reading.specs.Kept.{inode_of}
use Rattle.disk_reading.proofs.decoded_disk.decode_inodes.Given as goal

abbrev pub invariant-loop-i : goal.invariant-loop-i
invariant-loop-i l = record {
  count : length l.inodes.items ≡ l.i;
  each : (i : ℕ) → i < l.i → slice_index_or l.inodes.items i None ≡ inode_of l.disk i;
}
