use Rattle.std.proofs.Common.{◌≡◌, ◌*◌, length}
use Rattle.standing_laws.specs.Soundness.{block_at}
use Rattle.disk_reading.specs.Marks.{AreFlags}
use Rattle.disk_reading.specs.Seen.{store_in}
use Rattle.disk_reading.proofs.owners.flag_blocks.Given as goal

abbrev pub invariant-loop-t : goal.invariant-loop-t
invariant-loop-t l = record {
  long : length l.flags ≡ 1024 * l.segments;
  are : AreFlags (block_at (store_in l.segments l.disk)) l.t l.flags;
}
