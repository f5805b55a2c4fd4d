use Rattle.std.proofs.Common.{◌≡◌, length}
use Rattle.standing_laws.specs.Soundness.{large_at}
use Rattle.disk_reading.specs.Marks.{AreFlags}
use Rattle.disk_reading.specs.Seen.{store_in}
use Rattle.disk_reading.proofs.owners.flag_larges.Given as goal

abbrev pub invariant-loop-i : goal.invariant-loop-i
invariant-loop-i l = record {
  long : length l.flags ≡ l.segments;
  are : AreFlags (large_at (store_in l.segments l.disk)) l.i l.flags;
}
