use Rattle.std.proofs.Common.{◌≡◌, ◌<◌, ℕ, None, length}
use Rattle.std.specs.Prelude.{slice_index_or}
use Rattle.disk_reading.specs.Kept.{segment_of}
use Rattle.disk_reading.proofs.decoded_disk.decode_segments.Given as goal

abbrev pub invariant-loop-k : goal.invariant-loop-k
invariant-loop-k l = record {
  count : length l.bitmaps.items ≡ l.k;
  each : (k : ℕ) → k < l.k → slice_index_or l.bitmaps.items k None ≡ segment_of l.disk k;
}
