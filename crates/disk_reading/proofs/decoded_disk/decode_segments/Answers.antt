-- One more in each turn.
use Rattle.std.proofs.Common.{◌≡◌, ◌<◌, ◌+◌, ℕ, Option, None, List, sym, subst, rules}
use Rattle.std.specs.Prelude.{slice_index_or}
use Rattle.frang_base.specs.declared.bitmap.Bitmap.{Bitmap}
use Rattle.disk_reading.specs.Kept.{segment_of}
use Rattle.disk_reading.proofs.KeptSectors.{one_more}
use Rattle.disk_reading.proofs.decoded_disk.decode_segments.Goals as goal

pub loop-k-preserved : goal.loop-k-preserved
loop-k-preserved c =
    let n = c.loop-k.k in
    let f = segment_of c.args.disk.now in
    record {
      count = search rules;
      each = subst (λ (xs : List (Option Bitmap)). (j : ℕ) → j < n + 1 → slice_index_or xs j None ≡ f j) (sym c.in_ok-push.ensures.items)
          (one_more n c.loop-k.bitmaps.items c.decode_segment-bitmap.result None f c.loop-k.invariant.count c.loop-k.invariant.each c.decode_segment-bitmap.ensures);
    }
