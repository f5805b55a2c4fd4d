-- By where the sector lies.
use Rattle.std.proofs.Common.{ap, sym, ◌∙◌, arith}
use Rattle.std.specs.Option.{option_map}
use Rattle.disk_definitions.specs.Bitmaps.{bitmap_bytes}
use Rattle.edit_writing.proofs.AtHand.{before_segments, past_segments, segment_sector}
use Rattle.edit_writing.proofs.at_hand.segment_at.Goals as goal

pub returns-then-sector-lt-BITMAPS_FROM : goal.returns-then-sector-lt-BITMAPS_FROM
returns-then-sector-lt-BITMAPS_FROM c = sym (before_segments c.args.held.now c.args.sector.0 c.if-sector-lt-BITMAPS_FROM.true)

pub returns-then-segment-from : goal.returns-then-segment-from
returns-then-segment-from c = sym (past_segments c.args.held.now c.args.sector.0 c.requires (omega arith) (omega arith))

pub returns : goal.returns
returns c = ap (option_map bitmap_bytes) c.get.ensures ∙ sym (segment_sector c.args.held.now c.args.sector.0 (omega arith))
