-- A reading compares the block with the bytes of what it found.
use Rattle.std.proofs.Common.{◌∙◌, true, refl}
use Rattle.disk_definitions.specs.Bitmaps.{bitmap_bytes, bitmap_fields}
use Rattle.disk_definitions.proofs.Readings.{reads_same}
use Rattle.bitmap_block.proofs.reading.decode.Goals as goal

pub returns : goal.returns
returns c =
    c.then_some.ensures
    ∙ reads_same bitmap_bytes (λ x. true) c.args.from.now c.block_of.result (bitmap_fields c.args.from.now) c.fields-value.result c.eq.result c.fields-value.ensures refl c.block_of.ensures c.eq.ensures
