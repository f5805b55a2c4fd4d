-- A reading compares the block with the bytes of what it found.
use Rattle.std.proofs.Common.{sym, ◌∙◌}
use Rattle.disk_definitions.specs.Inodes.{inode_bytes, inode_fits, inode_fields}
use Rattle.disk_definitions.proofs.Readings.{reads_none, reads_same}
use Rattle.inode_block.proofs.reading.decode.Goals as goal

pub returns-then-not-fits : goal.returns-then-not-fits
returns-then-not-fits c = reads_none inode_bytes inode_fits c.args.from.now (inode_fields c.args.from.now) c.fields-value.result c.fields-value.ensures (sym c.if-not-fits.ensures)

pub returns : goal.returns
returns c =
    c.then_some.ensures
    ∙ reads_same inode_bytes inode_fits c.args.from.now c.block_of.result (inode_fields c.args.from.now) c.fields-value.result c.eq.result c.fields-value.ensures (sym c.if-not-fits.ensures) c.block_of.ensures c.eq.ensures
