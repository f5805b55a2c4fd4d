-- A reading compares the block with the bytes of what it found.
use Rattle.std.proofs.Common.{sym, ◌∙◌}
use Rattle.disk_definitions.specs.Directories.{directory_bytes, directory_fits, directory_fields}
use Rattle.disk_definitions.proofs.Readings.{reads_none, reads_same}
use Rattle.dir_block.proofs.reading.decode.Goals as goal

pub returns-then-not-fits-clause-value : goal.returns-then-not-fits-clause-value
returns-then-not-fits-clause-value c = reads_none directory_bytes directory_fits c.args.from.now (directory_fields c.args.from.now) c.fields-value.result c.fields-value.ensures (sym c.if-not-fits.ensures)

pub returns-clause-value : goal.returns-clause-value
returns-clause-value c =
    c.then_some.ensures
    ∙ reads_same directory_bytes directory_fits c.args.from.now c.block_of.result (directory_fields c.args.from.now) c.fields-value.result c.eq.result c.fields-value.ensures (sym c.if-not-fits.ensures) c.block_of.ensures c.eq.ensures
