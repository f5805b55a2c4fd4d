-- What is read may stand in its slot.
use Rattle.disk_definitions.proofs.LogSectorLaws.{empty_fits, numbered_fits}
use Rattle.log_record.proofs.sector.sector_read.Goals as goal

pub returns-then-is_zero_block-clause-fits : goal.returns-then-is_zero_block-clause-fits
returns-then-is_zero_block-clause-fits c = rw c.empty_sector.ensures (empty_fits c.args.slot c.ranges.slot.fits)

pub returns-clause-fits : goal.returns-clause-fits
returns-clause-fits c = numbered_fits c.args.slot c.args.b.now c.fields.result c.numbered_sector.result c.numbered_sector.ensures
