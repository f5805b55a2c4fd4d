-- By the state of the block.
use Rattle.std.proofs.Common.{sym, ◌∙◌, ap}
use Rattle.sector_bytes.specs.Sectors.{sectors_of}
use Rattle.disk_reading.specs.Seen.{use_of_state}
use Rattle.disk_reading.specs.Fits.{block_fits}
use Rattle.disk_reading.proofs.grammar.block_fits.Goals as goal

pub returns-in-FormerDirectory : goal.returns-in-FormerDirectory
returns-in-FormerDirectory c = c.parts_fit.ensures ∙ sym (ap (λ u. block_fits c.args.most (sectors_of c.args.disk.now) (use_of_state u) c.args.block) c.in-FormerDirectory.is)

pub returns-in-Directory : goal.returns-in-Directory
returns-in-Directory c = c.parts_fit-in-Directory.ensures ∙ sym (ap (λ u. block_fits c.args.most (sectors_of c.args.disk.now) (use_of_state u) c.args.block) c.in-Directory.is)
