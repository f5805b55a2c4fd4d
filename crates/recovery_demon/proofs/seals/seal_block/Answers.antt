-- The empty sector of a number that a log may have fits its slot.
use Rattle.std.proofs.Common.{◌%◌, sym, subst}
use Rattle.std.specs.Bool.{IsTrue}
use Rattle.frang_base.specs.declared.limits.TheConstants.{LOG_SECTORS}
use Rattle.disk_definitions.specs.LogSectors.{log_sector_fits}
use Rattle.disk_definitions.specs.declared.log_sector.LogSector.{LogSector}
use Rattle.disk_definitions.proofs.ArrivingLaws.{empty_fits_any}
use Rattle.recovery_demon.proofs.seals.seal_block.Goals as goal

pub sector_write-requires : goal.sector_write-requires
sector_write-requires c = subst (λ (x : LogSector). IsTrue (log_sector_fits (x.seq % LOG_SECTORS) x)) (sym c.empty_sector.ensures) (empty_fits_any c.args.number c.requires)
