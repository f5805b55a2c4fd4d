-- By the puts, one by one.
use Rattle.core_laws.proofs.Opened.{fresh_disks_are_put, images_are_put, logs_read_as_zero}
use Rattle.core_laws.proofs.openings.the_opening_puts_the_disk.Goals as goal

pub returns : goal.returns
returns u = record { fresh = fresh_disks_are_put; image = images_are_put; logs = logs_read_as_zero }
