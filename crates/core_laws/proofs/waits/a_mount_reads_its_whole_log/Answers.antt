-- By the answers that are due.
use Rattle.core_laws.proofs.Waiting.{whole_log}
use Rattle.core_laws.proofs.waits.a_mount_reads_its_whole_log.Goals as goal

pub returns : goal.returns
returns u = record { read = whole_log }
