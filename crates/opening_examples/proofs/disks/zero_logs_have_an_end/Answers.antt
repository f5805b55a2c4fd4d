-- The first segment isn't zero.
use Rattle.opening_examples.proofs.Again.{logs_end}
use Rattle.opening_examples.proofs.disks.zero_logs_have_an_end.Goals as goal

pub returns : goal.returns
returns c = record { end = logs_end c.the_opening_puts_the_disk.ensures.fresh }
