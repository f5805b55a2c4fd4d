-- Step by step.
use Rattle.core_facts.proofs.Reading.{mounts_read, recoveries_read}
use Rattle.core_facts.proofs.log_reads.slots_read_are_the_disks.Goals as goal

pub returns : goal.returns
returns c = record { mount = mounts_read c.leases_last.ensures.end; recovery = recoveries_read c.leases_last.ensures.end }
