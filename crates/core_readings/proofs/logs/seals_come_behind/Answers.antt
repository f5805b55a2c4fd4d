-- By the case of a step.
use Rattle.core_readings.proofs.Behind.{begins_behind, stays_behind}
use Rattle.core_readings.proofs.Issuing.{issued_behind}
use Rattle.core_readings.proofs.logs.seals_come_behind.Goals as goal

pub returns : goal.returns
returns c = record { issued = issued_behind c.leases_last.ensures.end; begin = begins_behind; stay = stays_behind c.leases_last.ensures.end }
