-- By whose write it is.
use Rattle.core_recoveries.proofs.Sealing.{seals_arrive, seals_fail}
use Rattle.core_recoveries.proofs.seals.seals_are_of_journals.Goals as goal

pub returns : goal.returns
returns c = record { arrive = seals_arrive; fail = seals_fail }
