-- From the first moment.
use Rattle.core_order.proofs.Beginnings.{has_run}
use Rattle.core_order.proofs.starting.a_run_has_worlds.Goals as goal

pub returns : goal.returns
returns c = record { run = has_run c.first_moments_stand.ensures.stand }
