-- From a world in which all is found in place.
use Rattle.core_recoveries.proofs.Ending.{finishes}
use Rattle.core_recoveries.proofs.ends.finishes_lead_on.Goals as goal

pub returns : goal.returns
returns c = record {
  finish = finishes c.one_recovery_is_under_way.ensures.one c.one_recovery_is_under_way.ensures.dead c.who_rests_has_nothing.ensures.nothing c.a_recovery_ends_once_it_is_done.ensures.done;
}
