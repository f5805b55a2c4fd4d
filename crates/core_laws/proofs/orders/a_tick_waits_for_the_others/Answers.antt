-- By its guard.
use Rattle.core_laws.proofs.Ticks.{comes, is_last, waits}
use Rattle.core_laws.proofs.orders.a_tick_waits_for_the_others.Goals as goal

pub returns : goal.returns
returns c = record { waits = waits; comes = comes; last = is_last }
