-- Deed by deed.
use Rattle.core_laws.proofs.Timing.{timely_of_run}
use Rattle.core_laws.proofs.facts.puts_come_in_time.Goals as goal

pub returns : goal.returns
returns c = record { timely = timely_of_run }
