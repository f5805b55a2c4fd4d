-- Outcome by outcome.
use Rattle.stop_laws.proofs.Example.{two_servers}
use Rattle.stop_laws.proofs.fresh.two_servers_over_a_fresh_disk.Goals as goal

pub returns : goal.returns
returns c = record { example = two_servers }
