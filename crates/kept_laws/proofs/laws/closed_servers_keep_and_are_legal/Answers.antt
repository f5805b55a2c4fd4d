-- The law.
use Rattle.kept_laws.proofs.Closed.{closed_keep, closed_legal}
use Rattle.kept_laws.proofs.laws.closed_servers_keep_and_are_legal.Goals as goal

pub returns : goal.returns
returns c = record { kept = closed_keep; legal = closed_legal }
