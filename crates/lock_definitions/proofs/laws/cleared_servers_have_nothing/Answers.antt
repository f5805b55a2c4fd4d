use Rattle.lock_definitions.proofs.Wants.{no_claims_left, no_logs_left}
use Rattle.lock_definitions.proofs.laws.cleared_servers_have_nothing.Goals as goal

pub returns : goal.returns
returns c = record { claims = no_claims_left; logs = no_logs_left }
