use Rattle.lock_definitions.proofs.Wants.{own_hold_serves, grant_serves, wait_notes}
use Rattle.lock_definitions.proofs.laws.wants_are_granted_or_noted.Goals as goal

pub returns : goal.returns
returns c = record { own = own_hold_serves; granted = grant_serves; noted = wait_notes }
