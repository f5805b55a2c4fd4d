-- By the theorem on sectors.
use Rattle.rest_laws.proofs.AtRest.{quiet_has_what_was_done, quiet_stands}
use Rattle.rest_laws.proofs.a_quiet_disk_stands.Goals as goal

pub returns : goal.returns
returns c = record { done = quiet_has_what_was_done; stands = quiet_stands }
