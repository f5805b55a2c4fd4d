-- Law by law.
use Rattle.rest_laws.proofs.AtRest.{disks_at_rest_stand, rest_is_quiet, rest_is_replayed}
use Rattle.rest_laws.proofs.a_disk_at_rest_stands.Goals as goal

pub returns : goal.returns
returns c = record { quiet = rest_is_quiet; replayed = rest_is_replayed; stands = disks_at_rest_stand }
