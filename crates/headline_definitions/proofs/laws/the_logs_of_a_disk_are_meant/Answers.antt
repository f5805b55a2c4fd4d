-- By the definitions.
use Rattle.headline_definitions.proofs.Meaning.{greatest_is, replayed_is}
use Rattle.headline_definitions.proofs.laws.the_logs_of_a_disk_are_meant.Goals as goal

pub returns : goal.returns
returns c = record { greatest = greatest_is; replayed = replayed_is }
