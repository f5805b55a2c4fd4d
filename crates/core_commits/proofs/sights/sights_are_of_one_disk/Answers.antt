-- A sight.
use Rattle.core_commits.proofs.Sighting.{sights_are_of_the_disk}
use Rattle.core_commits.proofs.sights.sights_are_of_one_disk.Goals as goal

pub returns : goal.returns
returns c = record { disk = sights_are_of_the_disk }
