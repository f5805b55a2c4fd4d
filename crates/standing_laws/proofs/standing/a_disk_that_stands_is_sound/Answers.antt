-- By what a picture says of each test.
use Rattle.standing_laws.proofs.StandingTree.{standing_is_sound}
use Rattle.standing_laws.proofs.standing.a_disk_that_stands_is_sound.Goals as goal

pub returns : goal.returns
returns c = record { sound = standing_is_sound }
