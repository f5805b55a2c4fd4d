-- The first moment.
use Rattle.core_world.proofs.First.{first_good, first_moments, stays_good}
use Rattle.core_world.proofs.laws.first_moments_are_worlds.Goals as goal

pub returns : goal.returns
returns c = record { first = first_moments; good = first_good; stays = stays_good }
