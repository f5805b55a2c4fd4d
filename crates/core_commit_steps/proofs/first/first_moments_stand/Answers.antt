-- Nothing has happened.
use Rattle.core_commit_steps.proofs.Starting.{first_stand}
use Rattle.core_commit_steps.proofs.first.first_moments_stand.Goals as goal

pub returns : goal.returns
returns c = record { first = first_stand c.first_moments_are_worlds.ensures.first c.first_moments_are_worlds.ensures.good c.room_is_kept.ensures.first }
