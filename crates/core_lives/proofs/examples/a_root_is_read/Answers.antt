-- By computation, and the law of all steps.
use Rattle.core_lives.proofs.Empty.{roots_are_read}
use Rattle.core_lives.proofs.examples.a_root_is_read.Goals as goal

pub returns : goal.returns
returns c = record { read = roots_are_read c.first_moments_are_worlds.ensures.first c.first_moments_are_worlds.ensures.good c.steps_go_on.ensures.steps }
