-- What is asked of a moment is met at the first.
use Rattle.headline_runs.proofs.Along.{first_headline}
use Rattle.headline_runs.proofs.beginnings_keep_the_headline.Goals as goal

pub returns : goal.returns
returns c = record { first = first_headline c.beginnings_are_kept.ensures.first c.moments_keep_the_headline.ensures.moments }
