-- At each prefix, by the moment before which it was witnessed.
use Rattle.headline_runs.proofs.Prefixes.{runs_keep_by_steps}
use Rattle.headline_runs.proofs.runs_keep_the_headline_by_steps.Goals as goal

pub returns : goal.returns
returns c = record {
  runs = runs_keep_by_steps c.runs_have_their_faults.ensures.theirs c.each_prefix_has_its_faults.ensures.through c.beginnings_are_kept.ensures.first c.runs_stand_along.ensures.along
      c.moments_keep_the_headline.ensures.moments;
}
