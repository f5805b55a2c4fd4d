-- Each by its law.
use Rattle.core_histories.proofs.Stepping.{steps_are_told}
use Rattle.core_histories.proofs.steps.steps_are_told.Goals as goal

pub returns : goal.returns
returns c = record {
  steps = steps_are_told c.silent_steps_are_told.ensures.told c.answers_and_closes_are_told.ensures.answers c.answers_and_closes_are_told.ensures.closes c.ends_of_recoveries_are_told.ensures.ends
      c.commits_are_told.ensures.commits;
}
