-- Computed, and by the law of answers.
use Rattle.core_histories.proofs.Example.{down_is_told, lines_are_told_twice}
use Rattle.core_histories.proofs.examples.a_few_lines_are_told.Goals as goal

pub returns : goal.returns
returns c = record { down = down_is_told c.first_moments_are_worlds.ensures.good c.answers_and_closes_are_told.ensures.answers; twice = lines_are_told_twice }
