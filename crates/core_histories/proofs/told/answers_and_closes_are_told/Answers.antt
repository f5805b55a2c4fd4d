-- By what the answer is.
use Rattle.core_histories.proofs.Answered.{answers_told, closes_told}
use Rattle.core_histories.proofs.told.answers_and_closes_are_told.Goals as goal

pub returns : goal.returns
returns c = record { answers = answers_told c.answers_are_of_lines.ensures.due c.who_owes_has_stalled.ensures.stalled; closes = closes_told }
