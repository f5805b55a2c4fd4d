-- By the definitions, and since bytes decide nothing.
use Rattle.line_histories.proofs.MayBePlanned.{test_says}
use Rattle.line_histories.proofs.Outcomes.{outcomes_of_plans, makes_of_edits}
use Rattle.line_histories.proofs.commits.outcomes_are_of_plans.Goals as goal

pub returns : goal.returns
returns c = record { says = test_says; plans = outcomes_of_plans; makes = makes_of_edits }
