-- By induction over the history, and by the theorem on sectors.
use Rattle.line_histories.proofs.Runs.{histories_of_one_tree, worlds_of_one_tree, runs_of_one_tree}
use Rattle.line_histories.proofs.histories.histories_are_of_one_tree.Goals as goal

pub returns : goal.returns
returns c = record { histories = histories_of_one_tree; worlds = worlds_of_one_tree; runs = runs_of_one_tree }
