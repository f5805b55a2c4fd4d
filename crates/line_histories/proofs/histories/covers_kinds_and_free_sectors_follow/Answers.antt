-- By induction over the history.
use Rattle.line_histories.proofs.Following.{all_follow, all_follow_in_worlds}
use Rattle.line_histories.proofs.histories.covers_kinds_and_free_sectors_follow.Goals as goal

pub returns : goal.returns
returns c = record { histories = all_follow; worlds = all_follow_in_worlds }
