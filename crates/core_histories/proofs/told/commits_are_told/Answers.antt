-- Of one line.
use Rattle.core_histories.proofs.Committed.{commits_told}
use Rattle.core_histories.proofs.told.commits_are_told.Goals as goal

pub returns : goal.returns
returns c = record { commits = commits_told c.answers_are_of_lines.ensures.lines c.each_key_stands_once.ensures.order c.blocks_stay_whole.ensures.cached }
