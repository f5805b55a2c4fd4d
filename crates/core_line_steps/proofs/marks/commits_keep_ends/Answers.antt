-- By the last number, sector by sector.
use Rattle.core_line_steps.proofs.Marked.{commits_keep_ends}
use Rattle.core_line_steps.proofs.marks.commits_keep_ends.Goals as goal

pub returns : goal.returns
returns c =
    record { ends = commits_keep_ends c.each_key_stands_once.ensures.order c.blocks_stay_whole.ensures.cached c.segments_are_needed_sole.ensures.sole c.covers_of_set_bytes_are_found.ensures.covers }
