-- A Commit, and a Clear.
use Rattle.core_line_steps.proofs.Claimed.{commits_keep_cleared}
use Rattle.core_line_steps.proofs.Zeroed.{clears_keep}
use Rattle.core_line_steps.proofs.cleared.lines_keep_what_is_cleared.Goals as goal

pub returns : goal.returns
returns c = record {
  commit = commits_keep_cleared c.each_key_stands_once.ensures.order c.blocks_stay_whole.ensures.cached c.segments_are_needed_sole.ensures.sole c.covers_of_set_bytes_are_found.ensures.covers;
  clear = clears_keep;
}
