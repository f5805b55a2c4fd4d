-- Nothing is pending.
use Rattle.core_line_steps.proofs.Claimed.{claimed_are_clean}
use Rattle.core_line_steps.proofs.cleared.what_is_claimed_is_clean.Goals as goal

pub returns : goal.returns
returns c =
    record { clean = claimed_are_clean c.each_key_stands_once.ensures.order c.blocks_stay_whole.ensures.cached c.segments_are_needed_sole.ensures.sole c.covers_of_set_bytes_are_found.ensures.covers }
