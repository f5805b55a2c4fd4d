-- Nothing is pending.
use Rattle.core_line_steps.proofs.HeldMoment.{lines_move_held}
use Rattle.core_line_steps.proofs.held.lines_move_under_held_locks.Goals as goal

pub returns : goal.returns
returns c =
    record { moves = lines_move_held c.each_key_stands_once.ensures.order c.blocks_stay_whole.ensures.cached c.segments_are_needed_sole.ensures.sole c.covers_of_set_bytes_are_found.ensures.covers }
