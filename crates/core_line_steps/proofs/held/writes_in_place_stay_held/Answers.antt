-- Nothing is pending.
use Rattle.core_line_steps.proofs.HeldMoment.{held_hold, steps_keep_held}
use Rattle.core_line_steps.proofs.held.writes_in_place_stay_held.Goals as goal

pub returns : goal.returns
returns c = record { steps = steps_keep_held c.each_key_stands_once.ensures.order c.who_rests_has_nothing.ensures.landed; covers = held_hold }
