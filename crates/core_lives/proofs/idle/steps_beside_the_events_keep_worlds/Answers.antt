-- Step by step.
use Rattle.core_lives.proofs.Idling.{entered_keeps, flushed_keeps, held_keeps, noted_keeps, peeked_keeps, relocked_keeps}
use Rattle.core_lives.proofs.idle.steps_beside_the_events_keep_worlds.Goals as goal

pub returns : goal.returns
returns c = record { enter = entered_keeps; hold = held_keeps; flush = flushed_keeps; relock = relocked_keeps; note = noted_keeps; peek = peeked_keeps }
