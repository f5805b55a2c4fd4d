-- By what a set grows by, step by step.
use Rattle.core_line_sets.proofs.Staying.{sets_stay}
use Rattle.core_line_sets.proofs.sets.sets_stay_of_the_disk.Goals as goal

pub returns : goal.returns
returns c = record { sets = sets_stay c.each_key_stands_once.ensures.order c.blocks_stay_whole.ensures.cached }
