-- Step by step.
use Rattle.core_facts.proofs.Wholeness.{cached_whole, disk_whole}
use Rattle.core_facts.proofs.blocks.blocks_stay_whole.Goals as goal

pub returns : goal.returns
returns c = record { disk = disk_whole; cached = cached_whole }
