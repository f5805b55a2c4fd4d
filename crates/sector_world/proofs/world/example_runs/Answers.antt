-- The runs, step by step.
use Rattle.sector_world.proofs.Examples.{lost_world, is_lost, kept_world, is_kept, failed_world, is_failed, renewed_world, handed_world, is_handed, twice_world, is_twice, late_world, is_late, before_read, after_read, is_read, claimed_world, is_claimed, freed_world, is_freed, retaken_world, is_retaken}
use Rattle.sector_world.proofs.world.example_runs.Goals as goal

pub returns-clause-lost : goal.returns-clause-lost
returns-clause-lost c = (lost_world, is_lost)

pub returns-clause-kept : goal.returns-clause-kept
returns-clause-kept c = (kept_world, is_kept)

pub returns-clause-failed : goal.returns-clause-failed
returns-clause-failed c = (failed_world, is_failed)

pub returns-clause-handed : goal.returns-clause-handed
returns-clause-handed c = (renewed_world, handed_world, is_handed)

pub returns-clause-twice : goal.returns-clause-twice
returns-clause-twice c = (twice_world, is_twice)

pub returns-clause-late : goal.returns-clause-late
returns-clause-late c = (late_world, is_late)

pub returns-clause-read : goal.returns-clause-read
returns-clause-read c = (before_read, after_read, is_read)

pub returns-clause-claimed : goal.returns-clause-claimed
returns-clause-claimed c = (claimed_world, is_claimed)

pub returns-clause-freed : goal.returns-clause-freed
returns-clause-freed c = (freed_world, is_freed)

pub returns-clause-retaken : goal.returns-clause-retaken
returns-clause-retaken c = (retaken_world, is_retaken)
