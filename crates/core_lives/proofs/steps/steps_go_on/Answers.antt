-- Step by step, by its law.
use Rattle.core_lives.proofs.GoingOn.{steps_go_on}
use Rattle.core_lives.proofs.steps.steps_go_on.Goals as goal

pub returns : goal.returns
returns c = record {
  steps = steps_go_on c.lives_lead_on.ensures.lives c.leaves_lead_on.ensures.unmount c.leaves_lead_on.ensures.close c.mounts_lead_on.ensures.mount c.room_is_kept.ensures.kept;
}
