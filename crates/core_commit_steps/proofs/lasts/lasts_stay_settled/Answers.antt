-- By where the last operation ends, and event by event.
use Rattle.core_commit_steps.proofs.Settling.{lasts_stay, settled_reached}
use Rattle.core_commit_steps.proofs.lasts.lasts_stay_settled.Goals as goal

pub returns : goal.returns
returns c = record { reached = settled_reached; stay = lasts_stay }
