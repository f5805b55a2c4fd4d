-- By the nodes that each plan touches.
use Rattle.plan_laws.proofs.TouchedHeld.{walks_are_held}
use Rattle.plan_laws.proofs.covers.walks_are_held.Goals as goal

pub returns : goal.returns
returns c = record { held = walks_are_held }
