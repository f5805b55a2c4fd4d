-- The walk without its trail.
use Rattle.std.proofs.Common.{ap, ◌∙◌}
use Rattle.namei.specs.Resolutions.{resolved_as}
use Rattle.namei.proofs.resolving.from_root.Goals as goal

pub returns : goal.returns
returns c held = c.answer_of.ensures ∙ ap resolved_as (c.in_ok-walked.ensures.leads held)
