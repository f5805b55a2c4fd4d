-- By whether there is one.
use Rattle.std.proofs.Common.{[], sym, ap}
use Rattle.disk_definitions.specs.FilePlans.{large_segment}
use Rattle.dir_lookup.proofs.Looking.{adds_as, adds_none}
use Rattle.plan_steps.specs.Looking.{looked_over}
use Rattle.op_data.proofs.segments.large_held.Goals as goal

pub returns-in-Some-clause-looks : goal.returns-in-Some-clause-looks
returns-in-Some-clause-looks c = adds_as _ _ _ _ (ap (λ o. looked_over c.args.held.now (large_segment o)) (sym c.in-Some.is)) c.segment_held.ensures.looks

pub returns-in-None-clause-looks : goal.returns-in-None-clause-looks
returns-in-None-clause-looks c = adds_as _ _ [] _ (ap (λ o. looked_over c.args.held.now (large_segment o)) (sym c.in-None.is)) (adds_none _)
