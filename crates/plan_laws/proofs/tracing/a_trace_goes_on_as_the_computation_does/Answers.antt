-- By induction on the computation.
use Rattle.disk_definitions.proofs.Traces.{traces_go_on, traces_meet}
use Rattle.plan_laws.proofs.Traces.{segments_are_traced}
use Rattle.plan_laws.proofs.tracing.a_trace_goes_on_as_the_computation_does.Goals as goal

pub returns-clause-on : goal.returns-clause-on
returns-clause-on c = traces_go_on

pub returns-clause-met : goal.returns-clause-met
returns-clause-met c = traces_meet

pub returns-clause-segments : goal.returns-clause-segments
returns-clause-segments c = segments_are_traced
