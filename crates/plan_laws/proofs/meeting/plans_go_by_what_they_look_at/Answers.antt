-- By induction on the computation.
use Rattle.plan_laws.proofs.Asking.{goes_on, meets_its_value, goes_by_what_it_looks_at, segments_are_looked_at}
use Rattle.plan_laws.proofs.meeting.plans_go_by_what_they_look_at.Goals as goal

pub returns-clause-on : goal.returns-clause-on
returns-clause-on c = goes_on

pub returns-clause-met : goal.returns-clause-met
returns-clause-met c = meets_its_value

pub returns-clause-framed : goal.returns-clause-framed
returns-clause-framed c = goes_by_what_it_looks_at

pub returns-clause-segments : goal.returns-clause-segments
returns-clause-segments c = segments_are_looked_at
