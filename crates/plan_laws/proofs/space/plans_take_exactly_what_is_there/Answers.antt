-- By what each plan comes to.
use Rattle.plan_laws.proofs.AllPlans.{lacks_exactly, clears_exactly, says_full_exactly}
use Rattle.plan_laws.proofs.space.plans_take_exactly_what_is_there.Goals as goal

pub returns-clause-lacks : goal.returns-clause-lacks
returns-clause-lacks c = lacks_exactly

pub returns-clause-clears : goal.returns-clause-clears
returns-clause-clears c = clears_exactly

pub returns-clause-says_full : goal.returns-clause-says_full
returns-clause-says_full c = says_full_exactly
