-- Plan by plan.
use Rattle.plan_laws.proofs.AllLocks.{locks_cover, walks_are_held}
use Rattle.plan_laws.proofs.covers.locks_cover_what_is_planned.Goals as goal

pub returns-clause-covered : goal.returns-clause-covered
returns-clause-covered c = locks_cover

pub returns-clause-walks : goal.returns-clause-walks
returns-clause-walks c = walks_are_held
