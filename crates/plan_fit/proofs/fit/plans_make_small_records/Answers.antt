-- By the lemmas over plain variables.
use Rattle.plan_fit.proofs.AllBudgets.{small_records}
use Rattle.plan_fit.proofs.fit.plans_make_small_records.Goals as goal

pub returns : goal.returns
returns c = record { small = small_records }
