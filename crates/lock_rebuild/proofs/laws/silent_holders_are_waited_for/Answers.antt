-- The table has such a hold, or its server is silent.
use Rattle.lock_rebuild.proofs.Guarding.{waited_for}
use Rattle.lock_rebuild.proofs.laws.silent_holders_are_waited_for.Goals as goal

pub returns : goal.returns
returns c = λ lost are listed guard are_guard is silent calls server lock mode grants. waited_for lost are listed guard are_guard is silent calls server lock mode grants.0 grants.1
