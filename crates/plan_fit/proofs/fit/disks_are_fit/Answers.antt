-- By the lemmas over plain variables.
use Rattle.plan_fit.proofs.DecodedEntries.{disks_fit}
use Rattle.plan_fit.proofs.fit.disks_are_fit.Goals as goal

pub returns : goal.returns
returns c = record { fit = disks_fit }
