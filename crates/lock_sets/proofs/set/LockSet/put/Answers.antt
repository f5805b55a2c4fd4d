-- The locks ascend as before.
use Rattle.lock_sets.proofs.Along.{still_sorted}
use Rattle.lock_sets.proofs.set.LockSet.put.Goals as goal

pub invariant_of-self : goal.invariant_of-self
invariant_of-self c = still_sorted c.put.result c.args.lock c.args.mode _ _ c.self.invariant c.put.ensures.ok c.put.ensures.err
