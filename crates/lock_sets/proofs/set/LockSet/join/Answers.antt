-- The lock is put in the mode that is needed then.
use Rattle.std.proofs.Common.{◌≡◌, OnOk, subst}
use Rattle.std.specs.BTreeMap.{insert_entry}
use Rattle.lock_definitions.specs.Order.{lock_cmp}
use Rattle.lock_sets.proofs.set.LockSet.join.Goals as goal

pub returns-clause-ok : goal.returns-clause-ok
returns-clause-ok c = subst (λ mode. OnOk c.put.result (c.put.new.self ≡ insert_entry lock_cmp c.args.self.now c.args.lock mode)) c.needed-needed.ensures c.put.ensures.ok
