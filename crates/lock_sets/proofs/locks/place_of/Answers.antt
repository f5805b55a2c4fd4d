-- The closure compares a lock of these.
use Rattle.std.proofs.Common.{rules}
use Rattle.std.proofs.lemmas.Fn.{always_returns_same}
use Rattle.lock_definitions.specs.Order.{lock_cmp}
use Rattle.lock_definitions.proofs.LockOrder.{lock_total}
use Rattle.sorted_entries.proofs.Spots.{searched, missing}
use Rattle.lock_sets.proofs.locks.place_of.Goals as goal

pub returns-clause-place : goal.returns-clause-place
returns-clause-place c =
    let facts = c.binary_search_by.ensures in
    let by_key = facts.position (λ need. lock_cmp need.0 c.args.lock) (always_returns_same _ _ _ (λ a r f called. search rules)) in
    searched lock_total c.args.lock c.args.locks.now c.requires _ facts.bound by_key

pub returns-clause-missing : goal.returns-clause-missing
returns-clause-missing c = missing lock_total c.args.lock c.args.locks.now c.requires _ (returns-clause-place c)
