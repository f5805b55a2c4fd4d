-- Over a disk that stands for a tree the locks that are found are the plan's.
use Rattle.std.proofs.lemmas.Result.{IfOk-weaker}
use Rattle.set_definitions.specs.Sets.{LockSet, joined_all}
use Rattle.std.proofs.Common.{◌≡◌, []}
use Rattle.disk_definitions.specs.LookedAt.{nodes_in}
use Rattle.disk_definitions.specs.FoundLocks.{clear_locks}
use Rattle.plan_locks.specs.Needs.{ClearIsNeeded}
use Rattle.lock_sets.specs.Seen.{numbers}
use Rattle.plan_locks.proofs.Needed.{clear_needed}
use Rattle.plan_locks.proofs.locks.locks_of_clear.Goals as goal

pub returns-clause-needed : goal.returns-clause-needed
returns-clause-needed c =
    let looked = numbers c.args.looked.now in
    IfOk-weaker c.clear_set.result (λ (set : LockSet). set ≡ joined_all [] (clear_locks c.args.over.now (nodes_in c.args.segments looked) c.args.block)) (ClearIsNeeded c.args.segments looked c.args.over.now c.args.block)
    (λ set e. clear_needed c.args.segments looked c.args.over.now c.args.block set e) c.clear_set.ensures
