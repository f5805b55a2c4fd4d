-- Over a disk that stands for a tree the locks that are found are the plan's.
use Rattle.std.proofs.Common.{◌≡◌, []}
use Rattle.std.proofs.lemmas.Result.{IfOk-weaker}
use Rattle.set_definitions.specs.Sets.{LockSet, joined_all}
use Rattle.plan_steps.specs.Edits.{edits_of}
use Rattle.disk_definitions.specs.LookedAt.{nodes_in}
use Rattle.disk_definitions.specs.FoundLocks.{finish_locks, owns_at_hand}
use Rattle.plan_locks.specs.Needs.{FinishIsNeeded, MovesAreSole}
use Rattle.lock_sets.specs.Seen.{numbers}
use Rattle.plan_locks.proofs.Needed.{finish_needed, moves_sole}
use Rattle.plan_locks.proofs.locks.locks_of_finish.Goals as goal

pub returns-clause-needed : goal.returns-clause-needed
returns-clause-needed c =
    let hand = c.args.hand.now in
    let looked = numbers c.args.looked.now in
    let edits = edits_of c.args.edits.now in
    IfOk-weaker c.finish_set.result (λ (set : LockSet). set ≡ joined_all [] (finish_locks (owns_at_hand hand.sectors.now.entries) hand.held.now (nodes_in c.args.segments looked) c.args.reply.now edits))
    (FinishIsNeeded hand c.args.segments looked c.args.reply.now edits) (λ set e. finish_needed hand c.args.segments looked c.args.reply.now edits set e) c.finish_set.ensures

pub returns-clause-moves : goal.returns-clause-moves
returns-clause-moves c =
    let hand = c.args.hand.now in
    let looked = numbers c.args.looked.now in
    let edits = edits_of c.args.edits.now in
    IfOk-weaker c.finish_set.result (λ (set : LockSet). set ≡ joined_all [] (finish_locks (owns_at_hand hand.sectors.now.entries) hand.held.now (nodes_in c.args.segments looked) c.args.reply.now edits))
    (MovesAreSole hand c.args.segments looked c.args.reply.now edits)
    (λ set e. moves_sole hand c.args.segments looked c.args.reply.now edits set (finish_needed hand c.args.segments looked c.args.reply.now edits set e)) c.finish_set.ensures
