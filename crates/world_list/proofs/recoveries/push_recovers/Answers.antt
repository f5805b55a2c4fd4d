-- One log more, and at last all are listed.
use Rattle.std.proofs.Common.{◌≡◌, arith}
use Rattle.world_list.proofs.RowsAdded.{recovers_added, recovers_more}
use Rattle.world_list.proofs.recoveries.push_recovers.Goals as goal

pub loop-dead-preserved : goal.loop-dead-preserved
loop-dead-preserved c =
    recovers_more c.args.world.now c.args.list.now.items c.loop-dead.list.items c.push_recover.new.list.items c.loop-dead.dead c.loop-dead.invariant c.in_ok-push_recover.ensures

pub returns : goal.returns
returns c =
    let all : c.loop-dead.dead ≡ 16 = omega arith in
    recovers_added c.args.world.now c.args.list.now.items c.loop-dead.list.items c.loop-dead.dead all c.loop-dead.invariant
