-- One birth more.
use Rattle.disk_reading.specs.Reach.{nodes_at}
use Rattle.disk_reading.proofs.ReachLaws.{spread_step}
use Rattle.disk_reading.proofs.reached.spread.Goals as goal

pub loop-birth-preserved : goal.loop-birth-preserved
loop-birth-preserved c = spread_step (nodes_at c.args.nodes.now.entries) c.args.flags.now c.loop-birth.birth c.loop-birth.flags c.reach_birth.new.flags c.requires.sorted c.loop-birth.invariant c.reach_birth.ensures.on c.reach_birth.ensures.off
