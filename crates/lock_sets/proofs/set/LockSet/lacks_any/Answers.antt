-- The first lock that is left lacks, or the others go on.
use Rattle.set_definitions.specs.Sets.{lacks}
use Rattle.lock_sets.proofs.Along.{any_behind, any_here}
use Rattle.lock_sets.proofs.set.LockSet.lacks_any.Goals as goal

pub returns-then-missing : goal.returns-then-missing
returns-then-missing c =
    any_here (lacks c.args.self.now) c.args.needs.now c.loop-need.need-index _ c.loop-need-test.true c.lacks-missing.result c.lacks-missing.ensures c.if-missing.true c.loop-need.invariant

pub loop-need-preserved : goal.loop-need-preserved
loop-need-preserved c =
    any_behind (lacks c.args.self.now) c.args.needs.now c.loop-need.need-index _ c.loop-need-test.true c.lacks-missing.result c.lacks-missing.ensures c.if-missing.false c.loop-need.invariant
