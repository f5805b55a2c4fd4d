-- A lock that is held isn't the first that isn't.
use Rattle.std.proofs.Common.{not}
use Rattle.set_definitions.specs.Sets.{is_served}
use Rattle.lock_sets.proofs.Along.{found_behind}
use Rattle.lock_sets.proofs.locks.first_unserved.Goals as goal

pub loop-need-preserved : goal.loop-need-preserved
loop-need-preserved c =
    found_behind (λ need. not (is_served c.args.table.now.locks c.args.server.0 need)) c.args.locks.now c.loop-need.need-index _ c.loop-need-test.true c.is_unserved-missing.result c.is_unserved-missing.ensures c.if-missing.false c.loop-need.invariant
