-- A lock that is held counts, and one that isn't ends it.
use Rattle.std.proofs.Common.{◌+◌, ap}
use Rattle.set_definitions.specs.Sets.{is_served}
use Rattle.lock_sets.proofs.Along.{held_behind, held_here}
use Rattle.lock_sets.proofs.locks.served.Goals as goal

pub returns-then-missing : goal.returns-then-missing
returns-then-missing c =
    held_here (is_served c.args.table.now.locks c.args.server.0) c.args.locks.now c.loop-need.need-index _ c.loop-need-test.true c.is_unserved-missing.result c.is_unserved-missing.ensures c.loop-need.count c.loop-need.invariant.all c.if-missing.true

pub loop-need-preserved : goal.loop-need-preserved
loop-need-preserved c = record {
  count = ap (λ n. n + 1) c.loop-need.invariant.count;
  all = held_behind (is_served c.args.table.now.locks c.args.server.0) c.args.locks.now c.loop-need.need-index _ c.loop-need-test.true c.is_unserved-missing.result c.is_unserved-missing.ensures c.loop-need.count c.loop-need.invariant.all c.if-missing.false;
}
