-- A value more for each fault.
use Rattle.std.proofs.Common.{arith}
use Rattle.fsck_report.proofs.Lines.{values_more, values_all}
use Rattle.fsck_report.proofs.line.fault_values.Goals as goal

pub loop-fault-preserved : goal.loop-fault-preserved
loop-fault-preserved c =
    values_more c.loop-fault.values.items c.push.new.self.items c.in_ok-fault_value.field-0 c.args.faults.now c.loop-fault.fault-index _ c.loop-fault.invariant c.in_ok-push.ensures.items c.in_ok-fault_value.ensures c.loop-fault-test.true

pub returns : goal.returns
returns c = values_all c.loop-fault.values.items c.args.faults.now c.loop-fault.fault-index c.loop-fault.invariant (omega arith)
