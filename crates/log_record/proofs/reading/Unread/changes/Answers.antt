-- One more is read in each turn, and nothing where one can't be.
use Rattle.std.proofs.Common.{◌+◌, ◌-◌, arith}
use Rattle.disk_definitions.specs.Records.{all_read, change_read}
use Rattle.log_record.proofs.RecordSteps.{read_first, read_last, read_more, read_none}
use Rattle.log_record.proofs.reading.Unread.changes.Goals as goal

pub loop-init : goal.loop-init
loop-init c = read_first change_read (c.args.count - 0) c.args.count c.new-changes.result.items c.args.self.now.bytes.now (omega arith) c.new-changes.ensures.items

pub returns-in_default : goal.returns-in_default
returns-in_default c =
    read_none change_read (c.args.count - c.loop.counter) (c.args.count - (c.loop.counter + 1)) c.loop.changes.items c.loop.self.bytes.now c.change.new.self.bytes.now
    (all_read change_read c.args.count c.args.self.now.bytes.now) c.in_ok-change.field-0 (omega (arith, c.loop-test.true)) c.in_ok-change.ensures c.in_default.is c.loop.invariant

pub loop-preserved : goal.loop-preserved
loop-preserved c =
    read_more change_read (c.args.count - c.loop.counter) (c.args.count - (c.loop.counter + 1)) c.loop.changes.items c.push.new.self.items c.loop.self.bytes.now c.in-Some.change c.change.new.self.bytes.now
    (all_read change_read c.args.count c.args.self.now.bytes.now) c.in_ok-change.field-0 (omega (arith, c.loop-test.true)) c.in_ok-push.ensures.items c.in_ok-change.ensures c.in-Some.is c.loop.invariant

pub returns : goal.returns
returns c =
    read_last change_read (c.args.count - c.loop.counter) c.loop.changes.items c.loop.self.bytes.now (all_read change_read c.args.count c.args.self.now.bytes.now) (omega (arith, c.loop-test.false)) c.loop.invariant
