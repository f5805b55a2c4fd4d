-- Three rules, pushed one after another.
use Rattle.std.proofs.Common.{ap}
use Rattle.disk_reading.specs.Marks.{flag_at}
use Rattle.report_rules.specs.Seen.{view_in}
use Rattle.disk_check.specs.Told.{faults_told}
use Rattle.disk_check.proofs.Pushed.{segment_pushed}
use Rattle.disk_check.proofs.faults.segment_faults.Goals as goal

pub returns : goal.returns
returns c =
    segment_pushed (view_in c.args.most c.args.segments c.args.disk.now) (flag_at c.args.tables.now.reached)
    (faults_told c.new-faults.result.items) (faults_told c.push.new.faults.items) (faults_told c.push-2.new.faults.items)
    c.are_bits_fine.result c.is_segment_fine.result (faults_told c.push-3.new.faults.items) c.is_mark_fine.result c.args.k
    c.are_bits_fine.ensures c.is_segment_fine.ensures c.is_mark_fine.ensures
    (ap faults_told c.new-faults.ensures.items) c.in_ok-push.ensures c.in_ok-push-2.ensures c.in_ok-push-3.ensures
