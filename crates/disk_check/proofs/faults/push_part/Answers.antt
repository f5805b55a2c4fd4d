-- Two rules, pushed one after another.
use Rattle.disk_reading.specs.Marks.{flag_at}
use Rattle.report_rules.specs.Seen.{view_in}
use Rattle.disk_check.specs.Told.{faults_told}
use Rattle.disk_check.proofs.Pushed.{part_pushed}
use Rattle.disk_check.proofs.faults.push_part.Goals as goal

pub returns : goal.returns
returns c =
    part_pushed (view_in c.args.most c.args.segments c.args.disk.now) (flag_at c.args.tables.now.reached)
    (faults_told c.args.faults.now.items) (faults_told c.push.new.faults.items) (faults_told c.push-2.new.faults.items)
    c.is_sector_fine.result c.are_entries_fine.result c.args.block c.args.part c.is_sector_fine.ensures c.are_entries_fine.ensures
    c.in_ok-push.ensures c.in_ok-push-2.ensures
