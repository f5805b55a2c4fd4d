-- Four rules, pushed one after another.
use Rattle.disk_reading.specs.Marks.{flag_at}
use Rattle.disk_reading.specs.Seen.{store_in}
use Rattle.report_rules.specs.Seen.{stored}
use Rattle.disk_check.specs.Told.{faults_told}
use Rattle.disk_check.proofs.Pushed.{inode_pushed}
use Rattle.disk_check.proofs.faults.push_inode.Goals as goal

pub returns : goal.returns
returns c =
    inode_pushed (stored c.args.segments (store_in c.args.segments c.args.disk.now)) (flag_at c.args.tables.now.reached)
    (faults_told c.args.faults.now.items) (faults_told c.push.new.faults.items) (faults_told c.push-2.new.faults.items)
    c.is_root_fine.result c.is_count_fine.result (faults_told c.push-3.new.faults.items) c.is_named_once.result c.args.i (faults_told c.push-4.new.faults.items) c.are_blocks_fine.result
    c.is_root_fine.ensures c.is_count_fine.ensures c.is_named_once.ensures c.are_blocks_fine.ensures
    c.in_ok-push.ensures c.in_ok-push-2.ensures c.in_ok-push-3.ensures c.in_ok-push-4.ensures
