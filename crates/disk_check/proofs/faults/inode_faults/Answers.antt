-- Each inode adds its faults to those of the inodes before it.
use Rattle.std.proofs.Common.{◌≡◌, ◌+◌, ◌*◌, [], ◌∙◌, ap, rules}
use Rattle.disk_reading.specs.Marks.{flag_at}
use Rattle.disk_reading.specs.Seen.{store_in}
use Rattle.report_definitions.specs.Sums.{gathered}
use Rattle.report_definitions.specs.Report as report
use Rattle.report_rules.specs.Seen.{stored}
use Rattle.disk_check.specs.Told.{faults_told}
use Rattle.disk_check.proofs.Gathered.{gathered_more}
use Rattle.disk_check.proofs.faults.inode_faults.Goals as goal

pub loop-j-preserved : goal.loop-j-preserved
loop-j-preserved c =
    gathered_more [] (λ j. report.inode_faults (stored c.args.segments (store_in c.args.segments c.args.disk.now)) (flag_at c.args.tables.now.reached) (64 * c.args.k + j)) c.loop-j.j
    (faults_told c.loop-j.faults.items) (faults_told c.push_inode.new.faults.items) c.loop-j.invariant c.in_ok-push_inode.ensures

pub returns : goal.returns
returns c =
    let e : c.loop-j.j ≡ 64 = search rules in
    c.loop-j.invariant ∙ ap (λ n. gathered n (λ j. report.inode_faults (stored c.args.segments (store_in c.args.segments c.args.disk.now)) (flag_at c.args.tables.now.reached) (64 * c.args.k + j))) e
