-- Each part adds its faults to those of the parts before it.
use Rattle.std.proofs.Common.{◌≡◌, ◌++◌, ◌∙◌, ap, rules}
use Rattle.disk_reading.specs.Marks.{flag_at}
use Rattle.report_definitions.specs.Sums.{gathered}
use Rattle.report_definitions.specs.Report as report
use Rattle.report_rules.specs.Seen.{view_in}
use Rattle.disk_check.specs.Told.{faults_told}
use Rattle.disk_check.proofs.Gathered.{gathered_more}
use Rattle.disk_check.proofs.faults.push_parts.Goals as goal

pub loop-part-preserved : goal.loop-part-preserved
loop-part-preserved c =
    gathered_more (faults_told c.args.faults.now.items) (report.part_faults (view_in c.args.most c.args.segments c.args.disk.now) (flag_at c.args.tables.now.reached) c.args.block) c.loop-part.part
    (faults_told c.loop-part.faults.items) (faults_told c.push_part.new.faults.items) c.loop-part.invariant c.in_ok-push_part.ensures

pub returns : goal.returns
returns c =
    let e : c.loop-part.part ≡ 8 = search rules in
    c.loop-part.invariant ∙ ap (λ n. faults_told c.args.faults.now.items ++ gathered n (report.part_faults (view_in c.args.most c.args.segments c.args.disk.now) (flag_at c.args.tables.now.reached) c.args.block)) e
